-- `entries::token_at`: four numbers. Assumes nothing.
use mathlib.Core.Path.{sym}
use Rattle.entries.proofs.Offsets.{token-at}
use Rattle.entries.proofs.token_at.Goals as goal

pub returns : goal.returns
returns c =
    rw (
      c.u32_at.ensures,
      c.u32_at-2.ensures,
      c.u32_at-3.ensures,
      c.u32_at-4.ensures,
    )
    (sym (token-at c.args.store.now c.args.at))
