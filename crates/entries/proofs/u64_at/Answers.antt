-- `entries::u64_at`: two fours. Assumes nothing.
use mathlib.Core.Path.{sym}
use Rattle.entries.proofs.Offsets.{de64-at}
use Rattle.entries.proofs.u64_at.Goals as goal

pub returns : goal.returns
returns c =
    rw (c.u32_at-low.ensures, c.u32_at-high.ensures) (sym (de64-at c.args.store.now c.args.at))
