-- `entries::parts_at`: part by part. Assumes nothing.
use mathlib.Core.Path.{sym}
use Rattle.entries.proofs.Offsets.{parts_at}
use Rattle.entries.proofs.parts_at.Goals as goal

pub returns : goal.returns
returns c =
    rw (c.u32_at.ensures, c.u64_at.ensures, c.u32_at-2.ensures)
    (sym (parts_at c.args.store.now c.args.at c.args.uncertainty))
