-- `entries::u32_at`: the four bytes are those from the offset on. Assumes nothing.
use native.Mathlib.Omega.{arith}
use Rattle.entries.proofs.Offsets.{de32-at}
use Rattle.entries.proofs.u32_at.Goals as goal

pub returns : goal.returns
returns c = omega (arith, c.from_le_bytes.ensures, de32-at c.args.store.now c.args.at)
