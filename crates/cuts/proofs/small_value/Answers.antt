-- `numbers::small_value`: nine digits fit 32 bits. Assumes nothing.
use native.Mathlib.Omega.{arith}
use Rattle.cuts.proofs.DigitRuns.{run_fits}
use Rattle.cuts.proofs.small_value.Goals as goal

pub overflow_cast-result : goal.overflow_cast-result
overflow_cast-result c = rw c.digits_value.ensures (omega (arith, run_fits 9 c.requires.0 c.requires.1))
