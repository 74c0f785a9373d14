-- `numerals::put_byte` meets its contract. Assumes nothing.
use mathlib.Core.Path.{refl}
use native.Mathlib.Omega.{arith}
use Rattle.records.proofs.Putting.{set-put}
use Rattle.numerals.proofs.put_byte.Goals as goal

pub returns : goal.returns
returns c = record { bytes = set-put _ _ _ (omega arith); next = refl }
