-- `numerals::fraction_length` meets its contract. Assumes nothing.
use mathlib.Core.Path.{sym, ap}
use native.Mathlib.Omega.{arith}
use lib.ListN.{length}
use Rattle.numbers.proofs.Rendered.{fraction-none, fraction-size}
use Rattle.numerals.proofs.fraction_length.Goals as goal

pub returns-then-places-gt0 : goal.returns-then-places-gt0
returns-then-places-gt0 c = sym (fraction-size _ _ (λ z. omega arith))

pub returns : goal.returns
returns c = sym (ap length (fraction-none _ _ (omega arith)))
