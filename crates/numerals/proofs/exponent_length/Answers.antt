-- `numerals::exponent_length` meets its contract. Assumes nothing.
use mathlib.Core.Path.{sym, ap}
use native.Mathlib.Omega.{arith}
use lib.ListN.{length}
use Rattle.numbers.proofs.Rendered.{exponent-none, exponent-size, sign-short, plain-short}
use Rattle.numerals.proofs.exponent_length.Goals as goal

pub overflow_add-result : goal.overflow_add-result
overflow_add-result c = omega (arith, c.sign_length.ensures, sign-short c.args.lowers)

pub overflow_add-result-then-exponent-gt0 : goal.overflow_add-result-then-exponent-gt0
overflow_add-result-then-exponent-gt0 c = omega (arith, c.sign_length.ensures, c.digit_count.ensures, sign-short c.args.lowers, plain-short c.args.exponent)

pub returns-then-exponent-gt0 : goal.returns-then-exponent-gt0
returns-then-exponent-gt0 c = omega (arith, c.sign_length.ensures, c.digit_count.ensures, exponent-size c.args.lowers c.args.exponent (λ z. omega arith))

pub returns : goal.returns
returns c = sym (ap length (exponent-none _ _ (omega arith)))
