-- `numerals::uncertainty_length` meets its contract. Assumes nothing.
use mathlib.Core.Path.{sym, ap}
use native.Mathlib.Omega.{arith}
use lib.ListN.{length}
use Rattle.numbers.proofs.Rendered.{uncertainty-none, uncertainty-size, plain-short}
use Rattle.numerals.proofs.uncertainty_length.Goals as goal

pub overflow_add-result : goal.overflow_add-result
overflow_add-result c = omega (arith, c.digit_count.ensures, plain-short c.args.uncertainty)

pub returns-then-uncertain : goal.returns-then-uncertain
returns-then-uncertain c = omega (arith, c.digit_count.ensures, uncertainty-size c.args.uncertain c.args.uncertainty c.if-uncertain.true)

pub returns : goal.returns
returns c = sym (ap length (uncertainty-none _ _ c.if-uncertain.false))
