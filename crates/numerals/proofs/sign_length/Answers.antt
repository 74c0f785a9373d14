-- `numerals::sign_length` meets its contract. Assumes nothing.
use mathlib.Core.Path.{sym, ap}
use lib.ListN.{length}
use Rattle.numbers.proofs.Rendered.{sign-minus, sign-plus}
use Rattle.numerals.proofs.sign_length.Goals as goal

pub returns-then-minus : goal.returns-then-minus
returns-then-minus c = sym (ap length (sign-minus _ c.if-minus.true))

pub returns : goal.returns
returns c = sym (ap length (sign-plus _ c.if-minus.false))
