-- `number_cases::numbers_case`: equal parts first, then the order of values, then that of uncertainties. Assumes nothing.
use mathlib.Core.Path.{sym, ◌∙◌}
use Rattle.number_cases.specs.Numbers.{numbers_case, number_case}
use Rattle.number_cases.proofs.Cases.{same_none}
use Rattle.number_cases.proofs.numbers_case.Goals as goal

pub returns-then-same_number : goal.returns-then-same_number
returns-then-same_number c = same_none _ _ _ _ (sym c.same_number.ensures ∙ c.if-same_number.true)

pub returns-in-Greater : goal.returns-in-Greater
unfolding numbers_case number_case
returns-in-Greater c = rw (← c.order_values.ensures, c.in-Greater.is)

pub returns-in-Less : goal.returns-in-Less
unfolding numbers_case number_case
returns-in-Less c = rw (← c.order_values.ensures, c.in-Less.is)

pub returns-in-Equal : goal.returns-in-Equal
unfolding numbers_case number_case
returns-in-Equal c = c.equal_case.ensures ∙ rw (← c.order_values.ensures, c.in-Equal.is, c.order_uncertainties.ensures, ← c.same_number.ensures, c.if-same_number.false)
