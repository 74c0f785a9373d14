-- `number_cases::same_number`. Assumes nothing.
use mathlib.Core.Path.{sym, ◌∙◌}
use Rattle.number_cases.specs.Numbers.{same_parts}
use Rattle.number_cases.proofs.Cases.{and-true, and-false}
use Rattle.number_cases.proofs.same_number.Goals as goal

pub returns-then-eq : goal.returns-then-eq
unfolding same_parts
returns-then-eq c = and-true _ _ (sym c.eq.ensures ∙ c.if-eq.true)

pub returns-else-eq : goal.returns-else-eq
unfolding same_parts
returns-else-eq c = rw c.if-eq.false (and-false _ _ (sym c.eq.ensures ∙ c.if-eq.false))
