-- `number_cases::equal_case`. Assumes nothing.
use mathlib.Core.Logic.{inl, inr}
use Rattle.number_cases.specs.Numbers.{equal_case}
use Rattle.number_cases.proofs.equal_case.Goals as goal

pub returns-in-Equal : goal.returns-in-Equal
unfolding equal_case
returns-in-Equal c = rw c.in-Equal.is

pub returns-in-Less : goal.returns-in-Less
unfolding equal_case
returns-in-Less c = elim c.in-Less.is [ inl e ↦ rw e | inr e ↦ rw e ]
