-- `number_cases::Case::number`. Assumes nothing.
use mathlib.Core.Path.{◌≡◌, refl}
use denote.Enum.Declared.{tag_of}
use Rattle.number_cases.specs.declared.Case.{Case}
use Rattle.number_cases.specs.declared.Case.TheVariants.{Same, OnlyOld, OnlyNew, Different, OldLarger, NewLarger, Uncertainty, Rewritten}
use Rattle.number_cases.specs.contracts.Case.{the_type}
use Rattle.number_cases.specs.Numbers.{case_number}
use Rattle.number_cases.proofs.Case.number.Goals as goal

numbered : (k : Case) → tag_of the_type k ≡ case_number k
unfolding case_number
numbered Same = refl
numbered OnlyOld = refl
numbered OnlyNew = refl
numbered Different = refl
numbered OldLarger = refl
numbered NewLarger = refl
numbered Uncertainty = refl
numbered Rewritten = refl

pub returns : goal.returns
returns c = numbered c.args.self
