-- An entry seen from the other side: what only the old store has, only the new one has; the larger is the smaller; and the two records change places. Assumes nothing.
use Rattle.number_cases.specs.declared.Case.{Case}
use Rattle.number_cases.specs.declared.Case.TheVariants.{Same, OnlyOld, OnlyNew, Different, OldLarger, NewLarger, Uncertainty, Rewritten}
use Rattle.changes.specs.declared.Change.{Change}

unfoldable pub turned_case : Case → Case
turned_case Same = Same
turned_case OnlyOld = OnlyNew
turned_case OnlyNew = OnlyOld
turned_case Different = Different
turned_case OldLarger = NewLarger
turned_case NewLarger = OldLarger
turned_case Uncertainty = Uncertainty
turned_case Rewritten = Rewritten

unfoldable pub turned : Change → Change
turned c = record { case = turned_case c.case; old = c.new; new = c.old }
