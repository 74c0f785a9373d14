-- `cells::record_behind`: where the record ends, the next one starts. Assumes nothing.
use mathlib.Core.Path.{sym, ◌∙◌}
use Rattle.cells.proofs.Offsets.{behind-none, behind-one}
use Rattle.cells.proofs.Cells.{leapt, leapt-none}
use Rattle.cells.proofs.record_behind.Goals as goal

pub returns-in-Some : goal.returns-in-Some
returns-in-Some c = behind-one _ _ _ _ _ (leapt _ _ (sym c.leap_from.ensures ∙ c.in-Some.is)).is

pub returns-in-None : goal.returns-in-None
returns-in-None c = behind-none _ _ (leapt-none _ (sym c.leap_from.ensures ∙ c.in-None.is))
