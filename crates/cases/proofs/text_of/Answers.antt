-- `cases::text_of`: without the mark that opens a quoted one. Assumes nothing.
use mathlib.Core.Path.{◌∙◌}
use Rattle.cases.proofs.Cases.{unmarked-other, unmarked-quoted}
use Rattle.cases.proofs.text_of.Goals as goal

pub returns-in-Quoted : goal.returns-in-Quoted
returns-in-Quoted c = c.rest.ensures ∙ unmarked-quoted _ _ c.in-Quoted.is

pub returns-in_default : goal.returns-in_default
returns-in_default c = unmarked-other _ _ c.in_default.not-Quoted
