-- `steps::bytes_at`: the content of the record that stands there, if one does. Assumes nothing.
use Rattle.std.proofs.Common.{◌∙◌}
use Rattle.steps.specs.Steps.{held_by, held_at}
use Rattle.steps.proofs.bytes_at.Goals as goal

pub returns-in-Some : goal.returns-in-Some
unfolding held_at held_by
returns-in-Some c = c.content.ensures ∙ rw (← c.in-Some.ensures)

pub returns-in-None : goal.returns-in-None
unfolding held_at held_by
returns-in-None c = rw (← c.in-None.ensures)
