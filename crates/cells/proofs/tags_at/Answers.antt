-- `cells::tags_at`: by the record that stands there. Assumes nothing.
use Rattle.cells.specs.Walk.{count_of}
use Rattle.cells.proofs.tags_at.Goals as goal

pub returns-in-Some : goal.returns-in-Some
unfolding count_of
returns-in-Some c = rw (c.in-Loop.is, ← c.read_record.ensures, c.in-Some.is)

pub returns-in-None : goal.returns-in-None
unfolding count_of
returns-in-None c = rw (c.in-Loop.is, ← c.read_record.ensures, c.in-None.is)
