-- `matching::told`: by what was seen. Assumes nothing.
use Rattle.matching.specs.Matching.{told_of}
use Rattle.matching.proofs.told.Goals as goal

pub returns-in-Some : goal.returns-in-Some
unfolding told_of
returns-in-Some c = rw c.in-Some.is

pub returns-in-None : goal.returns-in-None
unfolding told_of
returns-in-None c = rw c.in-None.is
