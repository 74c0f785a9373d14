-- `unquoted::pack_point`: by the reading. Assumes nothing.
use Rattle.unquoted.proofs.pack_point.Goals as goal

pub returns-in-First : goal.returns-in-First
returns-in-First c = rw c.in-First.is c.pack_first_point.ensures

pub returns-in-Strict : goal.returns-in-Strict
returns-in-Strict c = rw c.in-Strict.is c.pack_alone.ensures
