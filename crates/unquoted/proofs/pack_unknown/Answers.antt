-- `unquoted::pack_unknown`: by the reading. Assumes nothing.
use Rattle.unquoted.proofs.pack_unknown.Goals as goal

pub returns-in-First : goal.returns-in-First
returns-in-First c = rw c.in-First.is c.packed.ensures

pub returns-in-Strict : goal.returns-in-Strict
returns-in-Strict c = rw c.in-Strict.is c.pack_alone.ensures
