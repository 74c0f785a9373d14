-- `enclosed::pack_semicolon`: by the reading. Assumes nothing.
use Rattle.enclosed.proofs.pack_semicolon.Goals as goal

pub returns-in-First : goal.returns-in-First
returns-in-First c = rw c.in-First.is c.pack_field.ensures

pub returns-in-Strict : goal.returns-in-Strict
returns-in-Strict c = rw c.in-Strict.is c.pack_strict_semicolon.ensures
