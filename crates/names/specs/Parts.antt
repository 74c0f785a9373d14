-- A name as it is found in a store. Assumes nothing.
use Rattle.names.specs.declared.Named.{Named}
use Rattle.names.specs.Names.{Name}

-- by its record's number, its scope and its bytes
abbrev pub name_of : Named → Name
name_of x = record { number = x.number; scope = x.scope; bytes = x.bytes.now }
