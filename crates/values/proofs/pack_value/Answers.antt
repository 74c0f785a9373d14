-- `values::pack_value`: by the reading. Assumes nothing.
use mathlib.Core.Path.{refl}
use Rattle.values.proofs.pack_value.Goals as goal

pub pack_parted-requires : goal.pack_parted-requires
pack_parted-requires c = record { short = c.requires; apart = λ w. refl }

pub returns-in-First : goal.returns-in-First
returns-in-First c = rw c.in-First.is c.pack_parted.ensures

pub returns-in-Strict : goal.returns-in-Strict
returns-in-Strict c = rw c.in-Strict.is c.pack_strict.ensures
