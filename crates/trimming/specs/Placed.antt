-- A place by its three numbers, as the functions here take it. Assumes nothing.
use Rattle.std.specs.Prelude.{ℕ}
use Rattle.places.specs.declared.Place.{Place}

unfoldable pub placed : ℕ → ℕ → ℕ → Place
placed o l k = record { offset = o; line = l; column = k }
