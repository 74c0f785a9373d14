-- A store with its area, as the code passes it on. Assumes nothing.
use Rattle.std.specs.Prelude.{List, ℕ}
use Rattle.cells.specs.declared.Side.{Side}

-- what is defined of two stores and their areas, of two sides
abbrev pub between {ℓ} : {X : Type ℓ} → (List ℕ → List ℕ → List ℕ → List ℕ → X) → Side → Side → X
between f here there = f here.store.now here.area.now there.store.now there.area.now
