-- A walk from name to name, whatever its names are, and what a search in it answers. Assumes nothing.
use Rattle.std.specs.Prelude.{ℕ, ◌+◌, ◌≡◌, List, [], ◌∷◌, drop, Option as Maybe, Some, None}
use Rattle.std.proofs.Math.Option.{Option, none, some}
use Rattle.names.specs.declared.Named.{Named}
use Rattle.names.specs.Names.{Name}
use Rattle.names.specs.Parts.{name_of}

-- a search's answer in the code's words
unfoldable pub maybe : Option ℕ → Maybe ℕ
maybe (some i) = Some i
maybe none = None

-- a step of a walk tells the next name, and where the walk stands behind it
unfoldable pub Tells : {W : Type 0} → (W → List Name) → (W → Type 0) → (W → ℕ) → W → Maybe (Named × W) → Type 0
Tells rest ready passed s (Some m) = (rest s ≡ name_of m.0 ∷ rest m.1) × ready m.1 × (passed m.1 ≡ passed s + 1)
Tells rest ready passed s None = rest s ≡ []

-- a place that a walk comes to from another
pub record Follows {W : Type 0} (rest : W → List Name) (ready : W → Type 0) (passed : W → ℕ) (start from : W) : Type 0 where
  pub begun : ready start
  pub come : ready from
  pub names : rest from ≡ drop (passed from) (rest start)
