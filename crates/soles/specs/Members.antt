-- What the theorems on Compare speak of: values of a list, and a store in which no two values meet. Assumes nothing.
use Rattle.std.specs.Prelude.{ℕ, ◌≡◌, true, List, ◌∷◌}
use Rattle.cells.specs.Cells.{Cell, cells}
use Rattle.partners.specs.Partners.{meets}

-- x stands in a list
pub data In {A : Type 0} (x : A) : List A → Type 0 where
  here : {y : A} {ys : List A} → y ≡ x → In x (y ∷ ys)
  there : {y : A} {ys : List A} → In x ys → In x (y ∷ ys)

-- no two values of a store have the same scope, name and row
unfoldable pub Sole : List ℕ → List ℕ → Type 0
Sole st ar = (x y : Cell) → In x (cells st) → In y (cells st) → meets st ar st ar x y ≡ true → x ≡ y
