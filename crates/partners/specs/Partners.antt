-- PARTNERS (document 02, Four): which value of one store is which of the other. "For each scope and name .. loop values match by name and row, a single value being row 0 ..
-- Frames match by name." Scope, name and row alone decide: a column in another loop, or a single value for row 0, matches. Names are the same as the name check says,
-- with A to Z taken as a to z. Assumes nothing.
use Rattle.std.specs.Prelude.{ℕ, ◌≡◌, Bool, false, cond, ◌&&◌, List, [], ◌∷◌, eqb}
use Rattle.std.proofs.Math.Option.{Option, none, some}
use Rattle.std.specs.Prelude.{Option as Maybe, Some, None}
use Rattle.cells.specs.declared.Found.{Found}
use Rattle.folding.specs.Folding.{same_name}
use Rattle.cells.specs.Cells.{Cell, cells, name_of}
use Rattle.cells.specs.Walk.{cell_of, Lies}

-- of a store and its area, and of another: the block's own scope (0) is the other block's, and frames are the same by their names
unfoldable pub same_frame : List ℕ → List ℕ → List ℕ → List ℕ → ℕ → ℕ → Bool
same_frame st ar st' ar' n m = cond (eqb n 0) (eqb m 0) (cond (eqb m 0) false (same_name (name_of st ar n) (name_of st' ar' m)))

unfoldable pub meets : List ℕ → List ℕ → List ℕ → List ℕ → Cell → Cell → Bool
meets st ar st' ar' x y =
    eqb x.row y.row && (same_name (name_of st ar x.tag) (name_of st' ar' y.tag) && same_frame st ar st' ar' x.frame y.frame)

-- the first of some values that x meets
unfoldable pub partner_in : List ℕ → List ℕ → List ℕ → List ℕ → List Cell → Cell → Option Cell
partner_in st ar st' ar' [] x = none
partner_in st ar st' ar' (y ∷ ys) x = let more = partner_in st ar st' ar' ys x in cond (meets st ar st' ar' x y) (some y) more

unfoldable pub partner : List ℕ → List ℕ → List ℕ → List ℕ → Cell → Option Cell
partner st ar st' ar' x = partner_in st ar st' ar' (cells st') x

-- a search's answer
unfoldable pub Matched : List ℕ → Maybe Found → Option Cell → Type 0
Matched st' (Some y) o = (o ≡ some (cell_of y)) × Lies st' y
Matched st' None o = o ≡ none
