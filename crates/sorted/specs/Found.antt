-- Where a name is found in a table of record offsets: by halving, as if the table were sorted by name. What is found depends on the name through `less_name` and
-- `same_name` alone, so names that are the same are found at the same entry, whether or not the table is sorted. Assumes nothing.
use Rattle.std.specs.Prelude.{ℕ, zero, suc, ◌+◌, ◌/◌, cond, List, Option, Some, None, length, ltb, get_or}
use Rattle.folding.specs.Folding.{same_name}
use Rattle.names.specs.Order.{less_name}
use Rattle.steps.specs.Steps.{held_at}

-- past the entry in the middle, where the table has one there that comes before the name w
unfoldable pub passed : List ℕ → List ℕ → List ℕ → ℕ → ℕ → List ℕ → ℕ
passed st ar t at half w =
    let further = cond (less_name (held_at st ar (get_or t (at + half) 0)) w) (at + half + 1) at in
    cond (ltb (at + half) (length t)) further at

-- so many steps, each with half of what was left
unfoldable pub place_from : List ℕ → List ℕ → List ℕ → ℕ → ℕ → ℕ → List ℕ → ℕ
place_from st ar t zero at half w = at
place_from st ar t (suc k) at half w = place_from st ar t k (passed st ar t at half w) (half / 2) w

-- 14 steps are enough for 16,383 entries
unfoldable pub place_of : List ℕ → List ℕ → List ℕ → List ℕ → ℕ
place_of st ar t w = place_from st ar t 14 0 8191 w

-- the offset at a place, where the record there has the name w
unfoldable pub found_at : List ℕ → List ℕ → List ℕ → List ℕ → ℕ → Option ℕ
found_at st ar t w at =
    let here = cond (same_name (held_at st ar (get_or t at 0)) w) (Some (get_or t at 0)) None in
    cond (ltb at (length t)) here None

unfoldable pub find_in : List ℕ → List ℕ → List ℕ → List ℕ → Option ℕ
find_in st ar t w = found_at st ar t w (place_of st ar t w)
