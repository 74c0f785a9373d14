-- A store's records as lines: of each its kind, what stands before its token and the bytes of that; a loop's end has no token. What the lines render to, and the records of that rendering, in
-- the form in which the machine meets them. Assumes nothing.
use Prim.Native.Nat.{ℕ, suc, ◌+◌}
use mathlib.Core.Bool.{Bool}
use mathlib.Core.List.{List, [], ◌∷◌, ◌++◌}
use lib.ListN.{length}
use Rattle.grammar.specs.Machine.{Rec, loop_end}

pub data Line : Type 0 where
  line : (kind : ℕ) → (lead bytes : List ℕ) → Line
  ending : Line

-- each record but a loop's end is its lead, its token and one LF
unfoldable pub render : List Line → List ℕ
render [] = []
render (line k l w ∷ es) = l ++ (w ++ 10 ∷ render es)
render (ending ∷ es) = render es

-- the records of a rendering that starts at offset o
unfoldable pub recs_at : ℕ → List Line → List Rec
recs_at o [] = []
recs_at o (line k l w ∷ es) = record { kind = k; at = o + length l; size = length w } ∷ recs_at (suc (o + length l + length w)) es
recs_at o (ending ∷ es) = loop_end ∷ recs_at o es

-- where in the nesting: between items (the flag: a loop without rows stands just before); behind n names of a loop; behind n names and k values; behind a tag
pub data Where : Type 0 where
  on_items : Bool → Where
  on_names : ℕ → Where
  on_values : (n k : ℕ) → Where
  on_value : Where
