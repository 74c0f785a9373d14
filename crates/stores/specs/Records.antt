-- A WALK IN LINEAR TIME: the record at a byte offset of a store, with the part of the area that holds its content,
-- and where the next one starts; 14 where no whole record of a known kind starts there, where P's length is below its
-- kind's marks, or where the content does not lie inside the area. It looks at that record only, and promises no
-- more: the bytes may be any, of any length. A caller who walks a sound store from offset 0 on by `next` meets
-- exactly its records, in order (proofs/Records.antt, walk-sound). Assumes nothing.
use Rattle.std.specs.Prelude.{ℕ, ◌+◌, ◌≤◌, ◌≡◌, cond, List, [], ◌∷◌, length, Option, Some, None}
use Rattle.kinds.specs.declared.Kind.{Kind}
use Rattle.entries.specs.declared.Fields.{Fields}
use Rattle.entries.specs.declared.Entry.{Entry}
use Rattle.kinds.specs.Kinds.{number_of, shape_of, is_content}
use Rattle.entries.specs.Entries.{entry_at}
use Rattle.contents.specs.Contents.{content_length, lies}
use Rattle.stores.specs.declared.Walked.{Walked}

-- a record that was met, its content's part this one
abbrev pub met : ℕ → Fields → ℕ → ℕ → ℕ → Option Walked
met k f from size next = Some (record { number = k; fields = f; from = from; size = size; next = next })

-- a record with its content's part; one that has none has an empty part at 0
unfoldable pub answered : Kind → Fields → ℕ → Option Walked
answered k f next =
    cond (is_content (shape_of k)) (met (number_of k) f f.number (content_length k f) next) (met (number_of k) f 0 0 next)

unfoldable pub walked_of : ℕ → Option Entry → Option Walked
walked_of size None = None
walked_of size (Some e) = cond (is_content (shape_of e.kind)) (cond (lies size e.kind e.fields) (answered e.kind e.fields e.next) None) (answered e.kind e.fields e.next)

-- the record at an offset
unfoldable pub walked_at : List ℕ → List ℕ → ℕ → Option Walked
walked_at st ar at = walked_of (length ar) (entry_at st at)

-- a caller asks at an offset, and again at each answer's `next`, to the store's end, and meets these records
pub data Walks (st ar : List ℕ) : ℕ → List (Option Walked) → Type 0 where
  over : {at : ℕ} → length st ≤ at → Walks st ar at []
  onto : {at : ℕ} {w : Walked} {ws : List (Option Walked)} → walked_at st ar at ≡ Some w → Walks st ar w.next ws → Walks st ar at (Some w ∷ ws)

-- entries as the walk answers them, from an offset on
unfoldable pub answers : ℕ → List (Option Entry) → List (Option Walked)
answers at [] = []
answers at (None ∷ es) = None ∷ []
answers at (Some e ∷ es) = answered e.kind e.fields (at + e.next) ∷ answers (at + e.next) es
