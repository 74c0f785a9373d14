-- A table of 12,288 slots that tells which numbers were met: a slot keeps a mark of a number, 0 where it is empty. A number has 16 slots, the first by its lowest
-- digits. One whose mark is in none of them was not taken in; of any other one cannot tell, so no answer depends on these marks, only the time that it takes.
-- Assumes nothing.
use Rattle.std.specs.Prelude.{ℕ, zero, suc, ◌+◌, ◌/◌, ◌%◌, Bool, false, cond, ◌||◌, List, Option, Some, None, eqb, get_or, set}

-- the first of a number's slots; a few numbers stay in the first 528, which are soon emptied
unfoldable pub slot_of : Bool → ℕ → ℕ
slot_of many h = cond many (h % 12272) (h % 512)

-- its mark, which is not 0
unfoldable pub mark_of : ℕ → ℕ
mark_of h = h / 1073741824 % 4294967295 + 1

-- one of n slots from a slot on holds the mark
unfoldable pub holds_in : List ℕ → ℕ → ℕ → ℕ → Bool
holds_in t zero slot mark = false
holds_in t (suc n) slot mark = holds_in t n slot mark || eqb (get_or t (slot + n) 0) mark

-- the first empty one of n slots from a slot on, if there is one
unfoldable pub free_in : List ℕ → ℕ → ℕ → Option ℕ
free_in t zero slot = None
free_in t (suc n) slot =
    let more = free_in t n (slot + 1) in
    cond (eqb (get_or t slot 0) 0) (Some slot) more

-- the table with a mark in a slot, where there is one
unfoldable pub marked : List ℕ → Option ℕ → ℕ → List ℕ
marked t None mark = t
marked t (Some slot) mark = set t slot mark

-- a number may have been met
unfoldable pub known : List ℕ → Bool → ℕ → Bool
known t many h = holds_in t 16 (slot_of many h) (mark_of h)

-- the table with the number's mark, where a slot is free for it
unfoldable pub entered : List ℕ → Bool → ℕ → List ℕ
entered t many h = marked t (free_in t 16 (slot_of many h)) (mark_of h)
