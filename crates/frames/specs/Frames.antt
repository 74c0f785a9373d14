-- Frames of a store: their names, which may not stand twice (document 02, Four: "then 13, for frame names too"), and the blocks. Records count from 0 over the whole store.
-- A frame's name and a tag's are never alike. Assumes nothing.
use Rattle.std.specs.Prelude.{ℕ, suc, ◌≤◌, Bool, cond, List, [], ◌∷◌, eqb, ltb, drop, Option, Some, None}
use Rattle.kinds.specs.Kinds.{number_of}
use Rattle.entries.specs.declared.Entry.{Entry}
use Rattle.entries.specs.Walk.{entries_from, entries}
use Rattle.contents.specs.Contents.{content_bytes}
use Rattle.names.specs.Names.{Name, names}
use Rattle.naming.specs.Names.{Repeat, fresh, repeats, first_repeat}
use Rattle.frames.specs.declared.Mark.{Mark}

-- the names of frames, all in one scope, among entries of which the first has the number i
unfoldable pub frames_from : List (Option Entry) → List ℕ → ℕ → List Name
frames_from [] ar i = []
frames_from (None ∷ es) ar i = []
frames_from (Some e ∷ es) ar i =
    let more = frames_from es ar (suc i) in
    let mine : Name = record { number = i; scope = 0; bytes = content_bytes ar e.kind e.fields } in
    cond (eqb (number_of e.kind) 2) (mine ∷ more) more

unfoldable pub frames : List ℕ → List ℕ → List Name
frames st ar = frames_from (entries st) ar 0

-- the earlier of two repeats
unfoldable pub earlier : Repeat → Repeat → Repeat
earlier fresh s = s
earlier (repeats i j) fresh = repeats i j
earlier (repeats i j) (repeats k l) = cond (ltb l j) (repeats k l) (repeats i j)

-- 13: the earliest record that repeats a tag of its scope or a frame's name
unfoldable pub first_twice : List ℕ → List ℕ → Repeat
first_twice st ar = earlier (first_repeat (names st ar)) (first_repeat (frames st ar))

-- how many blocks
unfoldable pub blocks_in : List (Option Entry) → ℕ
blocks_in [] = 0
blocks_in (None ∷ es) = 0
blocks_in (Some e ∷ es) = let more = blocks_in es in cond (eqb (number_of e.kind) 1) (suc more) more

unfoldable pub is_single : List ℕ → Bool
is_single st = eqb (blocks_in (entries st)) 1

-- the frames from a mark on
unfoldable pub frames_at : List ℕ → List ℕ → Mark → List Name
frames_at st ar m = frames_from (entries_from (drop m.at st) 0) ar m.number

abbrev pub first : Mark
first = record { at = 0; number = 0; count = 0 }

-- no more frames than records, no more records than bytes
unfoldable pub Counted : Mark → Type 0
Counted m = (m.count ≤ m.number) × (m.number ≤ m.at)
