-- COMPARE (document 02, Four), over two sound stores with one block each. Refusals: 12 for either store, and for more blocks; then 13, for frame names too, which gives the
-- earliest record that repeats a tag of its scope or a frame's name; the old first in both; 10 if the list lacks room, with the length needed. A refusal writes nothing;
-- success changes only the bytes counted. Assumes nothing.
use Rattle.std.specs.Prelude.{ℕ, ◌≡◌, cond, ◌&&◌, List, leb, length, Result, Ok, Err}
use Rattle.rules.specs.declared.Reading.{Reading}
use Rattle.places.specs.declared.Report.{Report}
use Rattle.places.specs.Reports.{success, refused_bare, of_records, no_room}
use Rattle.records.specs.Put.{front}
use Rattle.stores.specs.Soundness.{sound}
use Rattle.naming.specs.declared.NameError.{NameError}
use Rattle.naming.specs.declared.NameError.TheVariants.{NotSound, Repeated}
use Rattle.naming.specs.Names.{naming_of}
use Rattle.frames.specs.Frames.{first_twice, is_single}
use Rattle.changes.specs.Changes.{changes, changes_bytes}
use Rattle.comparing.specs.declared.CompareError.{CompareError}
use Rattle.comparing.specs.declared.CompareError.TheVariants.{NotSound as Unsound, Repeated as Twice, NoRoom}

-- the bytes of the list
unfoldable pub bytes_of : List ℕ → List ℕ → List ℕ → List ℕ → List ℕ
bytes_of st ar st' ar' = changes_bytes (changes st ar st' ar')

-- one store by itself: 12, 13, or neither
unfoldable pub judged : Reading → List ℕ → List ℕ → Result Unit NameError
judged r st ar = cond (sound r st ar && is_single st) (naming_of (first_twice st ar)) (Err NotSound)

-- of both: 12 of the old, 12 of the new, 13 of the old, 13 of the new
unfoldable pub refusal_of : Result Unit NameError → Result Unit NameError → Result Unit NameError
refusal_of (Err NotSound) n = Err NotSound
refusal_of (Ok u) n = n
refusal_of (Err (Repeated i j)) (Err NotSound) = Err NotSound
refusal_of (Err (Repeated i j)) (Ok u) = Err (Repeated i j)
refusal_of (Err (Repeated i j)) (Err (Repeated k l)) = Err (Repeated i j)

-- the list, where it fits
unfoldable pub fitted : ℕ → ℕ → Result ℕ CompareError
fitted needed room = cond (leb needed room) (Ok needed) (Err (NoRoom needed))

unfoldable pub answered : Result Unit NameError → Result ℕ CompareError → Result ℕ CompareError
answered (Ok u) c = c
answered (Err NotSound) c = Err Unsound
answered (Err (Repeated i j)) c = Err (Twice i j)

unfoldable pub comparing : Reading → List ℕ → List ℕ → List ℕ → List ℕ → ℕ → Result ℕ CompareError
comparing r st ar st' ar' room = answered (refusal_of (judged r st ar) (judged r st' ar')) (fitted (length (bytes_of st ar st' ar')) room)

-- the lent list afterwards
unfoldable pub list_after : Result ℕ CompareError → List ℕ → List ℕ → List ℕ
list_after (Ok n) bytes l = front bytes l
list_after (Err e) bytes l = l

unfoldable pub comparing_report : Result ℕ CompareError → Report
comparing_report (Ok n) = success n 0
comparing_report (Err Unsound) = refused_bare 12
comparing_report (Err (Twice i j)) = of_records 13 i j
comparing_report (Err (NoRoom n)) = no_room 10 n 0

-- what a call promises: its answer, and the list
pub record Compares (r : Reading) (st ar st' ar' l : List ℕ) (answer : Result ℕ CompareError) (l' : List ℕ) : Type 0 where
  pub answers : answer ≡ comparing r st ar st' ar' (length l)
  pub list : l' ≡ list_after answer (bytes_of st ar st' ar') l
