-- The service Read (document 01): what it answers and what the lent buffers hold afterwards, for every text and every room. Order: 1, 2, in the strict reading 16 and 18, the first of the others, then 10,
-- then 11. A refusal writes nothing; exactly enough room is room. Assumes nothing.
use Rattle.std.specs.Prelude.{ℕ, true, cond, List, eqb, ltb, length, Result, Ok, Err}
use Rattle.rules.specs.declared.Reading.{Reading}
use Rattle.places.specs.Reports.{success, no_room}
use Rattle.places.specs.declared.Report.{Report}
use Rattle.grammar.specs.Machine.{Rec, Answer, refused, done}
use Rattle.grammar.specs.Reading.{outline}
use Rattle.sizes.specs.Sizes.{store_size, area_size}
use Rattle.walking.specs.Writing.{store_of, area_of}
use Rattle.reading.specs.declared.Lengths.{Lengths}
use Rattle.reading.specs.declared.ReadError.{ReadError}
use Rattle.reading.specs.declared.ReadError.TheVariants.{Refused, StoreFull, AreaFull}
use Rattle.refusals.specs.Answers.{refusal, refusal_report, written_if}

-- Read's answer for records, in a store and an area of these lengths
unfoldable pub read_room : ℕ → ℕ → List Rec → Report
read_room m k rs =
    cond (ltb m (store_size rs)) (no_room 10 (store_size rs) (area_size rs))
    (cond (ltb k (area_size rs)) (no_room 11 (store_size rs) (area_size rs)) (success (store_size rs) (area_size rs)))

unfoldable pub read_by : List ℕ → ℕ → ℕ → Answer → Report
read_by s m k (refused n o d) = refusal s n o d
read_by s m k (done rs) = read_room m k rs

-- READ: the answer for a text and lent buffers of these lengths
unfoldable pub read_answer : Reading → List ℕ → ℕ → ℕ → Report
read_answer g s m k = read_by s m k (outline g s)

unfoldable pub read_store_by : List ℕ → List ℕ → ℕ → Answer → List ℕ
read_store_by s l k (refused n o d) = l
read_store_by s l k (done rs) = written_if (eqb (read_room (length l) k rs).number 0) (store_of true s 0 rs) l

unfoldable pub read_area_by : List ℕ → ℕ → List ℕ → Answer → List ℕ
read_area_by s m l (refused n o d) = l
read_area_by s m l (done rs) = written_if (eqb (read_room m (length l) rs).number 0) (area_of s rs) l

-- READ: the store (l before, an area of k bytes beside it) and the area (l before, a store of m bytes beside it) afterwards
unfoldable pub read_store : Reading → List ℕ → List ℕ → ℕ → List ℕ
read_store g s l k = read_store_by s l k (outline g s)

unfoldable pub read_area : Reading → List ℕ → ℕ → List ℕ → List ℕ
read_area g s m l = read_area_by s m l (outline g s)

-- document 01's numbers for each case of the code's answer
unfoldable pub reading_report : Result Lengths ReadError → Report
reading_report (Ok n) = success n.store n.area
reading_report (Err (Refused r)) = refusal_report r
reading_report (Err (StoreFull n)) = no_room 10 n.store n.area
reading_report (Err (AreaFull n)) = no_room 11 n.store n.area
