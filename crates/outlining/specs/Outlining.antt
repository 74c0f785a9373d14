-- The service Outline (document 01): what it answers and what the lent store holds afterwards, for every text and every room. Order: 1, 2, in the strict reading 16 and 18, the first of the others, then 10.
-- A refusal writes nothing; exactly enough room is room. Assumes nothing.
use Rattle.std.specs.Prelude.{ℕ, false, cond, List, eqb, ltb, length, Result, Ok, Err}
use Rattle.rules.specs.declared.Reading.{Reading}
use Rattle.places.specs.Reports.{success, no_room}
use Rattle.places.specs.declared.Report.{Report}
use Rattle.grammar.specs.Machine.{Rec, Answer, refused, done}
use Rattle.grammar.specs.Reading.{outline}
use Rattle.sizes.specs.Sizes.{outline_size}
use Rattle.walking.specs.Writing.{store_of}
use Rattle.outlining.specs.declared.OutlineError.{OutlineError}
use Rattle.outlining.specs.declared.OutlineError.TheVariants.{Refused, NoRoom}
use Rattle.refusals.specs.Answers.{refusal, refusal_report, written_if}

-- OUTLINE: the answer, and the store afterwards
unfoldable pub outline_room : ℕ → List Rec → Report
outline_room m rs = cond (ltb m (outline_size rs)) (no_room 10 (outline_size rs) 0) (success (outline_size rs) 0)

unfoldable pub outline_by : List ℕ → ℕ → Answer → Report
outline_by s m (refused n o d) = refusal s n o d
outline_by s m (done rs) = outline_room m rs

unfoldable pub outline_answer : Reading → List ℕ → ℕ → Report
outline_answer g s m = outline_by s m (outline g s)

unfoldable pub outline_store_by : List ℕ → List ℕ → Answer → List ℕ
outline_store_by s l (refused n o d) = l
outline_store_by s l (done rs) = written_if (eqb (outline_room (length l) rs).number 0) (store_of false s 0 rs) l

unfoldable pub outline_store : Reading → List ℕ → List ℕ → List ℕ
outline_store g s l = outline_store_by s l (outline g s)

-- document 01's numbers for each case of the code's answer
unfoldable pub outlined_report : Result ℕ OutlineError → Report
outlined_report (Ok m) = success m 0
outlined_report (Err (Refused r)) = refusal_report r
outlined_report (Err (NoRoom m)) = no_room 10 m 0
