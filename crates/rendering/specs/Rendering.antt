-- RENDER (document 01): the lines of a sound store's records. Order: 12, 1, 11. The rendered length on success, the
-- needed one on 11; a refusal writes nothing. Assumes nothing.
use Rattle.std.specs.Prelude.{ℕ, ◌+◌, cond, List, [], ◌∷◌, ◌++◌, eqb, ltb, length, Option, Result, Ok, Err}
use Rattle.rules.specs.declared.Reading.{Reading}
use Rattle.places.specs.declared.Report.{Report}
use Rattle.places.specs.Reports.{success, refused_bare, no_room}
use Rattle.entries.specs.declared.Entry.{Entry}
use Rattle.records.specs.Put.{front}
use Rattle.entries.specs.Walk.{entries}
use Rattle.stores.specs.Soundness.{sound}
use Rattle.record_lines.specs.Lines.{line_of}
use Rattle.rendering.specs.declared.RenderError.{RenderError}
use Rattle.rendering.specs.declared.RenderError.TheVariants.{NotSound, TooLong, NoRoom}

-- the lines of entries, one behind the other
unfoldable pub lines_of : Reading → List ℕ → List (Option Entry) → List ℕ
lines_of r ar [] = []
lines_of r ar (e ∷ es) = line_of r ar e ++ lines_of r ar es

unfoldable pub rendering : Reading → List ℕ → List ℕ → List ℕ
rendering r st ar = lines_of r ar (entries st)

-- the largest rendering
unfoldable pub limit : ℕ
limit = 16777216

-- a length, or one over the limit for all that are over it
unfoldable pub capped : ℕ → ℕ
capped n = cond (ltb limit n) (limit + 1) n

-- RENDER: the answer for a store, its area and a lent text of m bytes, of which so many are needed
unfoldable pub render_room : ℕ → ℕ → Report
render_room needed m = cond (ltb limit needed) (refused_bare 1) (cond (ltb m needed) (no_room 11 needed 0) (success needed 0))

unfoldable pub render_answer : Reading → List ℕ → List ℕ → ℕ → Report
render_answer r st ar m = cond (sound r st ar) (render_room (length (rendering r st ar)) m) (refused_bare 12)

-- the lent text afterwards
unfoldable pub render_out : Reading → List ℕ → List ℕ → List ℕ → List ℕ
render_out r st ar l = cond (eqb (render_answer r st ar (length l)).number 0) (front (rendering r st ar) l) l

unfoldable pub rendered_report : Result ℕ RenderError → Report
rendered_report (Ok n) = success n 0
rendered_report (Err NotSound) = refused_bare 12
rendered_report (Err TooLong) = refused_bare 1
rendered_report (Err (NoRoom n)) = no_room 11 n 0
