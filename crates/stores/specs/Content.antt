-- CONTENT (document 01): reading, store, area and a record number from 0. 12 where the store isn't sound; 14 where there is no
-- such record, or it has no content; else the part of the area that holds it. Assumes nothing.
use Rattle.std.specs.Prelude.{ℕ, zero, suc, cond, List, [], ◌∷◌, take, drop, Option, Some, None, Result, Ok, Err}
use Rattle.rules.specs.declared.Reading.{Reading}
use Rattle.places.specs.declared.Report.{Report}
use Rattle.places.specs.Reports.{success, refused_bare}
use Rattle.entries.specs.declared.Entry.{Entry}
use Rattle.kinds.specs.Kinds.{shape_of, is_content}
use Rattle.entries.specs.Walk.{entries}
use Rattle.contents.specs.Contents.{content_length}
use Rattle.stores.specs.Soundness.{sound}
use Rattle.stores.specs.declared.Part.{Part}
use Rattle.stores.specs.declared.ContentError.{ContentError}
use Rattle.stores.specs.declared.ContentError.TheVariants.{NotSound, NoContent}

-- record number i
unfoldable pub nth : List (Option Entry) → ℕ → Option Entry
nth [] i = None
nth (e ∷ es) zero = e
nth (e ∷ es) (suc i) = nth es i

-- a part that was found
abbrev pub found : ℕ → ℕ → Result Part ContentError
found from size = Ok (record { from = from; size = size })

-- the part of the area that a record's content takes
unfoldable pub part_of : Option Entry → Result Part ContentError
part_of None = Err NoContent
part_of (Some e) = cond (is_content (shape_of e.kind)) (found e.fields.number (content_length e.kind e.fields)) (Err NoContent)

unfoldable pub content_at : Reading → List ℕ → List ℕ → ℕ → Result Part ContentError
content_at r st ar i = cond (sound r st ar) (part_of (nth (entries st) i)) (Err NotSound)

-- the answer number, and the bytes themselves: an empty part on refusal
unfoldable pub content_report : Result Part ContentError → Report
content_report (Ok p) = success 0 0
content_report (Err NotSound) = refused_bare 12
content_report (Err NoContent) = refused_bare 14

unfoldable pub part_bytes : List ℕ → Result Part ContentError → List ℕ
part_bytes ar (Ok p) = take p.size (drop p.from ar)
part_bytes ar (Err e) = []
