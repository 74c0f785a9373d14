-- What each exported function answers, and what it leaves in the buffers that it is lent to write: the answer of its service, in
-- the reading that the call's number names, as the struct that C and Rust get. A number that names none is answered by 24 before
-- anything else is looked at, and leaves every buffer as it was. Assumes nothing.
use Rattle.std.specs.Prelude.{ℕ, List, length, Option, Some, None}
use Rattle.rules.specs.declared.Reading.{Reading}
use Rattle.rules.specs.Rules.{named}
use Rattle.exports.specs.declared.Answer.{Answer}
use Rattle.exports.specs.declared.Part.{Part}
use Rattle.exports.specs.declared.Record.{Record}
use Rattle.exports.specs.Exports.{exported, exported_part, exported_record, no_reading, no_part, no_record}
use Rattle.reading.specs.Services.{read_answer, read_store, read_area}
use Rattle.outlining.specs.Outlining.{outline_answer, outline_store}
use Rattle.rendering.specs.Rendering.{render_answer, render_out}
use Rattle.naming.specs.Names.{name_check, naming_report}
use Rattle.comparing.specs.Comparing.{bytes_of, comparing, list_after, comparing_report}
use Rattle.stores.specs.Content.{content_at, content_report}
use Rattle.stores.specs.Records.{walked_at}

-- chuntarek_read: its answer, then the store and the area afterwards
unfoldable pub read_by : Option Reading → (text store area : List ℕ) → Answer
read_by (Some r) text store area = exported (read_answer r text (length store) (length area))
read_by None text store area = no_reading

unfoldable pub read_gives : ℕ → (text store area : List ℕ) → Answer
read_gives reading text store area = read_by (named reading) text store area

unfoldable pub store_by : Option Reading → (text store area : List ℕ) → List ℕ
store_by (Some r) text store area = read_store r text store (length area)
store_by None text store area = store

unfoldable pub store_left : ℕ → (text store area : List ℕ) → List ℕ
store_left reading text store area = store_by (named reading) text store area

unfoldable pub area_by : Option Reading → (text store area : List ℕ) → List ℕ
area_by (Some r) text store area = read_area r text (length store) area
area_by None text store area = area

unfoldable pub area_left : ℕ → (text store area : List ℕ) → List ℕ
area_left reading text store area = area_by (named reading) text store area

-- chuntarek_outline: its answer, then the store afterwards
unfoldable pub outline_by : Option Reading → (text store : List ℕ) → Answer
outline_by (Some r) text store = exported (outline_answer r text (length store))
outline_by None text store = no_reading

unfoldable pub outline_gives : ℕ → (text store : List ℕ) → Answer
outline_gives reading text store = outline_by (named reading) text store

unfoldable pub outlined_by : Option Reading → (text store : List ℕ) → List ℕ
outlined_by (Some r) text store = outline_store r text store
outlined_by None text store = store

unfoldable pub outline_left : ℕ → (text store : List ℕ) → List ℕ
outline_left reading text store = outlined_by (named reading) text store

-- chuntarek_render: its answer, then the text afterwards
unfoldable pub render_by : Option Reading → (store area out : List ℕ) → Answer
render_by (Some r) store area out = exported (render_answer r store area (length out))
render_by None store area out = no_reading

unfoldable pub render_gives : ℕ → (store area out : List ℕ) → Answer
render_gives reading store area out = render_by (named reading) store area out

unfoldable pub rendered_by : Option Reading → (store area out : List ℕ) → List ℕ
rendered_by (Some r) store area out = render_out r store area out
rendered_by None store area out = out

unfoldable pub render_left : ℕ → (store area out : List ℕ) → List ℕ
render_left reading store area out = rendered_by (named reading) store area out

-- chuntarek_names
unfoldable pub names_by : Option Reading → (store area : List ℕ) → Answer
names_by (Some r) store area = exported (naming_report (name_check r store area))
names_by None store area = no_reading

unfoldable pub names_give : ℕ → (store area : List ℕ) → Answer
names_give reading store area = names_by (named reading) store area

-- chuntarek_compare: its answer, then the list afterwards; the old store and its area come first
unfoldable pub compare_by : Option Reading → (old area new area' list : List ℕ) → Answer
compare_by (Some r) old area new area' list = exported (comparing_report (comparing r old area new area' (length list)))
compare_by None old area new area' list = no_reading

unfoldable pub compare_gives : ℕ → (old area new area' list : List ℕ) → Answer
compare_gives reading old area new area' list = compare_by (named reading) old area new area' list

unfoldable pub compared_by : Option Reading → (old area new area' list : List ℕ) → List ℕ
compared_by (Some r) old area new area' list = list_after (comparing r old area new area' (length list)) (bytes_of old area new area') list
compared_by None old area new area' list = list

unfoldable pub list_left : ℕ → (old area new area' list : List ℕ) → List ℕ
list_left reading old area new area' list = compared_by (named reading) old area new area' list

-- chuntarek_content
unfoldable pub content_by : Option Reading → (store area : List ℕ) → ℕ → Answer
content_by (Some r) store area number = exported (content_report (content_at r store area number))
content_by None store area number = no_reading

unfoldable pub content_gives : ℕ → (store area : List ℕ) → ℕ → Answer
content_gives reading store area number = content_by (named reading) store area number

-- chuntarek_content_part
unfoldable pub part_by : Option Reading → (store area : List ℕ) → ℕ → Part
part_by (Some r) store area number = exported_part (content_at r store area number)
part_by None store area number = no_part

unfoldable pub part_given : ℕ → (store area : List ℕ) → ℕ → Part
part_given reading store area number = part_by (named reading) store area number

-- chuntarek_record_at: every reading's kinds are records to it, so no more than that a reading is named makes a difference
unfoldable pub record_by : Option Reading → (store area : List ℕ) → ℕ → Record
record_by (Some r) store area at = exported_record (walked_at store area at)
record_by None store area at = no_record 24

unfoldable pub record_given : ℕ → (store area : List ℕ) → ℕ → Record
record_given reading store area at = record_by (named reading) store area at
