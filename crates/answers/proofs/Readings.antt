-- The answers by what a call's number n names, m: a reading, and then each is its service's; or none, and then each is 24's and
-- the lent buffers stay. Assumes nothing.
use Prim.Native.Nat.{ℕ}
use mathlib.Core.List.{List}
use mathlib.Core.Path.{◌≡◌, ◌∙◌}
use lib.ListN.{length}
use Rattle.rules.specs.declared.Reading.{Reading}
use Rattle.std.specs.Prelude.{Option, Result, Some, None}
use Rattle.rules.specs.Rules.{named}
use Rattle.exports.specs.Exports.{exported, exported_part, exported_record, no_reading, no_part, no_record}
use Rattle.reading.specs.Services.{read_answer, read_store, read_area}
use Rattle.outlining.specs.Outlining.{outline_answer, outline_store}
use Rattle.rendering.specs.Rendering.{render_answer, render_out}
use Rattle.naming.specs.Names.{name_check, naming_report}
use Rattle.comparing.specs.declared.CompareError.{CompareError}
use Rattle.comparing.specs.Comparing.{comparing_report, Compares}
use Rattle.stores.specs.Content.{content_at, content_report}
use Rattle.stores.specs.Records.{walked_at}
use Rattle.answers.specs.Answers.{read_by, read_gives, store_by, store_left, area_by, area_left, outline_by, outline_gives, outlined_by}
use Rattle.answers.specs.Answers.{outline_left, render_by, render_gives, rendered_by, render_left, names_by, names_give}
use Rattle.answers.specs.Answers.{compare_by, compare_gives, compared_by, list_left, content_by, content_gives, part_by, part_given, record_by, record_given}

-- chuntarek_read's answer
pub read_known : (n : ℕ) (r : Reading) (s st ar : List ℕ) {m : Option Reading} → m ≡ named n → m ≡ Some r → exported (read_answer r s (length st) (length ar)) ≡ read_gives n s st ar
unfolding read_gives read_by
read_known n r s st ar of known = rw (← of, known)

pub read-unknown : (n : ℕ) (s st ar : List ℕ) {m : Option Reading} → m ≡ named n → m ≡ None → no_reading ≡ read_gives n s st ar
unfolding read_gives read_by
read-unknown n s st ar of unknown = rw (← of, unknown)

-- the store that it leaves
pub store-known : (n : ℕ) (r : Reading) (s st ar : List ℕ) {m : Option Reading} → m ≡ named n → m ≡ Some r → read_store r s st (length ar) ≡ store_left n s st ar
unfolding store_left store_by
store-known n r s st ar of known = rw (← of, known)

pub store-unknown : (n : ℕ) (s st ar : List ℕ) {m : Option Reading} → m ≡ named n → m ≡ None → st ≡ store_left n s st ar
unfolding store_left store_by
store-unknown n s st ar of unknown = rw (← of, unknown)

-- the area that it leaves
pub area-known : (n : ℕ) (r : Reading) (s st ar : List ℕ) {m : Option Reading} → m ≡ named n → m ≡ Some r → read_area r s (length st) ar ≡ area_left n s st ar
unfolding area_left area_by
area-known n r s st ar of known = rw (← of, known)

pub area-unknown : (n : ℕ) (s st ar : List ℕ) {m : Option Reading} → m ≡ named n → m ≡ None → ar ≡ area_left n s st ar
unfolding area_left area_by
area-unknown n s st ar of unknown = rw (← of, unknown)

-- chuntarek_outline's answer
pub outline-known : (n : ℕ) (r : Reading) (s st : List ℕ) {m : Option Reading} → m ≡ named n → m ≡ Some r → exported (outline_answer r s (length st)) ≡ outline_gives n s st
unfolding outline_gives outline_by
outline-known n r s st of known = rw (← of, known)

pub outline-unknown : (n : ℕ) (s st : List ℕ) {m : Option Reading} → m ≡ named n → m ≡ None → no_reading ≡ outline_gives n s st
unfolding outline_gives outline_by
outline-unknown n s st of unknown = rw (← of, unknown)

-- the store that it leaves
pub outlined-known : (n : ℕ) (r : Reading) (s st : List ℕ) {m : Option Reading} → m ≡ named n → m ≡ Some r → outline_store r s st ≡ outline_left n s st
unfolding outline_left outlined_by
outlined-known n r s st of known = rw (← of, known)

pub outlined-unknown : (n : ℕ) (s st : List ℕ) {m : Option Reading} → m ≡ named n → m ≡ None → st ≡ outline_left n s st
unfolding outline_left outlined_by
outlined-unknown n s st of unknown = rw (← of, unknown)

-- chuntarek_render's answer
pub render-known : (n : ℕ) (r : Reading) (st ar out : List ℕ) {m : Option Reading} → m ≡ named n → m ≡ Some r → exported (render_answer r st ar (length out)) ≡ render_gives n st ar out
unfolding render_gives render_by
render-known n r st ar out of known = rw (← of, known)

pub render-unknown : (n : ℕ) (st ar out : List ℕ) {m : Option Reading} → m ≡ named n → m ≡ None → no_reading ≡ render_gives n st ar out
unfolding render_gives render_by
render-unknown n st ar out of unknown = rw (← of, unknown)

-- the text that it leaves
pub rendered-known : (n : ℕ) (r : Reading) (st ar out : List ℕ) {m : Option Reading} → m ≡ named n → m ≡ Some r → render_out r st ar out ≡ render_left n st ar out
unfolding render_left rendered_by
rendered-known n r st ar out of known = rw (← of, known)

pub rendered-unknown : (n : ℕ) (st ar out : List ℕ) {m : Option Reading} → m ≡ named n → m ≡ None → out ≡ render_left n st ar out
unfolding render_left rendered_by
rendered-unknown n st ar out of unknown = rw (← of, unknown)

-- chuntarek_names
pub names-known : (n : ℕ) (r : Reading) (st ar : List ℕ) {m : Option Reading} → m ≡ named n → m ≡ Some r → exported (naming_report (name_check r st ar)) ≡ names_give n st ar
unfolding names_give names_by
names-known n r st ar of known = rw (← of, known)

pub names-unknown : (n : ℕ) (st ar : List ℕ) {m : Option Reading} → m ≡ named n → m ≡ None → no_reading ≡ names_give n st ar
unfolding names_give names_by
names-unknown n st ar of unknown = rw (← of, unknown)

-- chuntarek_compare's answer
pub compare-known : (n : ℕ) (r : Reading) (st ar st' ar' l : List ℕ) (a : Result ℕ CompareError) (l' : List ℕ) {m : Option Reading} → m ≡ named n → m ≡ Some r → Compares r st ar st' ar' l a l' → exported (comparing_report a) ≡ compare_gives n st ar st' ar' l
unfolding compare_gives compare_by
compare-known n r st ar st' ar' l a l' of known called = rw (← of, known, called.answers)

pub compare-unknown : (n : ℕ) (st ar st' ar' l : List ℕ) {m : Option Reading} → m ≡ named n → m ≡ None → no_reading ≡ compare_gives n st ar st' ar' l
unfolding compare_gives compare_by
compare-unknown n st ar st' ar' l of unknown = rw (← of, unknown)

-- the list that it leaves
pub compared-known : (n : ℕ) (r : Reading) (st ar st' ar' l : List ℕ) (a : Result ℕ CompareError) (l' : List ℕ) {m : Option Reading} → m ≡ named n → m ≡ Some r → Compares r st ar st' ar' l a l' → l' ≡ list_left n st ar st' ar' l
unfolding list_left compared_by
compared-known n r st ar st' ar' l a l' of known called = called.list ∙ rw (← of, known, called.answers)

pub compared-unknown : (n : ℕ) (st ar st' ar' l : List ℕ) {m : Option Reading} → m ≡ named n → m ≡ None → l ≡ list_left n st ar st' ar' l
unfolding list_left compared_by
compared-unknown n st ar st' ar' l of unknown = rw (← of, unknown)

-- chuntarek_content
pub content-known : (n : ℕ) (r : Reading) (st ar : List ℕ) (i : ℕ) {m : Option Reading} → m ≡ named n → m ≡ Some r → exported (content_report (content_at r st ar i)) ≡ content_gives n st ar i
unfolding content_gives content_by
content-known n r st ar i of known = rw (← of, known)

pub content-unknown : (n : ℕ) (st ar : List ℕ) (i : ℕ) {m : Option Reading} → m ≡ named n → m ≡ None → no_reading ≡ content_gives n st ar i
unfolding content_gives content_by
content-unknown n st ar i of unknown = rw (← of, unknown)

-- chuntarek_content_part
pub part-known : (n : ℕ) (r : Reading) (st ar : List ℕ) (i : ℕ) {m : Option Reading} → m ≡ named n → m ≡ Some r → exported_part (content_at r st ar i) ≡ part_given n st ar i
unfolding part_given part_by
part-known n r st ar i of known = rw (← of, known)

pub part-unknown : (n : ℕ) (st ar : List ℕ) (i : ℕ) {m : Option Reading} → m ≡ named n → m ≡ None → no_part ≡ part_given n st ar i
unfolding part_given part_by
part-unknown n st ar i of unknown = rw (← of, unknown)

-- chuntarek_record_at
pub record-at-known : (n : ℕ) (r : Reading) (st ar : List ℕ) (at : ℕ) {m : Option Reading} → m ≡ named n → m ≡ Some r → exported_record (walked_at st ar at) ≡ record_given n st ar at
unfolding record_given record_by
record-at-known n r st ar at of known = rw (← of, known)

pub record-at-unknown : (n : ℕ) (st ar : List ℕ) (at : ℕ) {m : Option Reading} → m ≡ named n → m ≡ None → no_record 24 ≡ record_given n st ar at
unfolding record_given record_by
record-at-unknown n st ar at of unknown = rw (← of, unknown)
