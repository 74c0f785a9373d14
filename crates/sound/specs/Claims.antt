-- Where the theorem of this crate holds: where a text is read. Assumes nothing.
use Rattle.std.specs.Prelude.{ℕ, ◌≡◌, List, length}
use Rattle.rules.specs.declared.Reading.{Reading}
use Rattle.reading.specs.Services.{read_answer}

-- Read of the text s by the reading g, to a lent store and a lent area, is done
unfoldable pub IsRead : Reading → (s store area : List ℕ) → Type 0
IsRead g s store area = (read_answer g s (length store) (length area)).number ≡ 0
