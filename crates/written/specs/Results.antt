-- What Read leaves in the lent store and area: the bytes that it counts. Assumes nothing.
use Rattle.std.specs.Prelude.{ℕ, List, length, take}
use Rattle.rules.specs.declared.Reading.{Reading}
use Rattle.reading.specs.Services.{read_answer, read_store, read_area}

-- of the text s by the reading g, to a lent store and a lent area
unfoldable pub store_bytes : Reading → (s store area : List ℕ) → List ℕ
store_bytes g s store area = take (read_answer g s (length store) (length area)).first (read_store g s store (length area))

unfoldable pub area_bytes : Reading → (s store area : List ℕ) → List ℕ
area_bytes g s store area = take (read_answer g s (length store) (length area)).second (read_area g s (length store) area)
