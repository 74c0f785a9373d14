-- What C and Rust meet: the bytes that the answers of the exported functions count in the lent buffers, and what demand 3, the
-- equal records and the round trip say of those answers, whole: number, place, detail and both lengths. n is the number that a
-- call names its reading by.
-- Assumes nothing.
use Rattle.std.specs.Prelude.{ℕ, ◌≡◌, List, length, take}
use Rattle.rules.specs.declared.Reading.{Reading}
use Rattle.rules.specs.Rules.{reading_number}
use Rattle.places.specs.Reports.{success}
use Rattle.exports.specs.Exports.{exported}
use Rattle.answers.specs.Answers.{read_gives, store_left, area_left, outline_gives, outline_left, render_gives, render_left}
use Rattle.rendering.specs.Rendering.{rendering}
use Rattle.written.specs.Sayings.{SaySame}

-- chuntarek_render's text, of the store st and the area ar
unfoldable pub text_given : (n : ℕ) (st ar text : List ℕ) → List ℕ
text_given n st ar text = take (render_gives n st ar text).first (render_left n st ar text)

-- chuntarek_read's store and area, of the text s
unfoldable pub store_given : (n : ℕ) (s store area : List ℕ) → List ℕ
store_given n s store area = take (read_gives n s store area).first (store_left n s store area)

unfoldable pub area_given : (n : ℕ) (s store area : List ℕ) → List ℕ
area_given n s store area = take (read_gives n s store area).second (area_left n s store area)

-- chuntarek_outline gives for s what it gives for t: the answer, and the lent store afterwards
pub record OutlinedAlike (n : ℕ) (s t store : List ℕ) : Type 0 where
  pub answers : outline_gives n s store ≡ outline_gives n t store
  pub stores : outline_left n s store ≡ outline_left n t store

-- chuntarek_read and chuntarek_outline give for s by the reading m what they give by the reading n: the answers, and the lent
-- buffers afterwards
pub record ReadAlike (m n : ℕ) (s store area : List ℕ) : Type 0 where
  pub answers : read_gives m s store area ≡ read_gives n s store area
  pub stores : store_left m s store area ≡ store_left n s store area
  pub areas : area_left m s store area ≡ area_left n s store area
  pub outlines : outline_gives m s store ≡ outline_gives n s store
  pub outlined : outline_left m s store ≡ outline_left n s store

-- chuntarek_render to the lent text, then chuntarek_read of what it wrote, to the lent store and area
pub record ReadBack (r : Reading) (st ar text store area : List ℕ) : Type 0 where
  pub rendered : render_gives (reading_number r) st ar text ≡ exported (success (length (rendering r st ar)) 0)
  pub read : read_gives (reading_number r) (text_given (reading_number r) st ar text) store area ≡ exported (success (length st) (length ar))
  pub same : SaySame (store_given (reading_number r) (text_given (reading_number r) st ar text) store area) (area_given (reading_number r) (text_given (reading_number r) st ar text) store area) st ar
