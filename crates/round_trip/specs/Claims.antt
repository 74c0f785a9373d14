-- What the round trip asks for and gives, by either reading. Assumes nothing.
use Rattle.std.specs.Prelude.{ℕ, ◌≤◌, ◌≡◌, true, List, length, take}
use Rattle.rules.specs.declared.Reading.{Reading}
use Rattle.places.specs.Reports.{success}
use Rattle.reading.specs.Services.{read_answer}
use Rattle.stores.specs.Soundness.{sound}
use Rattle.rendering.specs.Rendering.{rendering, render_answer, render_out}
use Rattle.written.specs.Results.{store_bytes, area_bytes}
use Rattle.written.specs.Sayings.{Bytes, SaySame}

-- the store st, with its area ar, is sound by the reading r; its rendering keeps limit 1; and there is room for the rendering and for what is
-- read of it
pub record Renderable (r : Reading) (st ar text store area : List ℕ) : Type 0 where
  pub bytes : Bytes st
  pub is-sound : sound r st ar ≡ true
  pub limited : length (rendering r st ar) ≤ 16777216
  pub text-room : length (rendering r st ar) ≤ length text
  pub store-room : length st ≤ length store
  pub area-room : length ar ≤ length area

-- what Render leaves in the lent text, of the store st and the area ar: the bytes that it counts
unfoldable pub rendered_bytes : Reading → (st ar text : List ℕ) → List ℕ
rendered_bytes r st ar text = take (render_answer r st ar (length text)).first (render_out r st ar text)

-- Render to the lent text, then Read of what it wrote, to the lent store and area
pub record RoundTrip (r : Reading) (st ar text store area : List ℕ) : Type 0 where
  pub rendered : render_answer r st ar (length text) ≡ success (length (rendering r st ar)) 0
  pub read : read_answer r (rendered_bytes r st ar text) (length store) (length area) ≡ success (length st) (length ar)
  pub same : SaySame (store_bytes r (rendered_bytes r st ar text) store area) (area_bytes r (rendered_bytes r st ar text) store area) st ar
