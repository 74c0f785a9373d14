-- What a store and its area say, record by record, places aside: the kind, the content and the decimal parts. Two stores with their areas say the same when these lists
-- are equal. Assumes nothing.
use Rattle.std.specs.Prelude.{ℕ, ◌<◌, ◌≡◌, cond, List, [], map, get_or, Option, Some, None}
use Rattle.entries.specs.declared.Entry.{Entry}
use Rattle.entries.specs.declared.Fields.{Fields}
use Rattle.kinds.specs.declared.Kind.{Kind}
use Rattle.entries.specs.declared.Parts.{Parts}
use Rattle.kinds.specs.Kinds.{shape_of, is_content}
use Rattle.entries.specs.Walk.{entries}
use Rattle.contents.specs.Contents.{content_bytes}

-- a list of bytes
unfoldable pub Bytes : List ℕ → Type 0
Bytes s = (i : ℕ) → get_or s i 0 < 256

-- a record without content has an empty one here, and one without decimal parts has zeros; bytes that are no record say nothing
pub data Saying : Type 0 where
  says : (kind : Kind) → (content : List ℕ) → (parts : Parts) → Saying
  nothing : Saying

unfoldable pub content_in : List ℕ → Kind → Fields → List ℕ
content_in ar k f = cond (is_content (shape_of k)) (content_bytes ar k f) []

unfoldable pub saying : List ℕ → Option Entry → Saying
saying ar (Some e) = says e.kind (content_in ar e.kind e.fields) e.fields.parts
saying ar None = nothing

unfoldable pub sayings : List ℕ → List ℕ → List Saying
sayings st ar = map (saying ar) (entries st)

-- the store st with the area ar says what st' with ar' says
unfoldable pub SaySame : (st ar st' ar' : List ℕ) → Type 0
SaySame st ar st' ar' = sayings st ar ≡ sayings st' ar'
