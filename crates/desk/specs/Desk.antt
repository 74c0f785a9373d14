-- Where writing stands, what must hold before one record is written there, and what holds afterwards. Assumes nothing.
use Rattle.std.specs.Prelude.{ℕ, suc, ◌+◌, ◌≤◌, ◌<◌, ◌≡◌, Bool, true, false, cond, List, [], ◌∷◌, eqb, length, drop, get_or}
use Rattle.rules.specs.declared.Reading.{Reading}
use Rattle.text.specs.Bytes.{is_eol}
use Rattle.gaps.specs.Gaps.{gap}
use Rattle.places.specs.Places.{place_at, IsPlace}
use Rattle.kinds.specs.declared.Shape.{Shape}
use Rattle.kinds.specs.declared.Shape.TheVariants.{Place as PlaceAlone, Content}
use Rattle.kinds.specs.Kinds.{kind_of, shape_of, shape_length, outline_shape, marks_of, opening as opening_of}
use Rattle.records.specs.Put.{put}
use Rattle.found.specs.declared.Found.TheVariants.{Value}
use Rattle.values.specs.Finding.{found_at}
use Rattle.grammar.specs.Machine.{Rec, loop_end}
use Rattle.sizes.specs.Sizes.{content_size, store_size, outline_size, area_size}
use Rattle.desk.specs.declared.Cursor.{Cursor}
use Rattle.desk.specs.Written.{record_bytes, content_of}

-- the store's bytes that records take
unfoldable pub stored_length : Bool → List Rec → ℕ
stored_length true rs = store_size rs
stored_length false rs = outline_size rs

-- the bytes of one record: by its shape, by its kind
unfoldable pub shaped_length : Bool → Shape → ℕ
shaped_length true h = suc (shape_length h)
shaped_length false h = suc (shape_length (outline_shape h))

unfoldable pub record_length : Bool → ℕ → ℕ
record_length full k = shaped_length full (shape_of (kind_of k))

-- where writing stands: the cursor, the store and the area
pub record Desk : Type 0 where
  pub cursor : Cursor
  pub store : List ℕ
  pub area : List ℕ

abbrev pub desk : Cursor → List ℕ → List ℕ → Desk
desk c l a = record { cursor = c; store = l; area = a }

-- a cursor from which writing may go on: contents are no longer than the text that was read
pub record Going (s : List ℕ) (c : Cursor) : Type 0 where
  pub place : IsPlace s c.place
  pub short : length s ≤ 16777216
  pub behind : c.area ≤ c.place.offset

-- there is room for these records
pub record Room (full : Bool) (rs : List Rec) (d : Desk) : Type 0 where
  pub store : d.cursor.at + stored_length full rs ≤ length d.store
  pub area : full ≡ true → d.cursor.area + area_size rs ≤ length d.area

-- a token of kind k and n bytes stands at offset o: it has its marks, only a text field has line ends in it, and none ends in one
pub record IsToken (s : List ℕ) (k o n : ℕ) : Type 0 where
  pub some : 0 < n
  pub within : o + n ≤ length s
  pub marks : marks_of (kind_of k) ≤ n
  pub line : eqb k 13 ≡ false → (j : ℕ) → o ≤ j → j < o + n → is_eol (get_or s j 0) ≡ false
  pub last : (j : ℕ) → suc j ≡ o + n → is_eol (get_or s j 0) ≡ false

abbrev pub rec_at : ℕ → ℕ → ℕ → Rec
rec_at k o n = record { kind = k; at = o; size = n }

-- one record is written, which counts n tags, and the cursor stands at offset o
pub record WroteOne (full : Bool) (s : List ℕ) (n : ℕ) (r : Rec) (o : ℕ) (d e : Desk) : Type 0 where
  pub going : Going s e.cursor
  pub place : e.cursor.place ≡ place_at s o
  pub at : e.cursor.at ≡ d.cursor.at + stored_length full (r ∷ [])
  pub behind : e.cursor.area ≡ d.cursor.area + content_size r.kind r.size
  pub filled : length (content_of s r) ≡ content_size r.kind r.size
  pub store : e.store ≡ put d.cursor.at (record_bytes full s d.cursor.area n r) d.store
  pub area : e.area ≡ put d.cursor.area (cond full (content_of s r) []) d.area

-- a value of kind k and n bytes stands at offset o, where no space does
pub record ValueHere (r : Reading) (s : List ℕ) (o k n : ℕ) : Type 0 where
  pub bare : gap (drop o s) ≡ 0
  pub found : found_at r s o ≡ Value k n

-- there is room in the store l for one record
abbrev pub StoreRoom : Bool → Rec → Cursor → List ℕ → Type 0
StoreRoom full r c l = c.at + stored_length full (r ∷ []) ≤ length l

-- the bytes of the record of the token at the cursor
abbrev pub record_here : Bool → List ℕ → Cursor → ℕ → ℕ → List ℕ
record_here full s c k n = record_bytes full s c.area 0 (rec_at k c.place.offset n)

-- a token with content stands at the cursor, and there is room for its record and its content
pub record TextAhead (full : Bool) (s : List ℕ) (k n : ℕ) (d : Desk) : Type 0 where
  pub going : Going s d.cursor
  pub token : IsToken s k d.cursor.place.offset n
  pub content : shape_of (kind_of k) ≡ Content
  pub room : Room full (rec_at k d.cursor.place.offset n ∷ []) d

-- a token of kind k has so many marks, and so many of them stand before its content
pub record Marked (k marks opening : ℕ) : Type 0 where
  pub all : marks ≡ marks_of (kind_of k)
  pub first : opening ≡ opening_of (kind_of k)

-- the record of the token at the cursor is written, and the cursor stands behind the token
abbrev pub WroteToken : Bool → List ℕ → ℕ → ℕ → Desk → Desk → Type 0
WroteToken full s k n d e = WroteOne full s 0 (rec_at k d.cursor.place.offset n) (d.cursor.place.offset + n) d e

-- a token of which only the place is written stands at the cursor, and there is room for its record
pub record MarkAhead (full : Bool) (s : List ℕ) (k n : ℕ) (c : Cursor) (l : List ℕ) : Type 0 where
  pub going : Going s c
  pub token : IsToken s k c.place.offset n
  pub alone : shape_of (kind_of k) ≡ PlaceAlone
  pub room : StoreRoom full (rec_at k c.place.offset n) c l

-- a number stands there, in some reading: what is written of it is the same in either
pub record NumberAhead (full : Bool) (s : List ℕ) (k n : ℕ) (c : Cursor) (l : List ℕ) : Type 0 where
  pub going : Going s c
  pub reading : Reading
  pub here : ValueHere reading s c.place.offset k n
  pub least : 14 ≤ k
  pub most : k ≤ 15
  pub room : StoreRoom full (rec_at k c.place.offset n) c l

-- the record of a token without content is written: every area stays as it is
abbrev pub WrotePlain : Bool → List ℕ → ℕ → ℕ → Cursor → List ℕ → Cursor → List ℕ → Type 0
WrotePlain full s k n c l e m = (a : List ℕ) → WroteToken full s k n (desk c l a) (desk e m a)

-- `loop_` stands there, with so many tags behind it
pub record LoopAhead (full : Bool) (s : List ℕ) (tags : ℕ) (c : Cursor) (l : List ℕ) : Type 0 where
  pub going : Going s c
  pub token : IsToken s 5 c.place.offset 5
  pub few : tags < 4294967296
  pub room : StoreRoom full (rec_at 5 c.place.offset 5) c l

-- its record is written
abbrev pub WroteLoop : Bool → List ℕ → ℕ → Cursor → List ℕ → Cursor → List ℕ → Type 0
WroteLoop full s tags c l e m =
    (a : List ℕ) → WroteOne full s tags (rec_at 5 c.place.offset 5) (c.place.offset + 5) (desk c l a) (desk e m a)

-- the record of a loop's end is written, and the cursor stays where it stands in the text
abbrev pub WroteEnd : Bool → Cursor → List ℕ → Cursor → List ℕ → Type 0
WroteEnd full c l e m = (s a : List ℕ) → Going s c → WroteOne full s 0 loop_end c.place.offset (desk c l a) (desk e m a)
