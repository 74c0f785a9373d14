-- From token to token: what must hold before names, values and an item are written, and what holds afterwards. `Onward` says that the buffers will be the same in the
-- end when the records that are left are written from here. Assumes nothing.
use Rattle.std.specs.Prelude.{ℕ, ◌+◌, ◌≤◌, ◌≡◌, Bool, true, false, List, [], ◌∷◌, length, drop}
use Rattle.rules.specs.declared.Reading.{Reading}
use Rattle.gaps.specs.Gaps.{gap, gap_end}
use Rattle.places.specs.Places.{place_at}
use Rattle.kinds.specs.declared.Shape.TheVariants.{Content}
use Rattle.kinds.specs.Kinds.{kind_of, shape_of}
use Rattle.records.specs.Put.{put}
use Rattle.found.specs.declared.Found.TheVariants.{Value}
use Rattle.values.specs.Finding.{found_at}
use Rattle.grammar.specs.Tokens.{Tok, in_block}
use Rattle.grammar.specs.Machine.{Rec}
use Rattle.grammar.specs.Descent.{Item, taken, failed, absent, broken, item, name_recs, after_names, value_recs, after_values}
use Rattle.grammar.specs.Tokens.{tokens_at, heading_at}
use Rattle.sizes.specs.Sizes.{area_size}
use Rattle.desk.specs.declared.Cursor.{Cursor}
use Rattle.walking.specs.Writing.{store_of, area_of, area_in}
use Rattle.desk.specs.Desk.{stored_length, Desk, Going, Room, IsToken, rec_at, ValueHere}

-- the records are written, and the cursor stands at offset o
pub record Wrote (full : Bool) (s : List ℕ) (rs : List Rec) (o : ℕ) (d e : Desk) : Type 0 where
  pub going : Going s e.cursor
  pub place : e.cursor.place ≡ place_at s o
  pub at : e.cursor.at ≡ d.cursor.at + stored_length full rs
  pub behind : e.cursor.area ≡ d.cursor.area + area_size rs
  pub filled : length (area_of s rs) ≡ area_size rs
  pub store : e.store ≡ put d.cursor.at (store_of full s d.cursor.area rs) d.store
  pub area : e.area ≡ put d.cursor.area (area_in full s rs) d.area

-- the same cursor, behind space and comments
unfoldable pub behind_gap : List ℕ → Cursor → Cursor
behind_gap s c = record { place = place_at s (gap_end s c.place.offset); at = c.at; area = c.area }

-- from d with records rs left to write to e with records left: the buffers will be the same in the end
pub record Onward (full : Bool) (s : List ℕ) (rs : List Rec) (d : Desk) (left : List Rec) (e : Desk) : Type 0 where
  pub at : e.cursor.at + stored_length full left ≡ d.cursor.at + stored_length full rs
  pub behind : e.cursor.area + area_size left ≡ d.cursor.area + area_size rs
  pub filled : length (area_of s left) ≡ area_size left → length (area_of s rs) ≡ area_size rs
  pub store_length : length e.store ≡ length d.store
  pub area-length : length e.area ≡ length d.area
  pub store : put e.cursor.at (store_of full s e.cursor.area left) e.store ≡ put d.cursor.at (store_of full s d.cursor.area rs) d.store
  pub area : put e.cursor.area (area_in full s left) e.area ≡ put d.cursor.area (area_in full s rs) d.area

-- a value that is no number, a mark or text, stands at the cursor, and there is room for it
pub record TokenAhead (full : Bool) (s : List ℕ) (k n : ℕ) (d : Desk) : Type 0 where
  pub going : Going s d.cursor
  pub token : IsToken s k d.cursor.place.offset n
  pub least : 8 ≤ k
  pub text : 10 ≤ k → shape_of (kind_of k) ≡ Content
  pub room : Room full (rec_at k d.cursor.place.offset n ∷ []) d

-- any value
pub record ValueAhead (r : Reading) (full : Bool) (s : List ℕ) (k n : ℕ) (d : Desk) : Type 0 where
  pub going : Going s d.cursor
  pub here : ValueHere r s d.cursor.place.offset k n
  pub room : Room full (rec_at k d.cursor.place.offset n ∷ []) d

-- the names, the values from an offset on, and what stands behind them
abbrev pub names_from : Reading → List ℕ → ℕ → List Rec
names_from r s o = name_recs r (tokens_at r in_block s o)

abbrev pub behind_names : Reading → List ℕ → ℕ → List Tok
behind_names r s o = after_names r (tokens_at r in_block s o)

abbrev pub values_from : Reading → List ℕ → ℕ → List Rec
values_from r s o = value_recs (tokens_at r in_block s o)

abbrev pub behind_values : Reading → List ℕ → ℕ → List Tok
behind_values r s o = after_values (tokens_at r in_block s o)

-- there is room for the names, for the values from the cursor on
pub record NamesAhead (r : Reading) (full : Bool) (s : List ℕ) (d : Desk) : Type 0 where
  pub going : Going s d.cursor
  pub room : Room full (names_from r s d.cursor.place.offset) d

pub record ValuesAhead (r : Reading) (full : Bool) (s : List ℕ) (d : Desk) : Type 0 where
  pub going : Going s d.cursor
  pub room : Room full (values_from r s d.cursor.place.offset) d

-- they are written, and the cursor stands behind them and the space there
abbrev pub WroteNames : Reading → Bool → List ℕ → Desk → Desk → Type 0
WroteNames r full s d e =
    Wrote full s (names_from r s d.cursor.place.offset) (heading_at (behind_names r s d.cursor.place.offset)) d e

abbrev pub WroteValues : Reading → Bool → List ℕ → Desk → Desk → Type 0
WroteValues r full s d e =
    Wrote full s (values_from r s d.cursor.place.offset) (heading_at (behind_values r s d.cursor.place.offset)) d e

-- an item that is read: its records, and the tokens behind it
unfoldable pub item_recs : Item → List Rec
item_recs (taken b rs rest) = rs
item_recs (failed n o d rest) = []
item_recs (absent rest) = []
item_recs (broken n o d) = []

unfoldable pub item_rest : Item → List Tok
item_rest (taken b rs rest) = rest
item_rest (failed n o d rest) = rest
item_rest (absent rest) = rest
item_rest (broken n o d) = []

unfoldable pub is_taken : Item → Bool
is_taken (taken b rs rest) = true
is_taken (failed n o d rest) = false
is_taken (absent rest) = false
is_taken (broken n o d) = false

-- the item at an offset
abbrev pub item_of : Reading → List ℕ → ℕ → Item
item_of r s o = item r (tokens_at r in_block s o)

-- an item that is read stands at the cursor, where no space does, no value stands behind it, and there is room for it
pub record ItemHere (r : Reading) (full : Bool) (s : List ℕ) (d : Desk) : Type 0 where
  pub going : Going s d.cursor
  pub bare : gap (drop d.cursor.place.offset s) ≡ 0
  pub read : is_taken (item_of r s d.cursor.place.offset) ≡ true
  pub alone : (k n : ℕ) → found_at r s (heading_at (item_rest (item_of r s d.cursor.place.offset))) ≡ Value k n → ⊥
  pub room : Room full (item_recs (item_of r s d.cursor.place.offset)) d

-- it is written, and the cursor stands behind it and the space there
abbrev pub WroteItem : Reading → Bool → List ℕ → Desk → Desk → Type 0
WroteItem r full s d e =
    Wrote full s (item_recs (item_of r s d.cursor.place.offset)) (heading_at (item_rest (item_of r s d.cursor.place.offset))) d e
