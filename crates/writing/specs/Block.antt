-- From item to item: what must hold before items, headings, a frame and the blocks are written, and what holds
-- afterwards. Assumes nothing.
use Rattle.std.specs.Prelude.{Option as Maybe, Some, None, ℕ, ◌+◌, ◌≤◌, ◌<◌, ◌≡◌, Bool, true, false, List, [], length, drop, Result, Ok, Err}
use Rattle.std.proofs.Math.Option.{Option, none}
use Rattle.rules.specs.declared.Reading.{Reading}
use Rattle.gaps.specs.Gaps.{gap}
use Rattle.grammar.specs.Machine.{Rec, Answer, refused, done}
use Rattle.decisions.specs.Onward.{left}
use Rattle.grammar.specs.Reading.{decided}
use Rattle.text.specs.Limits.{limit}
use Rattle.items.specs.declared.Item.{Item as Answered}
use Rattle.items.specs.declared.Item.TheVariants.{Loop, Single, Failed, Absent}
use Rattle.grammar.specs.declared.Fault.{Fault}
use Rattle.sizes.specs.Sizes.{area_size}
use Rattle.desk.specs.declared.Cursor.{Cursor}
use Rattle.walking.specs.Writing.{store_of, area_in}
use Rattle.desk.specs.Desk.{stored_length, Desk, desk, Going, Room, IsToken, StoreRoom, rec_at, WroteOne}
use Rattle.walking.specs.Walk.{Wrote, Onward, behind_gap}

-- the records of an answer, and whether it has them
unfoldable pub answer_recs : Answer → List Rec
answer_recs (done rs) = rs
answer_recs (refused n o d) = []

unfoldable pub is_done : Answer → Bool
is_done (done rs) = true
is_done (refused n o d) = false

-- the records from an offset on, in the block or in the frame that opened at an offset; they don't depend on what a 7 would say
abbrev pub recs_left : Reading → Option ℕ → List ℕ → ℕ → List Rec
recs_left r f s o = answer_recs (left r 0 f s o [])

-- from the cursor on, where no space stands, all is read, and there is room for it
pub record Ahead (r : Reading) (full : Bool) (s : List ℕ) (f : Option ℕ) (d : Desk) : Type 0 where
  pub going : Going s d.cursor
  pub bare : gap (drop d.cursor.place.offset s) ≡ 0
  pub reads : is_done (left r 0 f s d.cursor.place.offset []) ≡ true
  pub room : Room full (recs_left r f s d.cursor.place.offset) d

-- from the desk d in f to the desk e in g: what is left there is what was left here, less what is written
pub record Moved (r : Reading) (full : Bool) (s : List ℕ) (f : Option ℕ) (d : Desk) (g : Option ℕ) (e : Desk) : Type 0 where
  pub ahead : Ahead r full s g e
  pub onward : Onward full s (recs_left r f s d.cursor.place.offset) d (recs_left r g s e.cursor.place.offset) e
  pub further : d.cursor.place.offset < e.cursor.place.offset

-- the same in the block; to the text's end
abbrev pub MovedOn : Reading → Bool → List ℕ → Desk → Desk → Type 0
MovedOn r full s d e = Moved r full s none d none e

abbrev pub WroteRest : Reading → Bool → List ℕ → Desk → Desk → Type 0
WroteRest r full s d e = Wrote full s (recs_left r none s d.cursor.place.offset) (length s) d e

-- the record of the token of kind k and n bytes at o is written, and the cursor stands behind the space that follows
pub record WroteBeyond (full : Bool) (s : List ℕ) (k o n : ℕ) (d e : Desk) : Type 0 where
  pub behind : Desk
  pub wrote : WroteOne full s 0 (rec_at k o n) (o + n) d behind
  pub trim : e ≡ desk (behind_gap s behind.cursor) behind.store behind.area

-- that of the token at the cursor
abbrev pub WroteHeading : Bool → List ℕ → ℕ → ℕ → Desk → Desk → Type 0
WroteHeading full s k n d e = WroteBeyond full s k d.cursor.place.offset n d e

-- a frame closes where its items stopped, behind the cursor at o: `save_` stands there
pub record Closing (s : List ℕ) (o stop : ℕ) : Type 0 where
  pub onward : o ≤ stop
  pub bare : gap (drop stop s) ≡ 0
  pub token : IsToken s 3 stop 5

-- it does, and there is room for the record of its end
pub record CloseAhead (full : Bool) (s : List ℕ) (stop : ℕ) (c : Cursor) (l : List ℕ) : Type 0 where
  pub going : Going s c
  pub closing : Closing s c.place.offset stop
  pub room : StoreRoom full (rec_at 3 stop 5) c l

-- that record is written
abbrev pub WroteClose : Bool → List ℕ → ℕ → Cursor → List ℕ → Cursor → List ℕ → Type 0
WroteClose full s stop c l e m = (a : List ℕ) → WroteBeyond full s 3 stop 5 (desk c l a) (desk e m a)

-- where the items of a frame stop, unless one stands next that is read
unfoldable pub stop_of : Result Answered Fault → Maybe ℕ
stop_of (Ok (Loop n z w)) = None
stop_of (Ok (Single n z)) = None
stop_of (Ok (Failed e p)) = Some p
stop_of (Ok (Absent o)) = Some o
stop_of (Err e) = Some e.at

-- the records of a text that is read, and what is written of them
abbrev pub records_of : Reading → List ℕ → List Rec
records_of r s = answer_recs (decided r s)

unfoldable pub store_bytes : Reading → Bool → List ℕ → List ℕ
store_bytes r full s = store_of full s 0 (records_of r s)

unfoldable pub area_bytes : Reading → Bool → List ℕ → List ℕ
area_bytes r full s = area_in full s (records_of r s)

-- a text is read, and store and area have room for its records
pub record Fits (r : Reading) (full : Bool) (s store area : List ℕ) : Type 0 where
  pub short : length s ≤ limit
  pub reads : is_done (decided r s) ≡ true
  pub in_store : stored_length full (records_of r s) ≤ length store
  pub in_area : full ≡ true → area_size (records_of r s) ≤ length area
