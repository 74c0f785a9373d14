-- Writing the whole text: the first heading, then what is left behind it. Assumes nothing.
use Prim.Native.Nat.{ℕ, ◌+◌, ◌-◌, ◌≤◌}
use mathlib.Core.Path.{◌≡◌, refl, ap, ◌∙◌}
use mathlib.Core.Bool.{Bool}
use mathlib.Core.List.{List, [], ◌∷◌}
use mathlib.Core.Option.{none}
use native.Mathlib.Omega.{arith}
use lib.ListN.{length, drop}
use Rattle.rules.specs.declared.Reading.{Reading}
use Rattle.gaps.specs.Gaps.{gap_end}
use Rattle.places.specs.Places.{place_at}
use Rattle.places.specs.declared.Place.{Place}
use Rattle.gaps.proofs.Gaps.{gap-none}
use Rattle.places.proofs.Places.{is-start, place-offset}
use Rattle.words.specs.Words.{word, end_of_word}
use Rattle.words.proofs.Words.{word_end}
use Rattle.kinds.specs.Kinds.{kind_of, shape_of, marks_of}
use Rattle.records.specs.Put.{front, put}
use Rattle.records.proofs.Putting.{put-zero}
use Rattle.grammar.specs.Machine.{Rec}
use Rattle.text.specs.Limits.{limit}
use Rattle.decisions.specs.Onward.{left}
use Rattle.desk.specs.declared.Cursor.{Cursor}
use Rattle.walking.specs.Writing.{tags_of, store_of, area_in}
use Rattle.desk.specs.Desk.{Desk, desk, Going, Room, IsToken, rec_at, TextAhead}
use Rattle.walking.specs.Walk.{Wrote, Onward, behind_gap}
use Rattle.writing.specs.Block.{Fits, records_of, store_bytes, area_bytes, is_done, recs_left, Ahead, WroteHeading}
use Rattle.writing.proofs.Frames.{onward-trim}
use Rattle.desk.proofs.Lines.{part-token}
use Rattle.walking.proofs.Onward.{room-onward, one-onward}
use Rattle.writing.proofs.Rest.{Begins, heading}
use Rattle.walking.proofs.SoFar.{is_count, any-count, room-first}
use Rattle.walking.proofs.Values.{trim-at, trim-area, trim-offset, trim-going}

-- the text's start
abbrev pub at_start : Cursor
at_start = record { place = record { offset = 0; line = 1; column = 1 }; at = 0; area = 0 }

-- the cursor at the first token, whose place is found
abbrev pub begun : Place → Cursor
begun p = record { place = p; at = 0; area = 0 }

pub begins : (s : List ℕ) (p : Place) → p ≡ place_at s (gap_end s 0) → begun p ≡ behind_gap s at_start
unfolding behind_gap
begins s p e = ap begun e

pub start-going : (s : List ℕ) → length s ≤ 16777216 → Going s at_start
start-going s h = record { place = is-start s; short = h; behind = omega arith }

module _ (r : Reading) (full : Bool) (s store area : List ℕ) (f : Fits r full s store area) (h : Cursor) (q : h ≡ behind_gap s at_start) (w : ℕ) (z : w ≡ end_of_word s h.place.offset - h.place.offset) where
  abbrev o : ℕ
  o = h.place.offset

  abbrev d : Desk
  d = desk h store area

  abbrev recs : List Rec
  recs = records_of r s

  size : w ≡ word (drop o s)
  size = omega (arith, word_end s o)

  read : Begins r s o w
  read = heading r s o w (trim-offset s at_start h q) size f.reads

  block-going : Going s h
  unfolding limit
  block-going = trim-going s at_start h q (start-going s f.short)

  block_token : IsToken s 1 o w
  unfolding kind_of marks_of
  block_token =
      let five = read.bytes in
      part-token s 1 o w block-going.place.within (omega (arith, size)) (omega (arith, size)) (omega (arith, size))

  all_room : Room full recs d
  all_room =
      record {
        store = omega (arith, f.in_store, trim-at s at_start h q);
        area = λ t. omega (arith, f.in_area t, trim-area s at_start h q);
      }

  rest-room : Room full (rec_at 1 o w ∷ recs_left r none s (gap_end s (o + w))) d
  rest-room = rw read.recs at all_room

  block_room : Room full (rec_at 1 o w ∷ []) d
  block_room = room-first full (rec_at 1 o w) (recs_left r none s (gap_end s (o + w))) d rest-room

  pub block-head : TextAhead full s 1 w d
  unfolding kind_of shape_of
  block-head = record { going = block-going; token = block_token; content = refl; room = block_room }

  module _ (e : Desk) (v : WroteHeading full s 1 w d e) where
    abbrev b : Desk
    b = v.behind

    at_rest : e.cursor.place.offset ≡ gap_end s (o + w)
    at_rest = rw v.trim (trim-offset s b.cursor _ refl ∙ ap (gap_end s) (place-offset s b.cursor.place (o + w) v.wrote.place))

    same : recs_left r none s e.cursor.place.offset ≡ recs_left r none s (gap_end s (o + w))
    same = ap (recs_left r none s) at_rest

    onward : Onward full s (rec_at 1 o w ∷ recs_left r none s (gap_end s (o + w))) d (recs_left r none s (gap_end s (o + w))) e
    unfolding is_count kind_of shape_of
    onward =
        let ls = recs_left r none s (gap_end s (o + w)) in
        rw v.trim (onward-trim full s (rec_at 1 o w ∷ ls) ls d b.cursor _ b.store b.area refl
        (one-onward full s (rec_at 1 o w) ls (o + w) d b rest-room (any-count full s 0 (tags_of ls) (rec_at 1 o w) (o + w) d b refl v.wrote)))

    pub block-ahead : Ahead r full s none e
    block-ahead =
        record {
          going = rw v.trim (trim-going s b.cursor _ refl v.wrote.going);
          bare = rw at_rest (gap-none s (o + w));
          reads = ap (λ (p : ℕ). is_done (left r 0 none s p [])) at_rest ∙ read.reads;
          room = rw same (room-onward full s _ _ d e rest-room onward);
        }

    pub block-stored : (x : Desk) → Wrote full s (recs_left r none s e.cursor.place.offset) (length s) e x → x.store ≡ front (store_bytes r full s) store
    unfolding store_bytes
    block-stored x y =
        let at = trim-at s at_start h q in
        let from = trim-area s at_start h q in
        let ls = recs_left r none s (gap_end s (o + w)) in
        let i : x.store ≡ put e.cursor.at (store_of full s e.cursor.area ls) e.store = y.store ∙ ap (λ (z : List Rec). put e.cursor.at (store_of full s e.cursor.area z) e.store) same in
        let j : put h.at (store_of full s h.area (rec_at 1 o w ∷ ls)) store ≡ front (store_of full s 0 recs) store = rw (at, from, ← read.recs) (put-zero (store_of full s 0 recs) store) in
        i ∙ onward.store ∙ j

    pub block-copied : (x : Desk) → Wrote full s (recs_left r none s e.cursor.place.offset) (length s) e x → x.area ≡ front (area_bytes r full s) area
    unfolding area_bytes
    block-copied x y =
        let from = trim-area s at_start h q in
        let ls = recs_left r none s (gap_end s (o + w)) in
        let i : x.area ≡ put e.cursor.area (area_in full s ls) e.area = y.area ∙ ap (λ (z : List Rec). put e.cursor.area (area_in full s z) e.area) same in
        let j : put h.area (area_in full s (rec_at 1 o w ∷ ls)) area ≡ front (area_in full s recs) area = rw (from, ← read.recs) (put-zero (area_in full s recs) area) in
        i ∙ onward.area ∙ j
