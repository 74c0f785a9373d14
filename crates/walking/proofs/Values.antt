-- The cursor behind space and comments: room and records are the same from there. Assumes nothing.
use Prim.Native.Nat.{ℕ}
use mathlib.Core.Path.{◌≡◌, ap}
use mathlib.Core.Bool.{Bool}
use mathlib.Core.List.{List}
use Rattle.gaps.specs.Gaps.{gap_end}
use Rattle.places.specs.Places.{place_at}
use Rattle.places.proofs.Places.{place-offset}
use Rattle.grammar.specs.Machine.{Rec}
use Rattle.desk.specs.declared.Cursor.{Cursor}
use Rattle.desk.specs.Desk.{Desk, desk, Going, Room, WroteOne}
use Rattle.walking.specs.Walk.{Wrote, behind_gap}
use Rattle.walking.proofs.Turns.{going_on}

module _ (s : List ℕ) (c h : Cursor) (q : h ≡ behind_gap s c) where
  pub trim-place : h.place ≡ place_at s (gap_end s c.place.offset)
  unfolding behind_gap
  trim-place = ap (λ (x : Cursor). x.place) q

  pub trim-offset : h.place.offset ≡ gap_end s c.place.offset
  trim-offset = place-offset s h.place (gap_end s c.place.offset) trim-place

  pub trim-at : h.at ≡ c.at
  unfolding behind_gap
  trim-at = ap (λ (x : Cursor). x.at) q

  pub trim-area : h.area ≡ c.area
  unfolding behind_gap
  trim-area = ap (λ (x : Cursor). x.area) q

  pub trim-going : Going s c → Going s h
  trim-going g = going_on s c h g trim-place trim-area

  module _ (full : Bool) (l a : List ℕ) where
    pub trim-room : (rs : List Rec) → Room full rs (desk c l a) → Room full rs (desk h l a)
    trim-room rs r = record { store = rw trim-at r.store; area = λ t. rw trim-area (r.area t) }

    pub trim-one : (n : ℕ) (r : Rec) (o : ℕ) (e : Desk) → WroteOne full s n r o (desk h l a) e → WroteOne full s n r o (desk c l a) e
    trim-one n r o e w =
        record {
          going = w.going;
          place = w.place;
          at = rw trim-at at w.at;
          behind = rw trim-area at w.behind;
          filled = w.filled;
          store = rw (trim-at, trim-area) at w.store;
          area = rw trim-area at w.area;
        }

    pub trim-wrote : (rs : List Rec) (o : ℕ) (e : Desk) → Wrote full s rs o (desk h l a) e → Wrote full s rs o (desk c l a) e
    trim-wrote rs o e w =
        record {
          going = w.going;
          place = w.place;
          at = rw trim-at at w.at;
          behind = rw trim-area at w.behind;
          filled = w.filled;
          store = rw (trim-at, trim-area) at w.store;
          area = rw trim-area at w.area;
        }
