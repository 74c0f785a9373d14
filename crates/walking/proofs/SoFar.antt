-- The loops that write names and values: what is written so far, and what is left from the cursor on. Assumes nothing.
use Prim.Native.Nat.{ℕ}
use mathlib.Core.Path.{◌≡◌, refl, sym, ap, ◌∙◌}
use mathlib.Core.Bool.{Bool, true, false}
use mathlib.Core.List.{List, [], ◌∷◌}
use native.Mathlib.Omega.{arith}
use Rattle.gaps.specs.Gaps.{gap_end}
use Rattle.places.specs.Places.{place_at}
use Rattle.places.proofs.Places.{place-offset}
use Rattle.kinds.specs.declared.Shape.{Shape}
use Rattle.kinds.specs.declared.Shape.TheVariants.{Empty, Place, Content, Count, Parts, PartsUncertain}
use Rattle.kinds.specs.Kinds.{kind_of, shape_of, outline_shape}
use Rattle.grammar.specs.Tokens.{Tok}
use Rattle.grammar.specs.Machine.{Rec}
use Rattle.sizes.specs.Sizes.{area_size}
use Rattle.desk.specs.declared.Cursor.{Cursor}
use Rattle.desk.specs.Written.{shaped, shape_in, record_bytes}
use Rattle.walking.specs.Writing.{tags_of}
use Rattle.desk.specs.Desk.{Desk, desk, Going, Room, WroteOne}
use Rattle.walking.specs.Walk.{Wrote, Onward, behind_gap}
use Rattle.desk.proofs.Bytes.{record-length, store-none}
use Rattle.walking.proofs.Onward.{onward-here, onward_then, room-onward, one-onward, onward-wrote}
use Rattle.walking.proofs.Values.{trim-at, trim-area, trim-going, trim-offset}

-- only a loop's record counts tags
unfoldable pub is_count : Shape → Bool
is_count Empty = false
is_count Place = false
is_count Content = false
is_count Count = true
is_count Parts = false
is_count PartsUncertain = false

shaped-free : (h : Shape) (s : List ℕ) (a m n : ℕ) (r : Rec) → is_count h ≡ false → shaped h s a m r ≡ shaped h s a n r
unfolding is_count shaped
shaped-free Empty s a m n r e = refl
shaped-free Place s a m n r e = refl
shaped-free Content s a m n r e = refl
shaped-free Count s a m n r e = cc
shaped-free Parts s a m n r e = refl
shaped-free PartsUncertain s a m n r e = refl

outline-free : (h : Shape) → is_count (outline_shape h) ≡ false
unfolding is_count outline_shape
outline-free Empty = refl
outline-free Place = refl
outline-free Content = refl
outline-free Count = refl
outline-free Parts = refl
outline-free PartsUncertain = refl

pub bytes-free : (full : Bool) (s : List ℕ) (a m n : ℕ) (r : Rec) → is_count (shape_of (kind_of r.kind)) ≡ false → record_bytes full s a m r ≡ record_bytes full s a n r
unfolding record_bytes shape_in
bytes-free true s a m n r e = shaped-free (shape_of (kind_of r.kind)) s a m n r e
bytes-free false s a m n r e = shaped-free (outline_shape (shape_of (kind_of r.kind))) s a m n r (outline-free (shape_of (kind_of r.kind)))

-- so for any other record every count is right
pub any-count : (full : Bool) (s : List ℕ) (m n : ℕ) (r : Rec) (o : ℕ) (d e : Desk) → is_count (shape_of (kind_of r.kind)) ≡ false → WroteOne full s m r o d e → WroteOne full s n r o d e
any-count full s m n r o d e f w =
    record {
      going = w.going;
      place = w.place;
      at = w.at;
      behind = w.behind;
      filled = w.filled;
      store = w.store ∙ rw (bytes-free full s d.cursor.area m n r f) refl;
      area = w.area;
    }

-- room for all is room for the first
pub room-first : (full : Bool) (r : Rec) (rs : List Rec) (d : Desk) → Room full (r ∷ rs) d → Room full (r ∷ []) d
unfolding area_size
room-first full r rs d h =
    let b = record_bytes full [] 0 0 r in
    record {
      store = omega (arith, h.store, record-length full [] 0 0 r rs, record-length full [] 0 0 r [], store-none full);
      area = λ t. omega (arith, h.area t);
    }

-- from the desk d₀ to the desk d: the records from the cursor on are left
pub record SoFar (full : Bool) (s : List ℕ) (recs : ℕ → List Rec) (rest : ℕ → List Tok) (d₀ d : Desk) : Type 0 where
  pub going : Going s d.cursor
  pub onward : Onward full s (recs d₀.cursor.place.offset) d₀ (recs d.cursor.place.offset) d
  pub room : Room full (recs d.cursor.place.offset) d
  pub same : rest d₀.cursor.place.offset ≡ rest d.cursor.place.offset

module _ (full : Bool) (s : List ℕ) (recs : ℕ → List Rec) (rest : ℕ → List Tok) where
  pub start : (d : Desk) → Going s d.cursor → Room full (recs d.cursor.place.offset) d → SoFar full s recs rest d d
  start d g r = record { going = g; onward = onward-here full s (recs d.cursor.place.offset) d; room = r; same = refl }

  -- one record more
  pub next : (d₀ d e : Desk) (r : Rec) (o : ℕ) → SoFar full s recs rest d₀ d → recs d.cursor.place.offset ≡ r ∷ recs o → rest d.cursor.place.offset ≡ rest o
      → is_count (shape_of (kind_of r.kind)) ≡ false → WroteOne full s 0 r o d e → SoFar full s recs rest d₀ e
  next d₀ d e r o h p q f w =
      let z : e.cursor.place.offset ≡ o = place-offset s e.cursor.place o w.place in
      let x : recs e.cursor.place.offset ≡ recs o = ap recs z in
      let room : Room full (r ∷ recs o) d = rw p at h.room in
      let one : Onward full s (r ∷ recs o) d (recs o) e = one-onward full s r (recs o) o d e room (any-count full s 0 (tags_of (recs o)) r o d e f w) in
      let all : Onward full s (recs d₀.cursor.place.offset) d₀ (recs o) e = onward_then full s (recs d₀.cursor.place.offset) (r ∷ recs o) (recs o) d₀ d e (rw p at h.onward) one in
      record {
        going = w.going;
        onward = rw x all;
        room = rw x (room-onward full s (r ∷ recs o) (recs o) d e room one);
        same = h.same ∙ q ∙ ap rest (sym z);
      }

  -- over space and comments
  pub over-gap : (d₀ : Desk) (c e : Cursor) (l a : List ℕ) → SoFar full s recs rest d₀ (desk c l a) → e ≡ behind_gap s c
      → recs (gap_end s c.place.offset) ≡ recs c.place.offset → rest (gap_end s c.place.offset) ≡ rest c.place.offset → SoFar full s recs rest d₀ (desk e l a)
  over-gap d₀ c e l a h q p t =
      let z = trim-offset s c e q in
      let x : recs e.place.offset ≡ recs c.place.offset = rw z p in
      let y : rest e.place.offset ≡ rest c.place.offset = rw z t in
      let o = h.onward in
      record {
        going = trim-going s c e q h.going;
        onward =
            record {
              at = rw (x, trim-at s c e q) o.at;
              behind = rw (x, trim-area s c e q) o.behind;
              filled = rw x o.filled;
              store_length = o.store_length;
              area-length = o.area-length;
              store = rw (x, trim-at s c e q, trim-area s c e q) o.store;
              area = rw (x, trim-area s c e q) o.area;
            };
        room = record { store = rw (x, trim-at s c e q) h.room.store; area = λ f. rw (x, trim-area s c e q) (h.room.area f) };
        same = h.same ∙ sym y;
      }

  -- nothing is left
  pub all : (d₀ d : Desk) (p : ℕ) → SoFar full s recs rest d₀ d → recs d.cursor.place.offset ≡ [] → p ≡ d.cursor.place.offset → Wrote full s (recs d₀.cursor.place.offset) p d₀ d
  all d₀ d p h e q =
      onward-wrote full s (recs d₀.cursor.place.offset) p d₀ d (rw e at h.onward) h.going (h.going.place.at ∙ ap (place_at s) (sym q))
