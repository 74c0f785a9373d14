-- Laws of going on while writing. Assumes nothing.
use Prim.Native.Nat.{ℕ, ◌+◌, ◌≤◌}
use mathlib.Core.Path.{◌≡◌, refl, sym, ap, ◌∙◌}
use mathlib.Core.Bool.{Bool, true, false, cond}
use mathlib.Core.List.{List, [], ◌∷◌, ◌++◌}
use native.Mathlib.Omega.{arith}
use lib.ListN.{length, length-append}
use Rattle.records.specs.Put.{put}
use Rattle.grammar.specs.Machine.{Rec}
use Rattle.places.specs.Places.{place_at}
use Rattle.sizes.specs.Sizes.{content_size, area_size}
use Rattle.desk.specs.Written.{record_bytes, content_of}
use Rattle.walking.specs.Writing.{tags_of, store_of, area_of, area_in}
use Rattle.desk.specs.Desk.{stored_length, Desk, Going, Room, WroteOne}
use Rattle.walking.specs.Walk.{Wrote, Onward}
use Rattle.records.proofs.Putting.{length-put, put-more}
use Rattle.desk.proofs.Copy.{put-none}
use Rattle.desk.proofs.Bytes.{record-length, store-none}
use Rattle.walking.proofs.Appends.{store_length, area-size-append, store-length-append, area-append, store-append}

module _ (full : Bool) (s : List ℕ) where
  pub onward-here : (rs : List Rec) (d : Desk) → Onward full s rs d rs d
  onward-here rs d = record { at = refl; behind = refl; filled = λ h. h; store_length = refl; area-length = refl; store = refl; area = refl }

  pub onward_then : (rs ls ks : List Rec) (d e f : Desk) → Onward full s rs d ls e → Onward full s ls e ks f → Onward full s rs d ks f
  onward_then rs ls ks d e f p q =
      record {
        at = q.at ∙ p.at;
        behind = q.behind ∙ p.behind;
        filled = λ h. p.filled (q.filled h);
        store_length = q.store_length ∙ p.store_length;
        area-length = q.area-length ∙ p.area-length;
        store = q.store ∙ p.store;
        area = q.area ∙ p.area;
      }

  -- room is kept
  pub room-onward : (rs ls : List Rec) (d e : Desk) → Room full rs d → Onward full s rs d ls e → Room full ls e
  room-onward rs ls d e r o =
      record { store = omega (arith, r.store, o.at, o.store_length); area = λ t. omega (arith, r.area t, o.behind, o.area-length) }

  area-then : (a : ℕ) (xs ys : List Rec) (l : List ℕ) → length (area_of s xs) ≡ area_size xs → (full ≡ true → a ≤ length l) →
      put (a + area_size xs) (area_in full s ys) (put a (area_in full s xs) l) ≡ put a (area_in full s (xs ++ ys)) l
  unfolding area_in
  area-then a xs ys l e h = by full h
    where
      by : (t : Bool) → (t ≡ true → a ≤ length l) → put (a + area_size xs) (area_in t s ys) (put a (area_in t s xs) l) ≡ put a (area_in t s (xs ++ ys)) l
      by true h = rw (← e, area-append) (put-more a (area_of s xs) (area_of s ys) l (h refl))
      by false h = put-none (a + area_size xs) (put a [] l)

  area-kept : (a : ℕ) (xs : List Rec) (l : List ℕ) → length (area_of s xs) ≡ area_size xs → (full ≡ true → a + area_size xs ≤ length l) → length (put a (area_in full s xs) l) ≡ length l
  unfolding area_in
  area-kept a xs l e h = by full h
    where
      by : (t : Bool) → (t ≡ true → a + area_size xs ≤ length l) → length (put a (area_in t s xs) l) ≡ length l
      by true h = length-put a (area_of s xs) l (omega (arith, h refl))
      by false h = ap length (put-none a l)

  -- records that are written, before others: their bytes are those of both, one after the other
  pub wrote-before : (xs ys : List Rec) (o : ℕ) (d e : Desk) → store_of full s d.cursor.area (xs ++ ys) ≡ store_of full s d.cursor.area xs ++ store_of full s (d.cursor.area + area_size xs) ys
      → Room full (xs ++ ys) d → Wrote full s xs o d e → Onward full s (xs ++ ys) d ys e
  wrote-before xs ys o d e t r w =
      let m = store-length-append full xs ys in
      let n = area-size-append xs ys in
      record {
        at = omega (arith, w.at, m);
        behind = omega (arith, w.behind, n);
        filled = λ h. rw (area-append, length-append, w.filled, h, n) refl;
        store_length = rw w.store (length-put d.cursor.at _ d.store (omega (arith, r.store, store_length full s d.cursor.area xs, m)));
        area-length = rw w.area (area-kept d.cursor.area xs d.area w.filled (λ f. omega (arith, r.area f, n)));
        store = rw (w.store, w.at, w.behind, t, ← store_length full s d.cursor.area xs) (put-more d.cursor.at (store_of full s d.cursor.area xs) (store_of full s (d.cursor.area + area_size xs) ys) d.store (omega (arith, r.store)));
        area = rw (w.area, w.behind) (area-then d.cursor.area xs ys d.area w.filled (λ f. omega (arith, r.area f)));
      }

  -- so where the others do not start with a loop's tag
  pub wrote-onward : (xs ys : List Rec) (o : ℕ) (d e : Desk) → tags_of ys ≡ 0 → Room full (xs ++ ys) d → Wrote full s xs o d e → Onward full s (xs ++ ys) d ys e
  wrote-onward xs ys o d e t r w = wrote-before xs ys o d e (store-append full s d.cursor.area xs ys t) r w

  content-then : (a : ℕ) (r : Rec) (rs : List Rec) (l : List ℕ) → length (content_of s r) ≡ content_size r.kind r.size → (full ≡ true → a ≤ length l) →
      put (a + content_size r.kind r.size) (area_in full s rs) (put a (cond full (content_of s r) []) l) ≡ put a (area_in full s (r ∷ rs)) l
  unfolding area_in area_of
  content-then a r rs l e h = by full h
    where
      by : (t : Bool) → (t ≡ true → a ≤ length l) → put (a + content_size r.kind r.size) (area_in t s rs) (put a (cond t (content_of s r) []) l) ≡ put a (area_in t s (r ∷ rs)) l
      by true h = rw (← e) (put-more a (content_of s r) (area_of s rs) l (h refl))
      by false h = put-none (a + content_size r.kind r.size) (put a [] l)

  content-kept : (a : ℕ) (r : Rec) (l : List ℕ) → length (content_of s r) ≡ content_size r.kind r.size → (full ≡ true → a + content_size r.kind r.size ≤ length l) → length (put a (cond full (content_of s r) []) l) ≡ length l
  content-kept a r l e h = by full h
    where
      by : (t : Bool) → (t ≡ true → a + content_size r.kind r.size ≤ length l) → length (put a (cond t (content_of s r) []) l) ≡ length l
      by true h = length-put a (content_of s r) l (omega (arith, h refl))
      by false h = ap length (put-none a l)

  -- one record that is written, before others
  pub one-onward : (r : Rec) (rs : List Rec) (o : ℕ) (d e : Desk) → Room full (r ∷ rs) d → WroteOne full s (tags_of rs) r o d e → Onward full s (r ∷ rs) d rs e
  unfolding store_of area_of area_size
  one-onward r rs o d e h w =
      let b = record_bytes full s d.cursor.area (tags_of rs) r in
      let m : length b + stored_length full rs ≡ stored_length full (r ∷ rs) = record-length full s d.cursor.area (tags_of rs) r rs in
      let z : stored_length full (r ∷ []) ≡ length b = omega (arith, record-length full s d.cursor.area (tags_of rs) r [], store-none full) in
      record {
        at = omega (arith, w.at, m, z);
        behind = omega (arith, w.behind);
        filled = λ f. rw (length-append, w.filled, f) refl;
        store_length = rw w.store (length-put d.cursor.at b d.store (omega (arith, h.store, m)));
        area-length = rw w.area (content-kept d.cursor.area r d.area w.filled (λ f. omega (arith, h.area f)));
        store = rw (w.store, w.at, w.behind, z) (put-more d.cursor.at b (store_of full s (d.cursor.area + content_size r.kind r.size) rs) d.store (omega (arith, h.store)));
        area = rw (w.area, w.behind) (content-then d.cursor.area r rs d.area w.filled (λ f. omega (arith, h.area f)));
      }

  -- nothing is left
  pub onward-wrote : (rs : List Rec) (o : ℕ) (d e : Desk) → Onward full s rs d [] e → Going s e.cursor → e.cursor.place ≡ place_at s o → Wrote full s rs o d e
  unfolding store_of area_of area_size
  onward-wrote rs o d e w g p =
      record {
        going = g;
        place = p;
        at = omega (arith, w.at, store-none full);
        behind = omega (arith, w.behind);
        filled = w.filled refl;
        store = sym (put-none e.cursor.at e.store) ∙ w.store;
        area = sym (area-none full) ∙ w.area;
      }
    where
      area-none : (t : Bool) → put e.cursor.area (area_in t s []) e.area ≡ e.area
      area-none true = unfold area_in in put-none e.cursor.area e.area
      area-none false = unfold area_in in put-none e.cursor.area e.area
