-- Laws of the walk over a store: the entries from an offset on, by what stands there. Assumes nothing.
use Prim.Native.Nat.{ℕ, zero, suc, ◌+◌, ◌-◌, ◌≤◌, ◌<◌}
use mathlib.Core.Path.{◌≡◌, refl, ap, ◌∙◌}
use mathlib.Core.Bool.{Bool, true, false, cond, ◌&&◌}
use mathlib.Core.List.{List, [], ◌∷◌}
use native.Mathlib.Omega.{arith}
use borrow.Author.Tests.{leb-true, leb-false}
use lib.Dec.{leb}
use lib.ListN.{length, drop, length-drop, drop_of_length-le}
use lib.Seq.{drop-drop}
use Rattle.text.proofs.Bools.{and_r}
use Rattle.kinds.specs.declared.Kind.{Kind}
use Rattle.entries.specs.declared.Fields.{Fields}
use Rattle.entries.specs.declared.Entry.{Entry}
use Rattle.kinds.specs.Kinds.{kind_of, shape_of, body_length}
use Rattle.entries.specs.Entries.{is_kind, fields_of, entry_of, entry_at, whole}
use Rattle.entries.specs.Walk.{onward, entries_from, entries}
use Rattle.std.specs.Prelude.{Option, Some, None}
use Rattle.entries.proofs.Wholes.{one}

-- the entries from an offset on
unfoldable pub rest : List ℕ → ℕ → List (Option Entry)
rest st at = entries_from (drop at st) 0

-- the entries from an offset on are those of the bytes from there on
pub rest-is : (st : List ℕ) (at : ℕ) → entries_from (drop at st) 0 ≡ rest st at
unfolding rest
rest-is st at = refl

-- all entries are those from the first byte on
pub entries-first : (st : List ℕ) → entries st ≡ entries_from (drop 0 st) 0
unfolding entries
entries-first st = refl

pub rest_all : (st : List ℕ) → entries st ≡ rest st 0
unfolding rest entries
rest_all st = refl

pub rest_over : (st : List ℕ) (at : ℕ) → length st ≤ at → rest st at ≡ []
unfolding rest entries_from
rest_over st at h = rw (drop_of_length-le st h)

-- bytes that belong to an entry are passed over
cover-drop : (s : List ℕ) (k : ℕ) → entries_from s k ≡ entries_from (drop k s) 0
unfolding entries_from
cover-drop [] zero = refl
cover-drop [] (suc k) = refl
cover-drop (b ∷ s) zero = refl
cover-drop (b ∷ s) (suc k) = cover-drop s k

-- the record at an offset is the one at the front of what follows, its end counted from there
pub record Front (at : ℕ) (l : List ℕ) (k : Kind) (f : Fields) (next : ℕ) : Type 0 where
  pub here : entry_of 0 l ≡ whole k f (next - at)
  pub onwards : at < next
  pub within : next ≤ at + length l

front_of : (at : ℕ) (l : List ℕ) (k : Kind) (f : Fields) (next : ℕ) → entry_of at l ≡ whole k f next → Front at l k f next
unfolding entry_of
front_of at [] k f next e =
    let z : ◌≡◌ {A = ℕ} 0 1 = cc in
    absurd (omega arith)
front_of at (b ∷ l) k f next e = by (is_kind (kind_of b) && leb (body_length b) (length l)) refl e
  where
    by : (t : Bool) → (is_kind (kind_of b) && leb (body_length b) (length l)) ≡ t → cond t (whole (kind_of b) (fields_of (shape_of (kind_of b)) l) (at + 1 + body_length b)) None ≡ whole k f next → Front at (b ∷ l) k f next
    by false q e =
        let z : ◌≡◌ {A = ℕ} 0 1 = cc in
        absurd (omega arith)
    by true q e =
        let fits : body_length b ≤ length l = leb-true (body_length b) (length l) (and_r (is_kind (kind_of b)) (leb (body_length b) (length l)) q) in
        let s = one _ k _ f _ next e in
        let size : 0 + 1 + body_length b ≡ next - at = omega arith in
        record { here = rw q (cc); onwards = omega arith; within = omega arith }

none_of : (at : ℕ) (l : List ℕ) → entry_of at l ≡ None → entry_of 0 l ≡ None
unfolding entry_of
none_of at [] e = refl
none_of at (b ∷ l) e = by (is_kind (kind_of b) && leb (body_length b) (length l)) e
  where
    by : (t : Bool) → cond t (whole (kind_of b) (fields_of (shape_of (kind_of b)) l) (at + 1 + body_length b)) None ≡ None → cond t (whole (kind_of b) (fields_of (shape_of (kind_of b)) l) (0 + 1 + body_length b)) None ≡ None
    by false e = refl
    by true e =
        let z : ◌≡◌ {A = ℕ} 0 1 = cc in
        absurd (omega arith)

-- the entries of bytes that are not none start with the one at their front
onward-record : (l : List ℕ) (k : Kind) (f : Fields) (n : ℕ) → entry_of 0 l ≡ whole k f n → 0 < n → entries_from l 0 ≡ whole k f n ∷ entries_from (drop n l) 0
unfolding entries_from onward entry_at
onward-record [] k f n e h =
    let z : ◌≡◌ {A = ℕ} 0 1 = unfold entry_of in cc in
    absurd (omega arith)
onward-record (b ∷ s) k f zero e h = absurd (omega arith)
onward-record (b ∷ s) k f (suc n) e h =
    let less : suc n - 1 ≡ n = omega arith in
    rw (e, less) (ap (λ (es : List (Option Entry)). whole k f (suc n) ∷ es) (cover-drop s n))

onward-none : (l : List ℕ) → 0 < length l → entry_of 0 l ≡ None → entries_from l 0 ≡ None ∷ []
unfolding entries_from onward entry_at
onward-none [] h e = absurd (omega arith)
onward-none (b ∷ s) h e = rw e

module _ (st : List ℕ) (at : ℕ) where
  pub rest-none : at < length st → entry_at st at ≡ None → rest st at ≡ None ∷ []
  unfolding rest entry_at
  rest-none h e = onward-none (drop at st) (omega (arith, length-drop at st)) (none_of at (drop at st) e)

  -- a record lies within the store, and the walk goes on behind it
  pub record Next (k : Kind) (f : Fields) (next : ℕ) : Type 0 where
    pub here : rest st at ≡ whole k f (next - at) ∷ rest st next
    pub onwards : at < next
    pub within : next ≤ length st

  pub next-at : (k : Kind) (f : Fields) (next : ℕ) → at < length st → entry_at st at ≡ whole k f next → Next k f next
  unfolding rest entry_at
  next-at k f next h e =
      let fr = front_of at (drop at st) k f next e in
      let far : at + (next - at) ≡ next = omega (arith, fr.onwards) in
      let walk : entries_from (drop at st) 0 ≡ whole k f (next - at) ∷ entries_from (drop (next - at) (drop at st)) 0 = onward-record (drop at st) k f (next - at) fr.here (omega (arith, fr.onwards)) in
      record {
        here = walk ∙ rw (drop-drop, far);
        onwards = fr.onwards;
        within = omega (arith, fr.within, length-drop at st);
      }

-- where a record stands, the store goes on
pub some-within : (st : List ℕ) (at : ℕ) (e : Entry) → entry_at st at ≡ Some e → at < length st
unfolding entry_at entry_of
some-within st at e q = by (leb (length st) at) refl
  where
    by : (t : Bool) → leb (length st) at ≡ t → at < length st
    by true o =
        let none : drop at st ≡ [] = drop_of_length-le st (leb-true (length st) at o) in
        let z : None ≡ Some e = rw none at q in
        cc
    by false o = leb-false (length st) at o
