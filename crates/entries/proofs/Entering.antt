-- Laws of the record at an offset: nothing past the end, at a byte that is no kind, and where the body does not fit; else the record. Assumes nothing.
use Prim.Native.Nat.{ℕ, ◌+◌, ◌-◌, ◌≤◌, ◌<◌}
use mathlib.Core.Path.{◌≡◌, refl, ap, ◌∙◌}
use mathlib.Core.Bool.{Bool, true, false, cond, ◌&&◌}
use mathlib.Core.List.{List, [], ◌∷◌}
use native.Mathlib.Omega.{arith}
use native.Mathlib.Nat.{add-zero}
use native.Mathlib.Numerals.{add-one}
use borrow.Author.Tests.{lt-ltb, le-leb, lt-leb, leb-true}
use lib.Dec.{leb}
use lib.ListN.{length, drop, get_or, length-drop, drop_of_length-le}
use lib.Seq.{drop-cons, get_or-drop}
use Rattle.text.proofs.Bools.{and_l, and_r}
use Rattle.kinds.specs.declared.Kind.{Kind}
use Rattle.entries.specs.declared.Fields.{Fields}
use Rattle.kinds.specs.Kinds.{kind_of, number_of, shape_of, shape_length, body_length}
use Rattle.entries.specs.Entries.{fields_of, is_kind, entry_of, entry_at, whole}
use Rattle.std.specs.Prelude.{None}
use Rattle.entries.proofs.Wholes.{one}

pub entry-over : (s : List ℕ) (at : ℕ) → length s ≤ at → entry_at s at ≡ None
unfolding entry_at entry_of
entry-over s at h = rw (drop_of_length-le s h)

entry_here : (s : List ℕ) (at : ℕ) → at < length s → entry_at s at ≡ entry_of at (get_or s at 0 ∷ drop (at + 1) s)
unfolding entry_at
entry_here s at h = rw (add-one, drop-cons s at 0)

pub entry-none : (s : List ℕ) (at : ℕ) → at < length s → number_of (kind_of (get_or s at 0)) ≡ 0 → entry_at s at ≡ None
unfolding entry_of is_kind
entry-none s at h e = entry_here s at h ∙ rw e

and-false : (b : Bool) → b && false ≡ false
and-false true = refl
and-false false = refl

pub entry-short : (s : List ℕ) (at : ℕ) → at < length s → length s - (at + 1) < body_length (get_or s at 0) → entry_at s at ≡ None
unfolding entry_of
entry-short s at h short =
    let over : length (drop (at + 1) s) < body_length (get_or s at 0) = omega (arith, length-drop (at + 1) s) in
    entry_here s at h ∙ rw (lt-leb _ _ over, and-false)

pub entry_whole : (s : List ℕ) (at : ℕ) → at < length s → 0 < number_of (kind_of (get_or s at 0)) → body_length (get_or s at 0) ≤ length s - (at + 1) → entry_at s at ≡ whole (kind_of (get_or s at 0)) (fields_of (shape_of (kind_of (get_or s at 0))) (drop (at + 1) s)) (at + 1 + body_length (get_or s at 0))
unfolding entry_of is_kind
entry_whole s at h known fits =
    let room : body_length (get_or s at 0) ≤ length (drop (at + 1) s) = omega (arith, length-drop (at + 1) s) in
    entry_here s at h ∙ rw (lt-ltb _ _ known, le-leb _ _ room)

-- what a record found says: its kind is that of its byte, and it ends behind its body, within the bytes
pub record Found (s : List ℕ) (at : ℕ) (kind : Kind) (next : ℕ) : Type 0 where
  pub here : at < length s
  pub named : kind ≡ kind_of (get_or s at 0)
  pub known : is_kind kind ≡ true
  pub after : next ≡ at + 1 + shape_length (shape_of kind)
  pub within : next ≤ length s

chosen : (t : Bool) (k kind : Kind) (f fields : Fields) (n next : ℕ) → cond t (whole k f n) None ≡ whole kind fields next → (t ≡ true) × (kind ≡ k) × (fields ≡ f) × (next ≡ n)
chosen true k kind f fields n next e = let s = one k kind f fields n next e in (refl, (cc), (cc), (cc))
chosen false k kind f fields n next e = let z : ◌≡◌ {A = ℕ} 0 1 = cc in absurd (omega arith)

found_front : (at : ℕ) (b : List ℕ) (kind : Kind) (fields : Fields) (next : ℕ) → entry_of at b ≡ whole kind fields next → (0 < length b) × (kind ≡ kind_of (get_or b 0 0)) × (is_kind kind ≡ true) × (next ≡ at + 1 + shape_length (shape_of kind)) × (next ≤ at + length b)
unfolding entry_of body_length
found_front at [] kind fields next e = let z : ◌≡◌ {A = ℕ} 0 1 = cc in absurd (omega arith)
found_front at (x ∷ b) kind fields next e =
    let k = kind_of x in
    let n = at + 1 + body_length x in
    let test = is_kind k && leb (body_length x) (length b) in
    let got = chosen test k kind (fields_of (shape_of k) b) fields n next e in
    let room = leb-true (body_length x) (length b) (and_r (is_kind k) (leb (body_length x) (length b)) got.0) in (
      omega arith,
      got.1,
      rw got.1 (and_l (is_kind k) (leb (body_length x) (length b)) got.0),
      rw got.1 got.3,
      omega (arith, got.3),
    )

pub found : (s : List ℕ) (at : ℕ) (kind : Kind) (fields : Fields) (next : ℕ) → entry_at s at ≡ whole kind fields next → Found s at kind next
unfolding entry_at
found s at kind fields next e =
    let got = found_front at (drop at s) kind fields next e in
    record {
      here = omega (arith, length-drop at s, got.0);
      named = got.1 ∙ ap kind_of (get_or-drop at s 0 0 ∙ ap (λ (i : ℕ). get_or s i 0) (add-zero at));
      known = got.2;
      after = got.3;
      within = omega (arith, length-drop at s, got.0, got.4);
    }
