-- Laws of looking a content up: record by record, and that a sound store's contents lie inside the area. Assumes nothing.
use Prim.Native.Nat.{ℕ, zero, suc, ◌+◌, ◌-◌, ◌≤◌, ◌<◌}
use mathlib.Core.Path.{◌≡◌, refl, ap}
use mathlib.Core.Bool.{Bool, true, false, cond}
use mathlib.Core.List.{List, [], ◌∷◌}
use native.Mathlib.Omega.{arith}
use lib.ListN.{length}
use Rattle.rules.specs.declared.Reading.{Reading}
use Rattle.kinds.specs.declared.Kind.{Kind}
use Rattle.entries.specs.declared.Fields.{Fields}
use Rattle.entries.specs.declared.Entry.{Entry}
use Rattle.kinds.specs.Kinds.{shape_of, is_content}
use Rattle.entries.specs.Entries.{entry_at, whole}
use Rattle.entries.specs.Walk.{entries}
use Rattle.contents.specs.Contents.{content_length}
use Rattle.contents.proofs.Kept.{content-length, own-inside}
use Rattle.stores.specs.Soundness.{sound, Owned, more}
use Rattle.stores.specs.Content.{nth, found, part_of, content_at}
use Rattle.stores.specs.declared.Part.{Part}
use Rattle.stores.specs.declared.ContentError.TheVariants.{NotSound, NoContent}
use Rattle.entries.proofs.Walking.{rest, rest_all, rest_over, rest-none, next-at}
use Rattle.stores.proofs.Filling.{owned-sound}
use Rattle.std.specs.Prelude.{Option, Some, None, Err}

pub part-all : (st : List ℕ) (i : ℕ) → part_of (nth (entries st) i) ≡ part_of (nth (rest st 0) i)
part-all st i = rw rest_all

module _ (st : List ℕ) (at : ℕ) where
  pub part_end : (i : ℕ) → length st ≤ at → part_of (nth (rest st at) i) ≡ Err NoContent
  unfolding nth part_of
  part_end i h = rw (rest_over st at h)

  pub part_none : (i : ℕ) → at < length st → entry_at st at ≡ None → part_of (nth (rest st at) i) ≡ Err NoContent
  unfolding nth part_of
  part_none i h e = rw (rest-none st at h e) (by i)
    where
      by : (i : ℕ) → part_of (nth (None ∷ []) i) ≡ Err NoContent
      by zero = refl
      by (suc i) = refl

  module _ (k : Kind) (f : Fields) (next : ℕ) (h : at < length st) (e : entry_at st at ≡ whole k f next) where
    pub part-here : (i : ℕ) → i ≡ 0 → part_of (nth (rest st at) i) ≡ part_of (whole k f 0)
    unfolding nth part_of
    part-here i z = rw ((next-at st at k f next h e).here, z)

    pub part-more : (i : ℕ) → (i ≡ 0 → ⊥) → part_of (nth (rest st at) i) ≡ part_of (nth (rest st next) (i - 1))
    unfolding nth
    part-more zero z = absurd (z refl)
    part-more (suc i) z =
        let less : suc i - 1 ≡ i = omega arith in
        rw ((next-at st at k f next h e).here, less)

-- two parts that are one start and end alike
record Same (a b n m : ℕ) : Type 0 where
  from : a ≡ b
  size : n ≡ m

one : (a b n m : ℕ) → found a n ≡ found b m → Same a b n m
one a b n m e =
    let r : ◌≡◌ {A = Part} (record { from = a; size = n }) (record { from = b; size = m }) = cc in
    record { from = ap (λ (p : Part). p.from) r; size = ap (λ (p : Part). p.size) r }

-- a content of a filled area lies inside
part-inside : (r : Reading) (es : List (Option Entry)) (ar : List ℕ) (i from size : ℕ) → Owned r ar es → part_of (nth es i) ≡ found from size → from + size ≤ length ar
unfolding nth part_of
part-inside r [] ar i from size o p =
    let z : ◌≡◌ {A = ℕ} 0 1 = cc in
    absurd (omega arith)
part-inside r (Some e ∷ es) ar zero from size (more h o) p = by (is_content (shape_of e.kind)) refl p
  where
    by : (t : Bool) → is_content (shape_of e.kind) ≡ t → cond t (found e.fields.number (content_length e.kind e.fields)) (Err NoContent) ≡ found from size → from + size ≤ length ar
    by true q p =
        let w = one _ from _ size p in
        omega (arith, w.from, w.size, (own-inside r ar e.kind e.fields h q).inside, content-length e.kind e.fields)
    by false q p =
        let z : ◌≡◌ {A = ℕ} 0 1 = cc in
        absurd (omega arith)
part-inside r (Some e ∷ es) ar (suc i) from size (more h o) p = part-inside r es ar i from size o p
part-inside r (None ∷ es) ar i from size o p = elim o [ ]

pub content-inside : (r : Reading) (st ar : List ℕ) (i from size : ℕ) → content_at r st ar i ≡ found from size → from + size ≤ length ar
unfolding content_at
content-inside r st ar i from size p = by (sound r st ar) refl p
  where
    by : (t : Bool) → sound r st ar ≡ t → cond t (part_of (nth (entries st) i)) (Err NotSound) ≡ found from size → from + size ≤ length ar
    by true q p = part-inside r (entries st) ar i from size (owned-sound r st ar q) p
    by false q p =
        let z : ◌≡◌ {A = ℕ} 0 1 = cc in
        absurd (omega arith)
