-- Laws of the walk from frame to frame, of the search for a repeated name, and of counting blocks. Assumes nothing.
use Prim.Native.Nat.{ℕ, suc, ◌+◌, ◌≤◌, ◌<◌}
use mathlib.Core.Path.{◌≡◌, refl, ◌∙◌}
use mathlib.Core.Bool.{Bool, true, false, cond}
use mathlib.Core.List.{List, [], ◌∷◌}
use native.Mathlib.Omega.{arith}
use native.Mathlib.Numerals.{add-one}
use borrow.Author.Tests.{eq-eqb, ne_eqb, leb-true, leb-false}
use lib.Dec.{eqb, leb}
use lib.ListN.{length, take}
use Rattle.std.specs.Prelude.{Some, None}
use Rattle.kinds.specs.Kinds.{number_of}
use Rattle.entries.specs.declared.Entry.{Entry}
use Rattle.entries.specs.Entries.{entry_at}
use Rattle.entries.proofs.Walking.{rest, rest-is, rest_all, rest_over, rest-none, next-at, entries-first}
use Rattle.steps.specs.Steps.{held_by, held_at}
use Rattle.entries.proofs.Walking.{some-within}
use Rattle.naming.specs.Names.{repeat_from, first_repeat, naming_of}
use Rattle.naming.specs.Search.{Tells, Follows}
use Rattle.frames.specs.declared.Mark.{Mark}
use Rattle.frames.specs.Frames.{frames_from, frames, blocks_in, is_single, frames_at, first, Counted}

-- the walk so far: no frame was met between a mark and another
module _ (st ar : List ℕ) (from : Mark) where
  pub record Walking (m : Mark) : Type 0 where
    pub names : frames_at st ar from ≡ frames_at st ar m
    pub counted : Counted m
    pub count : m.count ≡ from.count

  pub walking-first : Counted from → Walking from
  walking-first c = record { names = refl; counted = c; count = refl }

  -- no record is left
  pub walking-end : (m : Mark) → Walking m → entry_at st m.at ≡ None → Tells (frames_at st ar) Counted (λ (n : Mark). n.count) from None
  unfolding Tells frames_at frames_from
  walking-end m w q = w.names ∙ by (leb (length st) m.at) refl
    where
      by : (t : Bool) → leb (length st) m.at ≡ t → frames_at st ar m ≡ []
      by true o = rw (rest-is st m.at, rest_over st m.at (leb-true (length st) m.at o))
      by false o = rw (rest-is st m.at, rest-none st m.at (leb-false (length st) m.at o) q)

  module _ (m : Mark) (e : Entry) (w : Walking m) (q : entry_at st m.at ≡ Some e) where
    pub onwards : (m.at < length st) × (m.at < e.next)
    onwards =
        let h : m.at < length st = some-within st m.at e q in
        (h, (next-at st m.at e.kind e.fields e.next h q).onwards)

    -- a record that is no frame's, and one that is
    pub walking-other : (number_of e.kind ≡ 2 → ⊥) → Walking (record { at = e.next; number = m.number + 1; count = m.count })
    unfolding frames_at frames_from Counted
    walking-other d =
        record {
          names = w.names ∙ rw (rest-is st m.at, (next-at st m.at e.kind e.fields e.next onwards.0 q).here, ne_eqb (number_of e.kind) 2 d, rest-is st e.next, add-one);
          counted = (omega (arith, w.counted.0), omega (arith, w.counted.1, onwards.1));
          count = w.count;
        }

    pub walking-frame : (b : List ℕ) → b ≡ held_at st ar m.at → number_of e.kind ≡ 2 →
        (frames_at st ar from ≡ record { number = m.number; scope = 0; bytes = b } ∷ frames_at st ar (record { at = e.next; number = m.number + 1; count = m.count + 1 }))
        × Counted (record { at = e.next; number = m.number + 1; count = m.count + 1 })
        × (m.count + 1 ≡ from.count + 1)
    unfolding frames_at frames_from Counted held_at held_by
    walking-frame b h o = (
      w.names ∙ rw (h, q, rest-is st m.at, (next-at st m.at e.kind e.fields e.next onwards.0 q).here, eq-eqb (number_of e.kind) 2 o, rest-is st e.next, add-one),
      (omega (arith, w.counted.0), omega (arith, w.counted.1, onwards.1)),
      omega (arith, w.count),
    )

-- all frames are those from the first record on
frames-first : (st ar : List ℕ) → frames st ar ≡ frames_at st ar first
unfolding frames frames_at
frames-first st ar = rw (entries-first st)

pub follows-first : (st ar : List ℕ) → Follows (frames_at st ar) Counted (λ (m : Mark). m.count) first first
unfolding Counted
follows-first st ar = record { begun = (omega arith, omega arith); come = (omega arith, omega arith); names = refl }

pub check-all : (st ar : List ℕ) → naming_of (repeat_from (take 0 (frames_at st ar first)) (frames_at st ar first)) ≡ naming_of (first_repeat (frames st ar))
unfolding first_repeat
check-all st ar = rw (frames-first st ar)

-- BLOCKS: those counted and those from an offset on
module _ (st : List ℕ) (at n : ℕ) where
  pub blocks-first : is_single st ≡ eqb (0 + blocks_in (rest st 0)) 1
  unfolding is_single
  blocks-first =
      let z : 0 + blocks_in (rest st 0) ≡ blocks_in (rest st 0) = omega arith in
      rw (rest_all st, z)

  pub blocks-none : entry_at st at ≡ None → eqb n 1 ≡ eqb (n + blocks_in (rest st at)) 1
  unfolding blocks_in
  blocks-none e = by (leb (length st) at) refl
    where
      z : n + 0 ≡ n
      z = omega arith

      by : (t : Bool) → leb (length st) at ≡ t → eqb n 1 ≡ eqb (n + blocks_in (rest st at)) 1
      by true o = rw (rest_over st at (leb-true (length st) at o), z)
      by false o = rw (rest-none st at (leb-false (length st) at o) e, z)

  module _ (e : Entry) (q : entry_at st at ≡ Some e) where
    pub blocks-next : (r : ℕ) → r ≡ cond (eqb (number_of e.kind) 1) 1 0 → n + blocks_in (rest st at) ≡ n + r + blocks_in (rest st e.next)
    unfolding blocks_in
    blocks-next r o = rw ((next-at st at e.kind e.fields e.next (some-within st at e q) q).here, o) (by (eqb (number_of e.kind) 1))
      where
        by : (t : Bool) → n + cond t (suc (blocks_in (rest st e.next))) (blocks_in (rest st e.next)) ≡ n + cond t 1 0 + blocks_in (rest st e.next)
        by true = omega arith
        by false = omega arith

    pub blocks-few : (r : ℕ) → r ≡ cond (eqb (number_of e.kind) 1) 1 0 → n ≤ at → (n + r ≤ e.next) × (at < e.next) × (at < length st) × (e.next ≤ length st)
    blocks-few r o l =
        let few : r ≤ 1 = rw o (by (eqb (number_of e.kind) 1)) in
        let h : at < length st = some-within st at e q in
        let next = next-at st at e.kind e.fields e.next h q in
        (omega (arith, next.onwards), next.onwards, h, next.within)
      where
        by : (t : Bool) → cond t 1 0 ≤ 1
        by true = omega arith
        by false = omega arith
