-- The walk by offsets. Proved: a caller who walks a sound store from offset 0 on by `next` meets exactly its records,
-- in order (walk-sound). Assumes nothing.
use Prim.Native.Nat.{ℕ, ◌+◌, ◌-◌, ◌≤◌, ◌<◌}
use mathlib.Core.Path.{◌≡◌, refl, sym, ◌∙◌}
use mathlib.Core.Bool.{Bool, true, false, cond}
use mathlib.Core.List.{List, [], ◌∷◌}
use native.Mathlib.Omega.{arith}
use borrow.Author.Tests.{leb-true, leb-false}
use lib.Dec.{leb}
use lib.ListN.{length}
use Rattle.rules.specs.declared.Reading.{Reading}
use Rattle.kinds.specs.declared.Kind.{Kind}
use Rattle.entries.specs.declared.Fields.{Fields}
use Rattle.entries.specs.declared.Entry.{Entry}
use Rattle.kinds.specs.Kinds.{number_of, shape_of, is_content}
use Rattle.entries.specs.Entries.{entry_at, whole}
use Rattle.entries.specs.Walk.{entries}
use Rattle.contents.specs.Contents.{content_length, lies, own_rule}
use Rattle.contents.proofs.Kept.{own-lies}
use Rattle.stores.specs.Soundness.{sound, Owned, none, more}
use Rattle.stores.specs.Records.{answered, walked_of, walked_at, Walks, over, onto, answers, met}
use Rattle.stores.specs.declared.Walked.{Walked}
use Rattle.entries.proofs.Walking.{rest, rest_all, rest_over, rest-none, next-at}
use Rattle.stores.proofs.Filling.{owned-sound}
use Rattle.std.specs.Prelude.{Option, Some, None}
use Rattle.entries.proofs.Wholes.{one}

-- an offset from which entries follow lies inside the store, and one from which none do does not
rest-here : (st : List ℕ) (at : ℕ) (e : Option Entry) (es : List (Option Entry)) → rest st at ≡ e ∷ es → at < length st
rest-here st at e es q = by (leb (length st) at) refl
  where
    by : (t : Bool) → leb (length st) at ≡ t → at < length st
    by false p = leb-false (length st) at p
    by true p =
        let none = rest_over st at (leb-true (length st) at p) in
        let z : ◌≡◌ {A = ℕ} 0 1 = cc in
        absurd (omega arith)

rest-empty : (st : List ℕ) (at : ℕ) → rest st at ≡ [] → length st ≤ at
rest-empty st at q = by (leb (length st) at) refl
  where
    some : (x : Option Entry) → at < length st → entry_at st at ≡ x → ◌≡◌ {A = ℕ} 0 1
    some None h e = let here = rest-none st at h e in cc
    some (Some x) h e = let here = (next-at st at x.kind x.fields x.next h e).here in cc

    by : (t : Bool) → leb (length st) at ≡ t → length st ≤ at
    by true p = leb-true (length st) at p
    by false p =
        let z = some (entry_at st at) (leb-false (length st) at p) refl in
        absurd (omega arith)

-- the record that the entries from an offset start with
record Starts (st : List ℕ) (at : ℕ) (k : Kind) (f : Fields) (n : ℕ) (es : List (Option Entry)) : Type 0 where
  entry : entry_at st at ≡ whole k f (at + n)
  more : rest st (at + n) ≡ es

starts-of : (st : List ℕ) (at : ℕ) (k : Kind) (f : Fields) (n : ℕ) (es : List (Option Entry)) → rest st at ≡ whole k f n ∷ es → Starts st at k f n es
starts-of st at k f n es q = by (entry_at st at) (rest-here st at _ es q) refl
  where
    by : (x : Option Entry) → at < length st → entry_at st at ≡ x → Starts st at k f n es
    by None h e =
        let none = rest-none st at h e in
        let z : ◌≡◌ {A = ℕ} 0 1 = cc in
        absurd (omega arith)
    by (Some x) h e =
        let far = next-at st at x.kind x.fields x.next h e in
        let same : whole x.kind x.fields (x.next - at) ∷ rest st x.next ≡ whole k f n ∷ es = sym far.here ∙ q in
        let w = one x.kind k x.fields f (x.next - at) n (cc) in
        let then : rest st x.next ≡ es = cc in
        let end : x.next ≡ at + n = omega (arith, far.onwards, w.next) in
        record { entry = e ∙ rw (w.kind, w.fields, end); more = rw (← end) then }

-- a record that keeps its own rule is answered
kept-answered : (r : Reading) (ar : List ℕ) (k : Kind) (f : Fields) (next : ℕ) → own_rule r ar k f ≡ true → walked_of (length ar) (whole k f next) ≡ answered k f next
unfolding walked_of
kept-answered r ar k f next o = by (is_content (shape_of k)) refl
  where
    by : (t : Bool) → is_content (shape_of k) ≡ t → cond t (cond (lies (length ar) k f) (answered k f next) None) (answered k f next) ≡ answered k f next
    by false q = refl
    by true q = rw (own-lies r ar k f o q)

-- one step of the walk, whether or not there is content
step : (st ar : List ℕ) (at next : ℕ) (k : Kind) (f : Fields) (ws : List (Option Walked)) → walked_at st ar at ≡ answered k f next → Walks st ar next ws → Walks st ar at (answered k f next ∷ ws)
unfolding answered
step st ar at next k f ws e w = by (is_content (shape_of k)) e
  where
    by : (t : Bool) → walked_at st ar at ≡ cond t (met (number_of k) f f.number (content_length k f) next) (met (number_of k) f 0 0 next) → Walks st ar at (cond t (met (number_of k) f f.number (content_length k f) next) (met (number_of k) f 0 0 next) ∷ ws)
    by true e = onto e w
    by false e = onto e w

walk-owned : (r : Reading) (st ar : List ℕ) (es : List (Option Entry)) (at : ℕ) → rest st at ≡ es → Owned r ar es → Walks st ar at (answers at es)
unfolding answers
walk-owned r st ar [] at q none = over (rest-empty st at q)
walk-owned r st ar (Some e ∷ es) at q (more h o) =
    let s = starts-of st at e.kind e.fields e.next es q in
    let here : walked_at st ar at ≡ answered e.kind e.fields (at + e.next) = unfold walked_at in rw s.entry (kept-answered r ar e.kind e.fields (at + e.next) h) in
    step st ar at (at + e.next) e.kind e.fields (answers (at + e.next) es) here (walk-owned r st ar es (at + e.next) s.more o)
walk-owned r st ar (None ∷ es) at q x4 = elim x4 [ ]

pub walk-sound : (r : Reading) (st ar : List ℕ) → sound r st ar ≡ true → Walks st ar 0 (answers 0 (entries st))
walk-sound r st ar e = walk-owned r st ar (entries st) 0 (sym (rest_all st)) (owned-sound r st ar e)
