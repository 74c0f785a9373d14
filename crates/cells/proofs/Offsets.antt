-- Laws of records by offset and number: the next one, and the one so many behind. Assumes nothing.
use Prim.Native.Nat.{ℕ, zero, suc, ◌+◌, ◌-◌, ◌<◌}
use mathlib.Core.Path.{◌≡◌, refl, sym, ap, ◌∙◌}
use mathlib.Core.Bool.{Bool, true, false}
use mathlib.Core.List.{List, [], ◌∷◌}
use native.Mathlib.Omega.{arith}
use native.Mathlib.Numerals.{add-one}
use borrow.Author.Tests.{leb-true, leb-false}
use lib.Dec.{leb}
use lib.ListN.{length, drop}
use lib.Seq.{drop-drop}
use Rattle.kinds.specs.declared.Kind.{Kind}
use Rattle.entries.specs.declared.Fields.{Fields}
use Rattle.entries.specs.declared.Entry.{Entry}
use Rattle.entries.specs.Entries.{entry_at, whole}
use Rattle.entries.specs.Walk.{entries}
use Rattle.entries.proofs.Entering.{found}
use Rattle.entries.proofs.Walking.{rest, rest-is, rest_over, rest-none, next-at, entries-first}
use Rattle.stores.proofs.Numbered.{nth-at}
use Rattle.steps.specs.Steps.{held_by, held_at}
use Rattle.cells.specs.Cells.{name_of}
use Rattle.cells.specs.Walk.{entries_at, IsAt}
use Rattle.std.specs.Prelude.{Option, None}

pub entries-rest : (st : List ℕ) (at : ℕ) → entries_at st at ≡ rest st at
unfolding entries_at
entries-rest st at = rest-is st at

pub at_first : (st : List ℕ) → IsAt st 0 0
unfolding IsAt entries_at
at_first st = sym (entries-first st)

drop-next : (es : List (Option Entry)) (n : ℕ) (e : Option Entry) (r : List (Option Entry)) → drop n es ≡ e ∷ r → drop (suc n) es ≡ r
drop-next [] zero e r q =
    let z : ◌≡◌ {A = ℕ} 0 1 = cc in
    absurd (omega arith)
drop-next [] (suc n) e r q =
    let z : ◌≡◌ {A = ℕ} 0 1 = cc in
    absurd (omega arith)
drop-next (x ∷ es) zero e r q = cc
drop-next (x ∷ es) (suc n) e r q = drop-next es n e r q

-- the next record has the next number
pub at_next : (st : List ℕ) (at n : ℕ) (k : Kind) (f : Fields) (next : ℕ) → at < length st → entry_at st at ≡ whole k f next → IsAt st at n → IsAt st next (n + 1)
unfolding IsAt
at_next st at n k f next h e i =
    let walk : drop n (entries st) ≡ whole k f (next - at) ∷ rest st next = sym i ∙ entries-rest st at ∙ (next-at st at k f next h e).here in
    entries-rest st next ∙ sym (drop-next (entries st) n _ _ walk) ∙ rw (add-one n)

-- behind the last there is none
pub behind-none : (st : List ℕ) (at : ℕ) → entry_at st at ≡ None → entries_at st (length st) ≡ drop 1 (entries_at st at)
behind-none st at e = entries-rest st (length st) ∙ rest_over st (length st) (omega arith) ∙ sym (ap (drop 1) (entries-rest st at) ∙ by (leb (length st) at) refl)
  where
    by : (t : Bool) → leb (length st) at ≡ t → drop 1 (rest st at) ≡ []
    by true q = rw (rest_over st at (leb-true (length st) at q))
    by false q = rw (rest-none st at (leb-false (length st) at q) e)

-- behind any other the next
pub behind-one : (st : List ℕ) (at : ℕ) (k : Kind) (f : Fields) (next : ℕ) → entry_at st at ≡ whole k f next → entries_at st next ≡ drop 1 (entries_at st at)
behind-one st at k f next e = entries-rest st next ∙ sym (ap (drop 1) (entries-rest st at ∙ (next-at st at k f next (found st at k f next e).here e).here))

-- the record so many behind has a number larger by so many
pub at-behind : (st : List ℕ) (at n r m : ℕ) → IsAt st at n → entries_at st r ≡ drop m (entries_at st at) → IsAt st r (n + m)
unfolding IsAt
at-behind st at n r m i e = e ∙ ap (drop m) i ∙ rw (drop-drop)

-- the name by its record's offset is that by its number
pub name-at : (st ar : List ℕ) (at n : ℕ) → IsAt st at n → held_at st ar at ≡ name_of st ar n
unfolding IsAt held_at name_of held_by
name-at st ar at n i = nth-at (held_by ar) (λ k f n m. refl) st at n (sym (entries-rest st at) ∙ i)
