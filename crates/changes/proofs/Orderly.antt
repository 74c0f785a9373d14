-- The numbers of a sound store may be ordered. Assumes nothing.
use Prim.Native.Nat.{ℕ}
use mathlib.Core.Path.{◌≡◌, refl, sym, ap, ◌∙◌}
use mathlib.Core.Bool.{Bool, true, false}
use mathlib.Core.List.{List}
use borrow.Author.Tests.{eqb-true}
use lib.Dec.{eqb}
use Rattle.text.proofs.Bools.{or_cases}
use Rattle.rules.specs.declared.Reading.{Reading}
use Rattle.kinds.specs.declared.Kind.{Kind}
use Rattle.kinds.specs.Kinds.{number_of, kind_of, shape_of, is_content}
use Rattle.kinds.proofs.Numbering.{kind-number}
use Rattle.entries.specs.declared.Entry.{Entry}
use Rattle.entries.specs.Entries.{entry_at}
use Rattle.entries.specs.Walk.{entries}
use Rattle.contents.specs.Contents.{own_rule}
use Rattle.contents.proofs.Kept.{own-parts}
use Rattle.amounts.proofs.Kept.{kept-sound}
use Rattle.stores.specs.Soundness.{sound}
use Rattle.stores.specs.Content.{nth}
use Rattle.stores.proofs.Filling.{owned-sound}
use Rattle.stores.proofs.Numbered.{nth-at, owned-nth}
use Rattle.cells.specs.Walk.{IsAt}
use Rattle.cells.proofs.Offsets.{entries-rest}
use Rattle.cases.specs.Cases.{is_number, Orderly}
use Rattle.std.specs.Prelude.{Option, Some, None}

-- numbers have no content
number-shape : (k : Kind) → is_number (number_of k) ≡ true → is_content (shape_of k) ≡ false
unfolding is_number is_content shape_of kind_of
number-shape k e = or_cases (eqb (number_of k) 14) (eqb (number_of k) 15) (λ h. by 14 (eqb-true (number_of k) 14 h) refl) (λ h. by 15 (eqb-true (number_of k) 15 h) refl) e
  where
    by : (n : ℕ) → number_of k ≡ n → is_content (shape_of (kind_of n)) ≡ false → is_content (shape_of k) ≡ false
    by n q h = ap (λ (j : Kind). is_content (shape_of j)) (sym (ap kind_of (sym q) ∙ kind-number k)) ∙ h

-- a record's own rule, whatever its end
keeps : Reading → List ℕ → Option Entry → Bool
keeps r ar None = true
keeps r ar (Some e) = own_rule r ar e.kind e.fields

keeps-nth : (r : Reading) (st ar : List ℕ) (n : ℕ) → sound r st ar ≡ true → keeps r ar (nth (entries st) n) ≡ true
unfolding keeps
keeps-nth r st ar n s = by (nth (entries st) n) refl
  where
    by : (e : Option Entry) → nth (entries st) n ≡ e → keeps r ar e ≡ true
    by None q = refl
    by (Some e) q = owned-nth r ar (entries st) n e.kind e.fields e.next (owned-sound r st ar s) q

orderly-record : (r : Reading) (ar : List ℕ) (e : Option Entry) → keeps r ar e ≡ true → Orderly e
unfolding keeps Orderly
orderly-record r ar None h = tt
orderly-record r ar (Some e) h = λ t. kept-sound e.fields.parts (own-parts r ar e.kind e.fields h (number-shape e.kind t))

pub orderly-nth : (r : Reading) (st ar : List ℕ) (n : ℕ) → sound r st ar ≡ true → Orderly (nth (entries st) n)
orderly-nth r st ar n s = orderly-record r ar (nth (entries st) n) (keeps-nth r st ar n s)

pub orderly-at : (r : Reading) (st ar : List ℕ) (at n : ℕ) → sound r st ar ≡ true → IsAt st at n → Orderly (entry_at st at)
unfolding IsAt keeps
orderly-at r st ar at n s i = orderly-record r ar (entry_at st at) (nth-at (keeps r ar) (λ k f n m. refl) st at n (sym (entries-rest st at) ∙ i) ∙ keeps-nth r st ar n s)
