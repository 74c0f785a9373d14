-- BOTH WAYS ROUND: what two values are to each other, seen from the other side. Assumes nothing.
use Prim.Native.Nat.{ℕ}
use mathlib.Core.Path.{◌≡◌, refl, sym}
use mathlib.Core.Bool.{Bool, true, false, cond, ◌&&◌}
use mathlib.Core.List.{List}
use borrow.Author.Tests.{eq-eqb, eqb-true, eqb-false, ne_eqb}
use lib.Dec.{eqb}
use Rattle.folding.specs.Folding.{equal_bytes}
use Rattle.equal.proofs.Bytes.{bytes-turned}
use Rattle.kinds.specs.Kinds.{number_of}
use Rattle.entries.specs.declared.Parts.{Parts}
use Rattle.entries.specs.declared.Entry.{Entry}
use Rattle.std.specs.Ordering.{ordering_reverse}
use Rattle.std.specs.declared.cmp.Ordering.{Ordering}
use Rattle.std.specs.declared.cmp.Ordering.TheVariants.{Less, Equal, Greater}
use Rattle.number_cases.specs.declared.Case.{Case}
use Rattle.number_cases.specs.declared.Case.TheVariants.{Same, Different}
use Rattle.amounts.specs.Exact.{value_order, uncertainty_order}
use Rattle.amounts.proofs.Laws.{value-turned, doubt-turned}
use Rattle.number_cases.specs.Numbers.{same_parts, numbers_case, number_case, equal_case}
use Rattle.cases.specs.Cases.{is_number, is_text, unmarked, agree, others_case, case_of}
use Rattle.compared.specs.Turned.{turned_case}
use Rattle.std.specs.Prelude.{Option, Some, None}

eqb-turned : (a b : ℕ) → eqb a b ≡ eqb b a
eqb-turned a b = by (eqb a b) refl
  where
    by : (t : Bool) → eqb a b ≡ t → t ≡ eqb b a
    by true q = sym (eq-eqb b a (sym (eqb-true a b q)))
    by false q = sym (ne_eqb b a (λ e. eqb-false a b q (sym e)))

and-turned : (a b : Bool) → (a && b) ≡ (b && a)
and-turned true true = refl
and-turned true false = refl
and-turned false true = refl
and-turned false false = refl

parts-turned : (p q : Parts) → same_parts p q ≡ same_parts q p
unfolding same_parts
parts-turned p q =
    rw (eqb-turned p.sign q.sign, eqb-turned p.integer q.integer, eqb-turned p.fraction q.fraction, eqb-turned p.places q.places, eqb-turned p.exponent q.exponent, eqb-turned p.uncertainty q.uncertainty)

-- the table of cases
table : (o w : Ordering) (t : Bool) → number_case (ordering_reverse o) (equal_case (ordering_reverse w) t) ≡ turned_case (number_case o (equal_case w t))
unfolding number_case equal_case turned_case
table Less w t = refl
table Greater w t = refl
table Equal Less t = refl
table Equal Greater t = refl
table Equal Equal true = refl
table Equal Equal false = refl

numbers-turned : (k j : ℕ) (p q : Parts) → numbers_case j k q p ≡ turned_case (numbers_case k j p q)
unfolding numbers_case
numbers-turned k j p q = rw (← value-turned p q, ← doubt-turned p q, eqb-turned j k, parts-turned q p) (table (value_order p q) (uncertainty_order p q) (eqb k j && same_parts p q))

others-turned : (k j : ℕ) (c d : List ℕ) → others_case j k d c ≡ turned_case (others_case k j c d)
unfolding others_case agree turned_case
others-turned k j c d =
    rw (and-turned (is_text j) (is_text k), bytes-turned (unmarked j d) (unmarked k c), eqb-turned j k) (by (cond (is_text k && is_text j) (equal_bytes (unmarked k c) (unmarked j d)) (eqb k j)))
  where
    by : (t : Bool) → cond t Same Different ≡ turned_case (cond t Same Different)
    by true = refl
    by false = refl

pub case-turned : (ar ar' : List ℕ) (e e' : Option Entry) → case_of ar' ar e' e ≡ turned_case (case_of ar ar' e e')
unfolding case_of turned_case
case-turned ar ar' None None = refl
case-turned ar ar' None (Some e) = refl
case-turned ar ar' (Some e) None = refl
case-turned ar ar' (Some e) (Some x) =
    rw (and-turned (is_number (number_of x.kind)) (is_number (number_of e.kind)), numbers-turned (number_of e.kind) (number_of x.kind) e.fields.parts x.fields.parts, others-turned (number_of e.kind) (number_of x.kind) _ _) (by (is_number (number_of e.kind) && is_number (number_of x.kind)) _ _)
  where
    by : (t : Bool) (a b : Case) → cond t (turned_case a) (turned_case b) ≡ turned_case (cond t a b)
    by true a b = refl
    by false a b = refl
