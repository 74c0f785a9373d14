-- Laws of the cases of two numbers. Assumes nothing.
use Prim.Native.Nat.{ℕ}
use mathlib.Core.Path.{◌≡◌, refl, sym, ap, ◌∙◌}
use mathlib.Core.Bool.{Bool, true, false, ◌&&◌}
use borrow.Author.Tests.{eqb-true}
use lib.Dec.{eqb}
use Rattle.text.proofs.Bools.{and_l, and_r}
use Rattle.entries.specs.declared.Parts.{Parts}
use Rattle.std.specs.declared.cmp.Ordering.TheVariants.{Equal}
use Rattle.number_cases.specs.declared.Case.TheVariants.{Same}
use Rattle.amounts.specs.Exact.{value_order, uncertainty_order}
use Rattle.amounts.proofs.Laws.{value_same, doubt-same}
use Rattle.number_cases.specs.Numbers.{same_parts, numbers_case, number_case, equal_case}

-- numbers of equal kind and parts
pub parts-equal : (p q : Parts) → same_parts p q ≡ true → p ≡ q
unfolding same_parts
parts-equal p q e =
    let e1 = and_r (eqb p.sign q.sign) _ e in
    let e2 = and_r (eqb p.integer q.integer) _ e1 in
    let e3 = and_r (eqb p.fraction q.fraction) _ e2 in
    let e4 = and_r (eqb p.places q.places) _ e3 in
    let a = eqb-true p.sign q.sign (and_l (eqb p.sign q.sign) _ e) in
    let b = eqb-true p.integer q.integer (and_l (eqb p.integer q.integer) _ e1) in
    let c = eqb-true p.fraction q.fraction (and_l (eqb p.fraction q.fraction) _ e2) in
    let d = eqb-true p.places q.places (and_l (eqb p.places q.places) _ e3) in
    let x = eqb-true p.exponent q.exponent (and_l (eqb p.exponent q.exponent) _ e4) in
    let u = eqb-true p.uncertainty q.uncertainty (and_r (eqb p.exponent q.exponent) _ e4) in
    λ i. record { sign = a i; integer = b i; fraction = c i; places = d i; exponent = x i; uncertainty = u i }

pub same_none : (k j : ℕ) (p q : Parts) → (eqb k j && same_parts p q) ≡ true → Same ≡ numbers_case k j p q
unfolding numbers_case number_case equal_case
same_none k j p q e =
    let o : p ≡ q = parts-equal p q (and_r (eqb k j) (same_parts p q) e) in
    let v : value_order p q ≡ Equal = ap (λ (r : Parts). value_order p r) (sym o) ∙ value_same p in
    let w : uncertainty_order p q ≡ Equal = ap (λ (r : Parts). uncertainty_order p r) (sym o) ∙ doubt-same p in
    rw (v, w, e)

pub and-true : (a b : Bool) → b ≡ true → a ≡ (a && b)
and-true true b e = sym e
and-true false b e = refl

pub and-false : (a b : Bool) → b ≡ false → false ≡ (a && b)
and-false true b e = sym e
and-false false b e = refl
