-- The pieces of a number as it is rendered: how each is spelled, by case, how long it is, and that they follow one another. Assumes nothing.
use Prim.Native.Nat.{ℕ, zero, suc, ◌+◌, ◌≤◌}
use mathlib.Core.Path.{◌≡◌, refl, sym, ap, ◌∙◌}
use mathlib.Core.Bool.{Bool, true, false}
use mathlib.Core.List.{List, [], ◌∷◌, ◌++◌, append_assoc, append-nil}
use native.Mathlib.Omega.{arith}
use lib.ListN.{length, length-append}
use Rattle.numbers.specs.declared.Decimal.{Decimal}
use Rattle.numbers.specs.Spelling.{padded, plain, sign_bytes, unc_bytes, exp_bytes, frac_bytes, render_number}
use Rattle.numbers.proofs.Spelled.{length-padded, length-trim}

-- the sign
pub sign-minus : (b : Bool) → b ≡ true → sign_bytes b ≡ 45 ∷ []
unfolding sign_bytes
sign-minus b e = rw e

pub sign-plus : (b : Bool) → b ≡ false → sign_bytes b ≡ []
unfolding sign_bytes
sign-plus b e = rw e

-- the fraction
pub fraction-none : (p f : ℕ) → p ≡ 0 → frac_bytes p f [] ≡ []
unfolding frac_bytes
fraction-none p f e = rw e

pub fraction-some : (p f : ℕ) → (p ≡ 0 → ⊥) → frac_bytes p f [] ≡ (46 ∷ []) ++ padded p f
unfolding frac_bytes
fraction-some zero f e = absurd (e refl)
fraction-some (suc p) f e = append-nil (46 ∷ padded (suc p) f)

-- the exponent
pub exponent-none : (l : Bool) (e : ℕ) → e ≡ 0 → exp_bytes l e [] ≡ []
unfolding exp_bytes
exponent-none l e z = rw z

pub exponent-some : (l : Bool) (e : ℕ) → (e ≡ 0 → ⊥) → exp_bytes l e [] ≡ (101 ∷ []) ++ (sign_bytes l ++ plain e)
unfolding exp_bytes
exponent-some l zero z = absurd (z refl)
exponent-some l (suc e) z = ap (λ (r : List ℕ). 101 ∷ (sign_bytes l ++ r)) (append-nil (plain (suc e)))

-- the uncertainty
pub uncertainty-none : (b : Bool) (u : ℕ) → b ≡ false → unc_bytes b u ≡ []
unfolding unc_bytes
uncertainty-none b u e = rw e

pub uncertainty-some : (b : Bool) (u : ℕ) → b ≡ true → unc_bytes b u ≡ (40 ∷ []) ++ (plain u ++ (41 ∷ []))
unfolding unc_bytes
uncertainty-some b u e = rw e

-- what stands behind the fraction and behind the exponent
fraction-then : (p f : ℕ) (r : List ℕ) → frac_bytes p f r ≡ frac_bytes p f [] ++ r
unfolding frac_bytes
fraction-then zero f r = refl
fraction-then (suc p) f r = ap (λ (l : List ℕ). 46 ∷ (l ++ r)) (sym (append-nil (padded (suc p) f)))

exponent-then : (l : Bool) (e : ℕ) (r : List ℕ) → exp_bytes l e r ≡ exp_bytes l e [] ++ r
unfolding exp_bytes
exponent-then l zero r = refl
exponent-then l (suc e) r =
    ap (λ (z : List ℕ). 101 ∷ z)
    (sym (append_assoc (sign_bytes l) (plain (suc e) ++ []) r ∙ ap (λ (z : List ℕ). sign_bytes l ++ (z ++ r)) (append-nil (plain (suc e)))))

-- a number is its pieces, one behind the other
pub number-pieces : (d : Decimal) →
    render_number d ≡ sign_bytes d.minus ++ (plain d.integer ++ (frac_bytes d.places d.fraction [] ++ (exp_bytes d.lowers d.exponent [] ++ unc_bytes d.uncertain d.uncertainty)))
unfolding render_number
number-pieces d =
    ap (λ (z : List ℕ). sign_bytes d.minus ++ (plain d.integer ++ z))
    (fraction-then d.places d.fraction (exp_bytes d.lowers d.exponent (unc_bytes d.uncertain d.uncertainty))
    ∙ ap (λ (z : List ℕ). frac_bytes d.places d.fraction [] ++ z) (exponent-then d.lowers d.exponent (unc_bytes d.uncertain d.uncertainty)))

-- how long the pieces are
pub plain-short : (n : ℕ) → length (plain n) ≤ 9
unfolding plain
plain-short n = omega (arith, length-trim (padded 9 n), length-padded 9 n)

pub sign-short : (b : Bool) → length (sign_bytes b) ≤ 1
unfolding sign_bytes
sign-short true = omega arith
sign-short false = omega arith

pub fraction-size : (p f : ℕ) → (p ≡ 0 → ⊥) → length (frac_bytes p f []) ≡ 1 + p
fraction-size p f e = ap length (fraction-some p f e) ∙ omega (arith, length-padded p f)

pub exponent-size : (l : Bool) (e : ℕ) → (e ≡ 0 → ⊥) → length (exp_bytes l e []) ≡ 1 + length (sign_bytes l) + length (plain e)
exponent-size l e z = ap length (exponent-some l e z) ∙ omega (arith, length-append (sign_bytes l) (plain e))

pub uncertainty-size : (b : Bool) (u : ℕ) → b ≡ true → length (unc_bytes b u) ≡ 2 + length (plain u)
uncertainty-size b u e = ap length (uncertainty-some b u e) ∙ omega (arith, length-append (plain u) (41 ∷ []))

pub fraction-short : (p f : ℕ) → length (frac_bytes p f []) ≤ 1 + p
unfolding frac_bytes
fraction-short zero f = omega arith
fraction-short (suc p) f = omega (arith, fraction-size (suc p) f (λ z. omega arith))

pub exponent-short : (l : Bool) (e : ℕ) → length (exp_bytes l e []) ≤ 11
unfolding exp_bytes
exponent-short l zero = omega arith
exponent-short l (suc e) = omega (arith, exponent-size l (suc e) (λ z. omega arith), sign-short l, plain-short (suc e))

pub uncertainty-short : (b : Bool) (u : ℕ) → length (unc_bytes b u) ≤ 11
unfolding unc_bytes
uncertainty-short true u = omega (arith, uncertainty-size true u refl, plain-short u)
uncertainty-short false u = omega arith

-- and as long as they are together
pub number_size : (d : Decimal) → length (render_number d) ≡ length (sign_bytes d.minus) + length (plain d.integer) + length (frac_bytes d.places d.fraction []) + length (exp_bytes d.lowers d.exponent []) + length (unc_bytes d.uncertain d.uncertainty)
number_size d =
    let s = sign_bytes d.minus in
    let i = plain d.integer in
    let f = frac_bytes d.places d.fraction [] in
    let e = exp_bytes d.lowers d.exponent [] in
    let u = unc_bytes d.uncertain d.uncertainty in
    ap length (number-pieces d)
    ∙ omega (arith, length-append s (i ++ (f ++ (e ++ u))), length-append i (f ++ (e ++ u)), length-append f (e ++ u), length-append e u)

-- at most 60 bytes
pub number_short : (d : Decimal) → d.places ≤ 18 → length (render_number d) ≤ 60
number_short d h =
    omega (
      arith,
      number_size d,
      sign-short d.minus,
      plain-short d.integer,
      fraction-short d.places d.fraction,
      exponent-short d.lowers d.exponent,
      uncertainty-short d.uncertain d.uncertainty,
    )
