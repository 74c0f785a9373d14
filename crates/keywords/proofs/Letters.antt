-- Letters that no reserved word starts with. Assumes nothing.
use Prim.Native.Nat.{ℕ, ◌+◌, ◌≤◌, ◌<◌}
use mathlib.Core.Path.{◌≡◌, refl}
use mathlib.Core.Bool.{Bool, true, false, cond, not, ◌&&◌, ◌||◌}
use mathlib.Core.List.{List}
use native.Mathlib.Omega.{arith}
use borrow.Author.Tests.{leb-true, eqb-false, not-true}
use lib.Dec.{leb, eqb}
use lib.ListN.{length, drop, get_or}
use Rattle.rules.specs.declared.Reading.{Reading}
use Rattle.text.specs.Bytes.{is}
use Rattle.text.proofs.Bools.{and_l, and_r, or_l, or_r}
use Rattle.text.proofs.Ranges.{all_below, passes}
use Rattle.folding.specs.Folding.{lower}
use Rattle.keywords.specs.Keywords.{reserved, is_free_letter}
use Rattle.keywords.proofs.Keywords.{reserved-none}

lower-range : (b : ℕ) → 97 ≤ lower b → lower b ≤ 122 → (65 ≤ b) × (b ≤ 122)
unfolding lower
lower-range b l h = by (leb 65 b && leb b 90) refl l h
  where
    by : (t : Bool) → (leb 65 b && leb b 90) ≡ t → 97 ≤ cond t (b + 32) b → cond t (b + 32) b ≤ 122 → (65 ≤ b) × (b ≤ 122)
    by true e l h = (omega arith, omega arith)
    by false e l h = (omega arith, omega arith)

free-range : (b : ℕ) → is_free_letter b ≡ true → (65 ≤ b) × (b ≤ 122)
unfolding is_free_letter
free-range b e =
    let c = lower b in
    let f = and_r (leb 97 c) _ e in
    lower-range b (leb-true 97 c (and_l (leb 97 c) _ e)) (leb-true c 122 (and_l (leb c 122) _ f))

-- a test that passes wherever such a letter stands, from one computed test
pub free-letter-is : (f : ℕ → Bool) → all_below (λ k. not (is_free_letter (65 + k)) || f (65 + k)) 58 ≡ true → (b : ℕ) → is_free_letter b ≡ true → f b ≡ true
free-letter-is f t b e =
    let r = free-range b e in
    rw e at (passes (λ x. not (is_free_letter x) || f x) 65 58 t b r.0 (omega arith))

-- where such a letter stands, no reserved word does
pub free-letter : (r : Reading) (s : List ℕ) (o : ℕ) → o < length s → is_free_letter (get_or s o 0) ≡ true → reserved r (drop o s) ≡ false
unfolding is_free_letter is
free-letter r s o h e =
    let c = lower (get_or s o 0) in
    let f = and_r (leb 97 c) _ e in
    let n0 : (eqb c 100 || (eqb c 103 || (eqb c 108 || eqb c 115))) ≡ false = not-true _ (and_r (leb c 122) _ f) in
    let n1 : (eqb c 103 || (eqb c 108 || eqb c 115)) ≡ false = or_r (eqb c 100) _ n0 in
    let n2 : (eqb c 108 || eqb c 115) ≡ false = or_r (eqb c 103) _ n1 in
    reserved-none r s o h c refl (eqb-false c 100 (or_l (eqb c 100) _ n0)) (eqb-false c 103 (or_l (eqb c 103) _ n1)) (eqb-false c 108 (or_l (eqb c 108) _ n2)) (eqb-false c 115 (or_r (eqb c 108) _ n2))
