-- A test's answer over a run of bytes, from one computed test. Assumes nothing.
use Prim.Native.Nat.{ℕ, zero, suc, ◌+◌, ◌-◌, ◌≤◌, ◌<◌}
use mathlib.Core.Bool.{Bool, true, false, not, ◌&&◌}
use mathlib.Core.Path.{◌≡◌, refl}
use native.Mathlib.Omega.{arith}
use borrow.Author.Tests.{leb-true, lt-leb, le-leb, ltb-true, ltb-false, eqb-true, eqb-false, not-true}
use lib.Dec.{leb, ltb, eqb}
use Rattle.text.specs.Bytes.{is_ascii, is_digit}
use Rattle.text.proofs.Bools.{and_l, and_r}

-- all numbers below n pass
abbrev pub all_below : (ℕ → Bool) → ℕ → Bool
all_below f zero = true
all_below f (suc n) = f n && all_below f n

pub below : (f : ℕ → Bool) (n : ℕ) → all_below f n ≡ true → (k : ℕ) → k < n → f k ≡ true
below f zero e k h = absurd (omega arith)
below f (suc n) e k h = by (eqb k n) refl (below f n (and_r (f n) (all_below f n) e) k)
  where
    by : (t : Bool) → eqb k n ≡ t → (k < n → f k ≡ true) → f k ≡ true
    by true q r = rw (eqb-true k n q) (and_l (f n) (all_below f n) e)
    by false q r = let d : ¬ (k ≡ n) = eqb-false k n q in r (omega arith)

-- the n bytes from lo on pass
pub passes : (f : ℕ → Bool) (lo n : ℕ) → all_below (λ k. f (lo + k)) n ≡ true → (b : ℕ) → lo ≤ b → b < lo + n → f b ≡ true
passes f lo n e b l h =
    let q : lo + (b - lo) ≡ b = omega arith in
    rw q at (below (λ k. f (lo + k)) n e (b - lo) (omega arith))

-- they fail
pub fails : (f : ℕ → Bool) (lo n : ℕ) → all_below (λ k. not (f (lo + k))) n ≡ true → (b : ℕ) → lo ≤ b → b < lo + n → f b ≡ false
fails f lo n e b l h = not-true (f b) (passes (λ x. not (f x)) lo n e b l h)

-- a test that passes at the ten digits passes at a digit
pub digit-is : (f : ℕ → Bool) → all_below (λ k. f (48 + k)) 10 ≡ true → (b : ℕ) → is_digit b ≡ true → f b ≡ true
unfolding is_digit
digit-is f e b d =
    let lo : 48 ≤ b = leb-true 48 b (and_l (leb 48 b) (leb b 57) d) in
    let hi : b ≤ 57 = leb-true b 57 (and_r (leb 48 b) (leb b 57) d) in
    passes f 48 10 e b lo (omega arith)

-- one that fails at them fails
pub digit_not : (f : ℕ → Bool) → all_below (λ k. not (f (48 + k))) 10 ≡ true → (b : ℕ) → is_digit b ≡ true → f b ≡ false
digit_not f e b d = not-true (f b) (digit-is (λ x. not (f x)) e b d)

-- 128 or more is what is not ASCII
pub high_byte : (b : ℕ) → leb 128 b ≡ not (is_ascii b)
unfolding is_ascii
high_byte b = by (ltb b 128) refl
  where
    by : (t : Bool) → ltb b 128 ≡ t → leb 128 b ≡ not t
    by true e = lt-leb 128 b (ltb-true b 128 e)
    by false e = le-leb 128 b (ltb-false b 128 e)
