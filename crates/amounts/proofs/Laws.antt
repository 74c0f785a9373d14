-- Laws of exact decimals: the sizes that are compared stand to each other as the decimals do. Assumes nothing.
use Prim.Native.Nat.{ℕ, zero, suc, ◌+◌, ◌-◌, ◌*◌, ◌^◌, ◌≤◌, ◌<◌}
use mathlib.Core.Path.{◌≡◌, refl, sym, ap, ◌∙◌}
use mathlib.Core.Bool.{Bool, true, false, cond, ◌&&◌}
use native.Mathlib.Omega.{arith}
use native.Mathlib.Nat.{mul_assoc, mul_right_comm, add-mul, mul-lt-mul_of_pos_right, mul-pos, zero-add, add-zero, add_comm, mod-lt}
use borrow.Author.Tests.{eqb-true, eqb-false, eq-eqb, ne_eqb}
use lib.Dec.{eqb}
use lib.Pow.{pow-add}
use Rattle.entries.specs.declared.Parts.{Parts}
use Rattle.std.specs.Ordering.{ordering_reverse}
use Rattle.std.specs.declared.cmp.Ordering.TheVariants.{Less, Equal}
use Rattle.orders.specs.Order.{order_of}
use Rattle.orders.specs.Sizes.{Fits, pair, size_order, apart}
use Rattle.orders.proofs.Laws.{order-less, order_same, order-units, flip-order, ten-pos, sizes-are, apart-is}
use Rattle.amounts.specs.Exact.{Kept, digits, raised, unit, in_unit, above, below, value_order, uncertainty_order}
use Rattle.amounts.specs.Sizes.{size_of, doubt_of}

-- 10^18 parted at a number's places
eighteen : (p : ℕ) → p ≤ 18 → 10 ^ p * 10 ^ (18 - p) ≡ 1000000000000000000
eighteen p h = let e : p + (18 - p) ≡ 18 = omega arith in sym (pow-add 10 p (18 - p)) ∙ ap (λ (n : ℕ). 10 ^ n) e

-- filling the fraction up to 18 digits keeps the value
filled : (i f p r : ℕ) → p ≤ 18 → (i * 1000000000000000000 + f * 10 ^ (18 - p)) * 10 ^ r ≡ (i * 10 ^ p + f) * 10 ^ (r + (18 - p))
filled i f p r h =
    let q : ℕ = 10 ^ (18 - p) in
    ap (λ (n : ℕ). (i * n + f * q) * 10 ^ r) (sym (eighteen p h))
    ∙ ap (λ (n : ℕ). (n + f * q) * 10 ^ r) (sym (mul_assoc i (10 ^ p) q))
    ∙ ap (λ (n : ℕ). n * 10 ^ r) (sym (add-mul (i * 10 ^ p) f q))
    ∙ mul_right_comm (i * 10 ^ p + f) q (10 ^ r)
    ∙ mul_assoc (i * 10 ^ p + f) (10 ^ r) q
    ∙ ap (λ (n : ℕ). (i * 10 ^ p + f) * n) (sym (pow-add 10 r (18 - p)))

-- the fraction so filled has its place in the pair
pub fraction-fits : (f p : ℕ) → f < 10 ^ p → p ≤ 18 → f * 10 ^ (18 - p) < 1000000000000000000
fraction-fits f p l h = rw (eighteen p h) at (mul-lt-mul_of_pos_right {m = f} {n = 10 ^ p} {k = 10 ^ (18 - p)} l (ten-pos (18 - p)))

pub size_fits : (p : Parts) → Kept p → Fits (size_of p)
unfolding size_of
size_fits p k = record { high = k.integer; low = fraction-fits p.fraction p.places k.fraction k.places }

pub doubt-fits : (p : Parts) → Kept p → Fits (doubt_of p)
unfolding doubt_of
doubt-fits p k = record { high = omega arith; low = k.uncertainty }

-- THE CORE: the sizes are in the order of the exact decimals
size-worth : (p : Parts) → Kept p → pair (size_of p) * 10 ^ (size_of p).unit ≡ digits p * 10 ^ unit p
unfolding size_of digits unit
size-worth p k = filled p.integer p.fraction p.places (raised p.exponent) k.places

pub size-order : (a b : Parts) → Kept a → Kept b → size_order (size_of a) (size_of b) ≡ order_of (in_unit (digits a) a b) (in_unit (digits b) b a)
unfolding in_unit
size-order a b k l =
    sizes-are (size_of a) (size_of b)
    ∙ order-units (pair (size_of a)) (pair (size_of b)) (size_of a).unit (size_of b).unit
    ∙ ap (λ (n : ℕ). order_of n (pair (size_of b) * 10 ^ (size_of b).unit)) (size-worth a k)
    ∙ ap (λ (n : ℕ). order_of (digits a * 10 ^ unit a) n) (size-worth b l)
    ∙ sym (order-units (digits a) (digits b) (unit a) (unit b))

pub doubt-order : (a b : Parts) → size_order (doubt_of a) (doubt_of b) ≡ uncertainty_order a b
unfolding doubt_of uncertainty_order in_unit unit
doubt-order a b = sizes-are (doubt_of a) (doubt_of b) ∙ rw (zero-add a.uncertainty, zero-add b.uncertainty)

-- a size is 0 exactly where its number is
nothing-of : (n k : ℕ) → 0 < k → n * k ≡ 0 → n ≡ 0
nothing-of zero k p e = refl
nothing-of (suc n) k p e = let h : 0 < suc n * k = mul-pos {m = suc n} {n = k} (omega arith) p in absurd (omega arith)

no-digits : (p : Parts) → Kept p → pair (size_of p) ≡ 0 → digits p ≡ 0
no-digits p k e =
    let z : 0 * 10 ^ (size_of p).unit ≡ 0 = omega arith in
    nothing-of (digits p) (10 ^ unit p) (ten-pos (unit p)) (sym (size-worth p k) ∙ ap (λ (n : ℕ). n * 10 ^ (size_of p).unit) e ∙ z)

some-digits : (p : Parts) → Kept p → (pair (size_of p) ≡ 0 → ⊥) → 0 < digits p
some-digits p k e = let h : (digits p ≡ 0 → ⊥) = λ z. e (nothing-of (pair (size_of p)) (10 ^ (size_of p).unit) (ten-pos (size_of p).unit) (size-worth p k ∙ ap (λ (n : ℕ). n * 10 ^ unit p) z ∙ (omega arith))) in omega arith

pub raised_below : (e : ℕ) → raised e < 4294967296
unfolding raised
raised_below e = mod-lt (e + 2147483648) (omega arith)

-- below 0 against above
apart_by : (a b : Parts) → Kept a → Kept b → (s t : Bool) → eqb (pair (size_of a)) 0 ≡ s → eqb (pair (size_of b)) 0 ≡ t → cond (s && t) Equal Less ≡ order_of 0 (in_unit (digits b) b a + in_unit (digits a) a b)
unfolding in_unit
apart_by a b k l true true p q =
    let x : digits a ≡ 0 = no-digits a k (eqb-true (pair (size_of a)) 0 p) in
    let y : digits b ≡ 0 = no-digits b l (eqb-true (pair (size_of b)) 0 q) in
    let z : 0 * 10 ^ (unit b - unit a) + 0 * 10 ^ (unit a - unit b) ≡ 0 = omega arith in
    sym (ap (λ (n : ℕ). order_of 0 n) (rw (x, y) z) ∙ order_same 0 0 refl)
apart_by a b k l false t p q =
    let x : 0 < digits a * 10 ^ (unit a - unit b) = mul-pos (some-digits a k (eqb-false (pair (size_of a)) 0 p)) (ten-pos (unit a - unit b)) in
    sym (order-less 0 _ (omega arith))
apart_by a b k l true false p q =
    let y : 0 < digits b * 10 ^ (unit b - unit a) = mul-pos (some-digits b l (eqb-false (pair (size_of b)) 0 q)) (ten-pos (unit b - unit a)) in
    sym (order-less 0 _ (omega arith))

apart-order : (a b : Parts) → Kept a → Kept b → apart (size_of a) (size_of b) ≡ order_of 0 (in_unit (digits b) b a + in_unit (digits a) a b)
apart-order a b k l = apart-is (size_of a) (size_of b) ∙ apart_by a b k l (eqb (pair (size_of a)) 0) (eqb (pair (size_of b)) 0) refl refl

-- the four cases of signs
module _ (a b : Parts) (k : Kept a) (l : Kept b) where
  pub both-above : (a.sign ≡ 1 → ⊥) → (b.sign ≡ 1 → ⊥) → size_order (size_of a) (size_of b) ≡ value_order a b
  unfolding value_order above below
  both-above m n = size-order a b k l ∙ rw (ne_eqb a.sign 1 m, ne_eqb b.sign 1 n, add-zero (in_unit (digits a) a b), add-zero (in_unit (digits b) b a))

  pub both_below : a.sign ≡ 1 → b.sign ≡ 1 → size_order (size_of b) (size_of a) ≡ value_order a b
  unfolding value_order above below
  both_below m n = size-order b a l k ∙ rw (eq-eqb a.sign 1 m, eq-eqb b.sign 1 n, zero-add (in_unit (digits a) a b), zero-add (in_unit (digits b) b a))

  pub below-above : a.sign ≡ 1 → (b.sign ≡ 1 → ⊥) → apart (size_of a) (size_of b) ≡ value_order a b
  unfolding value_order above below
  below-above m n = apart-order a b k l ∙ rw (eq-eqb a.sign 1 m, ne_eqb b.sign 1 n)

  pub above-below : (a.sign ≡ 1 → ⊥) → b.sign ≡ 1 → ordering_reverse (apart (size_of a) (size_of b)) ≡ value_order a b
  unfolding value_order above below
  above-below m n =
      ap ordering_reverse (apart-order a b k l) ∙ flip-order 0 (in_unit (digits b) b a + in_unit (digits a) a b) ∙ rw (ne_eqb a.sign 1 m, eq-eqb b.sign 1 n, add_comm (in_unit (digits a) a b) (in_unit (digits b) b a))

-- a number agrees with itself, so equal parts need no order; and the order turns round
pub value_same : (p : Parts) → value_order p p ≡ Equal
unfolding value_order
value_same p = order_same _ _ refl

pub doubt-same : (p : Parts) → uncertainty_order p p ≡ Equal
unfolding uncertainty_order
doubt-same p = order_same _ _ refl

pub value-turned : (a b : Parts) → ordering_reverse (value_order a b) ≡ value_order b a
unfolding value_order
value-turned a b = flip-order _ _

pub doubt-turned : (a b : Parts) → ordering_reverse (uncertainty_order a b) ≡ uncertainty_order b a
unfolding uncertainty_order
doubt-turned a b = flip-order _ _
