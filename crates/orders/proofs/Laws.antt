-- Laws of the order of sizes: it does not change where both sides are multiplied alike, so of two units any smaller one will do; the steps by ten keep it.
-- Assumes nothing.
use Prim.Native.Nat.{ℕ, suc, ◌+◌, ◌-◌, ◌*◌, ◌/◌, ◌%◌, ◌^◌, ◌≤◌, ◌<◌, min}
use mathlib.Core.Path.{◌≡◌, refl, sym, ap, ◌∙◌}
use mathlib.Core.Bool.{Bool, true, false, cond, ◌&&◌}
use native.Mathlib.Omega.{arith}
use native.Mathlib.Nat.{pow-le-pow_right, one-le-pow, pow-succ', mul_assoc, mul-lt-mul_of_pos_right, mul-le-mul_left, sub-add-min_cancel, min_comm, mul-one, pow-zero}
use borrow.Author.Tests.{ltb-true, ltb-false}
use lib.Dec.{eqb, ltb}
use lib.Pow.{pow-add}
use Rattle.std.specs.Cmp.{nat_cmp_is, ranks}
use Rattle.std.specs.Ordering.{nat_cmp, ordering_reverse, ordering_then, MatchOrdering}
use Rattle.std.specs.declared.cmp.Ordering.{Ordering}
use Rattle.std.specs.declared.cmp.Ordering.TheVariants.{Less, Equal, Greater}
use Rattle.orders.specs.declared.Size.{Size}
use Rattle.orders.specs.Order.{order_of}
use Rattle.orders.specs.Sizes.{pair, pair_of, size_order, is_none, apart}

-- the order from a fact
pub order-less : (a b : ℕ) → a < b → order_of a b ≡ Less
unfolding order_of
order-less a b h = sym (nat_cmp_is a b Less h)

pub order-more : (a b : ℕ) → b < a → order_of a b ≡ Greater
unfolding order_of
order-more a b h = sym (nat_cmp_is a b Greater h)

pub order_same : (a b : ℕ) → a ≡ b → order_of a b ≡ Equal
unfolding order_of
order_same a b h = sym (nat_cmp_is a b Equal h)

-- which of the three it is
pub data Stands (a b : ℕ) : Type 0 where
  less : a < b → Stands a b
  same : a ≡ b → Stands a b
  more : b < a → Stands a b

stands_by : (a b : ℕ) (s t : Bool) → ltb a b ≡ s → ltb b a ≡ t → Stands a b
stands_by a b true t p q = less (ltb-true a b p)
stands_by a b false true p q = more (ltb-true b a q)
stands_by a b false false p q = let h = ltb-false a b p in let k = ltb-false b a q in same (omega arith)

pub stands : (a b : ℕ) → Stands a b
stands a b = stands_by a b (ltb a b) (ltb b a) refl refl

order_alike : {a b c d : ℕ} → (a < b → c < d) → (a ≡ b → c ≡ d) → (b < a → d < c) → Stands a b → order_of c d ≡ order_of a b
order_alike {a} {b} {c} {d} l s m (less h) = order-less c d (l h) ∙ sym (order-less a b h)
order_alike {a} {b} {c} {d} l s m (same h) = order_same c d (s h) ∙ sym (order_same a b h)
order_alike {a} {b} {c} {d} l s m (more h) = order-more c d (m h) ∙ sym (order-more a b h)

-- both sides times the same
pub order-times : (k a b : ℕ) → 0 < k → order_of (a * k) (b * k) ≡ order_of a b
order-times k a b p = order_alike {a = a} {b = b} {c = a * k} {d = b * k} (λ h. mul-lt-mul_of_pos_right h p) (λ h. ap (λ (x : ℕ). x * k) h) (λ h. mul-lt-mul_of_pos_right h p) (stands a b)

flip-by : (a b : ℕ) → Stands a b → ordering_reverse (order_of a b) ≡ order_of b a
flip-by a b (less h) = rw (order-less a b h, order-more b a h)
flip-by a b (same h) = rw (order_same a b h, order_same b a (sym h))
flip-by a b (more h) = rw (order-more a b h, order-less b a h)

pub flip-order : (a b : ℕ) → ordering_reverse (order_of a b) ≡ order_of b a
flip-order a b = flip-by a b (stands a b)

pub ten-pos : (n : ℕ) → 0 < 10 ^ n
ten-pos n = one-le-pow n 10 (omega arith)

-- to the smaller unit, or to the unit that all are counted from: the order is the same
pub in-units : (a x y m : ℕ) → x - y + m ≡ x → a * 10 ^ (x - y) * 10 ^ m ≡ a * 10 ^ x
in-units a x y m e = mul_assoc a (10 ^ (x - y)) (10 ^ m) ∙ ap (λ (n : ℕ). a * n) (sym (pow-add 10 (x - y) m) ∙ ap (λ (n : ℕ). 10 ^ n) e)

pub order-units : (a b x y : ℕ) → order_of (a * 10 ^ (x - y)) (b * 10 ^ (y - x)) ≡ order_of (a * 10 ^ x) (b * 10 ^ y)
order-units a b x y =
    let e : x - y + min x y ≡ x = sub-add-min_cancel x y in
    let f : y - x + min x y ≡ y = rw (min_comm x y) (sub-add-min_cancel y x) in
    sym (order-times (10 ^ min x y) (a * 10 ^ (x - y)) (b * 10 ^ (y - x)) (ten-pos (min x y)))
    ∙ ap (λ (n : ℕ). order_of n (b * 10 ^ (y - x) * 10 ^ min x y)) (in-units a x y (min x y) e)
    ∙ ap (λ (n : ℕ). order_of (a * 10 ^ x) n) (in-units b y x (min x y) f)

-- the first halves decide, then the second
pub order-halves : (h l h2 l2 : ℕ) → l < 1000000000000000000 → l2 < 1000000000000000000 → ordering_then (nat_cmp h h2) (nat_cmp l l2) ≡ order_of (pair_of h l) (pair_of h2 l2)
unfolding order_of
order-halves h l h2 l2 p q = by (nat_cmp h h2) (nat_cmp l l2) (ranks h h2) (ranks l l2)
  where
    by : (r s : Ordering) → MatchOrdering r (h < h2) (h ≡ h2) (h2 < h) → MatchOrdering s (l < l2) (l ≡ l2) (l2 < l) → ordering_then r s ≡ nat_cmp (pair_of h l) (pair_of h2 l2)
    by Less s r m = nat_cmp_is (pair_of h l) (pair_of h2 l2) Less (omega arith)
    by Greater s r m = nat_cmp_is (pair_of h l) (pair_of h2 l2) Greater (omega arith)
    by Equal Less r m = nat_cmp_is (pair_of h l) (pair_of h2 l2) Less (omega arith)
    by Equal Equal r m = nat_cmp_is (pair_of h l) (pair_of h2 l2) Equal (omega arith)
    by Equal Greater r m = nat_cmp_is (pair_of h l) (pair_of h2 l2) Greater (omega arith)

-- a step by ten of a pair
pub pair-ten : (h l : ℕ) → pair_of (h * 10 + l / 100000000000000000) (l % 100000000000000000 * 10) ≡ pair_of h l * 10
pair-ten h l = omega arith

pub ten-left : (n left : ℕ) → 0 < left → n * 10 * 10 ^ (left - 1) ≡ n * 10 ^ left
ten-left n left p =
    let e : suc (left - 1) ≡ left = omega arith in
    mul_assoc n 10 (10 ^ (left - 1)) ∙ ap (λ (m : ℕ). n * m) (sym (pow-succ' 10 (left - 1)) ∙ ap (λ (m : ℕ). 10 ^ m) e)

-- a pair that the next step would take out of its bounds is larger than any pair
pub order-outgrown : (h l left h2 l2 : ℕ) → 0 < left → 100000000000000000 ≤ h → h2 < 1000000000000000000 → l2 < 1000000000000000000 → order_of (pair_of h l * 10 ^ left) (pair_of h2 l2) ≡ Greater
order-outgrown h l left h2 l2 p b c d =
    let t : 10 ^ 1 ≤ 10 ^ left = pow-le-pow_right {n = 10} (omega arith) {i = 1} {j = left} p in
    let g : pair_of h l * 10 ≤ pair_of h l * 10 ^ left = mul-le-mul_left (pair_of h l) t in
    order-more _ _ (omega arith)

-- nothing stays nothing
pub order-nothing : (power n : ℕ) → order_of 0 n ≡ order_of (0 * 10 ^ power) n
order-nothing power n = let z : 0 * 10 ^ power ≡ 0 = omega arith in rw z

-- the larger unit is raised to the smaller
pub sizes-raised : (a b : Size) → b.unit ≤ a.unit → order_of (pair a * 10 ^ (a.unit - b.unit)) (pair b) ≡ size_order a b
unfolding size_order
sizes-raised a b h =
    let z : b.unit - a.unit ≡ 0 = omega arith in
    let e : pair b ≡ pair b * 10 ^ (b.unit - a.unit) = rw (z, pow-zero, mul-one) in
    ap (λ (n : ℕ). order_of (pair a * 10 ^ (a.unit - b.unit)) n) e

pub sizes-flipped : (a b : Size) → a.unit ≤ b.unit → ordering_reverse (order_of (pair b * 10 ^ (b.unit - a.unit)) (pair a)) ≡ size_order a b
unfolding size_order
sizes-flipped a b h =
    let z : a.unit - b.unit ≡ 0 = omega arith in
    let e : pair a ≡ pair a * 10 ^ (a.unit - b.unit) = rw (z, pow-zero, mul-one) in
    flip-order (pair b * 10 ^ (b.unit - a.unit)) (pair a) ∙ ap (λ (n : ℕ). order_of n (pair b * 10 ^ (b.unit - a.unit))) e

-- what a layer above may say of two sizes
pub sizes-are : (a b : Size) → size_order a b ≡ order_of (pair a * 10 ^ (a.unit - b.unit)) (pair b * 10 ^ (b.unit - a.unit))
unfolding size_order
sizes-are a b = refl

pub apart-is : (a b : Size) → apart a b ≡ cond (eqb (pair a) 0 && eqb (pair b) 0) Equal Less
unfolding apart is_none
apart-is a b = refl
