-- LARGER AND SMALLER ARE A STRICT TOTAL ORDER (document 02, Four: "for every sign and exponent"): of two numbers exactly one of less, same and more holds, no number is
-- less than itself, from the other side less is more, and both less and same go through a number between. Numbers that are the same stand alike to every other.
-- Assumes nothing.
use Prim.Native.Nat.{ℕ, ◌+◌, ◌-◌, ◌*◌, ◌^◌, ◌<◌, min}
use mathlib.Core.Path.{◌≡◌, sym, ap₂, ◌∙◌}
use mathlib.Core.Bool.{Bool, true, false, cond}
use native.Mathlib.Omega.{arith}
use native.Mathlib.Nat.{add-mul, zero-add, add-zero, sub-add-min_cancel, min_comm}
use lib.Dec.{eqb}
use Rattle.entries.specs.declared.Parts.{Parts}
use Rattle.std.specs.declared.cmp.Ordering.TheVariants.{Less, Equal, Greater}
use Rattle.orders.specs.Order.{order_of}
use Rattle.orders.proofs.Laws.{Stands, less, same, more, stands, order-less, order_same, order-more, order-times, in-units, ten-pos}
use Rattle.amounts.specs.Exact.{digits, unit, in_unit, above, below, value_order}
use Rattle.amounts.proofs.Laws.{value_same, value-turned}

-- what a number has above 0, and below, in the unit that all are counted from
above-all : Parts → ℕ
above-all p = above p (digits p * 10 ^ unit p)

below_all : Parts → ℕ
below_all p = below p (digits p * 10 ^ unit p)

-- the parts above and below 0, times the same
parts-times : (p q : Parts) (n m k : ℕ) → (above p n + below q m) * k ≡ above p (n * k) + below q (m * k)
unfolding above below
parts-times p q n m k = by (eqb p.sign 1) (eqb q.sign 1)
  where
    by : (s t : Bool) → (cond s 0 n + cond t m 0) * k ≡ cond s 0 (n * k) + cond t (m * k) 0
    by true true = rw (zero-add m, zero-add (m * k))
    by true false = omega arith
    by false true = add-mul n m k
    by false false = rw (add-zero n, add-zero (n * k))

-- the order in the smaller unit is that in the unit that all are counted from
value-worth : (a b : Parts) → value_order a b ≡ order_of (above-all a + below_all b) (above-all b + below_all a)
unfolding value_order in_unit above-all below_all
value-worth a b =
    let x = unit a in
    let y = unit b in
    let k : ℕ = 10 ^ min x y in
    let n : ℕ = digits a * 10 ^ (x - y) in
    let m : ℕ = digits b * 10 ^ (y - x) in
    let e : n * k ≡ digits a * 10 ^ x = in-units (digits a) x y (min x y) (sub-add-min_cancel x y) in
    let f : m * k ≡ digits b * 10 ^ y = in-units (digits b) y x (min x y) (rw (min_comm x y) (sub-add-min_cancel y x)) in
    sym (order-times k (above a n + below b m) (above b m + below a n) (ten-pos (min x y)))
    ∙ ap₂ order_of (parts-times a b n m k ∙ rw (e, f)) (parts-times b a m n k ∙ rw (e, f))

-- the fact from the order
order-says : (a b : ℕ) → order_of a b ≡ Less → a < b
order-says a b e = by (stands a b)
  where
    by : Stands a b → a < b
    by (less h) = h
    by (same h) = let z : ◌≡◌ {A = ℕ} 0 1 = cc (order_same a b h) in absurd (omega arith)
    by (more h) = let z : ◌≡◌ {A = ℕ} 0 1 = cc (order-more a b h) in absurd (omega arith)

order-equal : (a b : ℕ) → order_of a b ≡ Equal → a ≡ b
order-equal a b e = by (stands a b)
  where
    by : Stands a b → a ≡ b
    by (less h) = let z : ◌≡◌ {A = ℕ} 0 1 = cc (order-less a b h) in absurd (omega arith)
    by (same h) = h
    by (more h) = let z : ◌≡◌ {A = ℕ} 0 1 = cc (order-more a b h) in absurd (omega arith)

-- no number is less than itself
pub less-never-self : (a : Parts) → value_order a a ≡ Less → ⊥
less-never-self a e = let z : ◌≡◌ {A = ℕ} 0 1 = cc (value_same a) in omega arith

-- less from one side is more from the other
pub less-turned : (a b : Parts) → value_order a b ≡ Less → value_order b a ≡ Greater
less-turned a b e = sym (value-turned a b) ∙ rw e

pub more-turned : (a b : Parts) → value_order a b ≡ Greater → value_order b a ≡ Less
more-turned a b e = sym (value-turned a b) ∙ rw e

-- through a number between
pub less-through : (a b c : Parts) → value_order a b ≡ Less → value_order b c ≡ Less → value_order a c ≡ Less
less-through a b c e f =
    let h = order-says _ _ (sym (value-worth a b) ∙ e) in
    let k = order-says _ _ (sym (value-worth b c) ∙ f) in
    value-worth a c ∙ order-less _ _ (omega arith)

-- numbers that are the same stand alike to every other
pub same_alike : (a b c : Parts) → value_order a b ≡ Equal → value_order a c ≡ value_order b c
same_alike a b c e =
    let h : above-all a + below_all b ≡ above-all b + below_all a = order-equal _ _ (sym (value-worth a b) ∙ e) in
    value-worth a c ∙ by (stands (above-all b + below_all c) (above-all c + below_all b)) h ∙ sym (value-worth b c)
  where
    by :
        Stands (above-all b + below_all c) (above-all c + below_all b) → above-all a + below_all b ≡ above-all b + below_all a →
        order_of (above-all a + below_all c) (above-all c + below_all a) ≡ order_of (above-all b + below_all c) (above-all c + below_all b)
    by (less k) h = order-less _ _ (omega arith) ∙ sym (order-less _ _ k)
    by (same k) h = order_same _ _ (omega arith) ∙ sym (order_same _ _ k)
    by (more k) h = order-more _ _ (omega arith) ∙ sym (order-more _ _ k)

-- 0 is 0 whatever its sign and exponent: `-0`, `0`, `0e999999999`
pub nothing-same : (a b : Parts) → digits a ≡ 0 → digits b ≡ 0 → value_order a b ≡ Equal
unfolding above-all below_all above below
nothing-same a b e f = value-worth a b ∙ order_same _ _ (rw (e, f) (by (eqb a.sign 1) (eqb b.sign 1) (10 ^ unit a) (10 ^ unit b)))
  where
    by : (s t : Bool) (n m : ℕ) → cond s 0 (0 * n) + cond t (0 * m) 0 ≡ cond t 0 (0 * m) + cond s (0 * n) 0
    by true true n m = omega arith
    by true false n m = omega arith
    by false true n m = omega arith
    by false false n m = omega arith
