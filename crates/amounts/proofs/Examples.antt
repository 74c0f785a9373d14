-- The document's own examples, computed from the definition. Assumes nothing.
use mathlib.Core.Path.{◌≡◌, refl}
use Rattle.entries.specs.declared.Parts.{Parts}
use Rattle.std.specs.declared.cmp.Ordering.TheVariants.{Less, Equal, Greater}
use Rattle.orders.specs.Order.{order_of}
use Rattle.amounts.specs.Exact.{digits, raised, unit, in_unit, above, below, value_order, uncertainty_order}
use Prim.Native.Nat.{ℕ}

abbrev of : ℕ → ℕ → ℕ → ℕ → ℕ → ℕ → Parts
of s i f p e u = record { sign = s; integer = i; fraction = f; places = p; exponent = e; uncertainty = u }

-- `1.50`, `1.5` and `15e-1` agree; so do `-0` and `0`
shorter : value_order (of 0 1 50 2 0 0) (of 0 1 5 1 0 0) ≡ Equal
unfolding value_order in_unit digits unit raised above below order_of
shorter = refl

raised-one : value_order (of 0 1 5 1 0 0) (of 0 15 0 0 4294967295 0) ≡ Equal
unfolding value_order in_unit digits unit raised above below order_of
raised-one = refl

minus-nothing : value_order (of 1 0 0 0 0 0) (of 0 0 0 0 0 0) ≡ Equal
unfolding value_order in_unit digits unit raised above below order_of
minus-nothing = refl

minus-two : value_order (of 1 2 0 0 0 0) (of 1 1 0 0 0 0) ≡ Less
unfolding value_order in_unit digits unit raised above below order_of
minus-two = refl

-- `1.5(1)` and `1.50(10)`: the same; `1.5(1)` and `1.50(1)` not
same-doubt : uncertainty_order (of 0 1 5 1 0 1) (of 0 1 50 2 0 10) ≡ Equal
unfolding uncertainty_order in_unit unit raised order_of
same-doubt = refl

other-doubt : uncertainty_order (of 0 1 5 1 0 1) (of 0 1 50 2 0 1) ≡ Greater
unfolding uncertainty_order in_unit unit raised order_of
other-doubt = refl
