-- The order of two natural numbers. Assumes nothing.
use Rattle.std.specs.Prelude.{ℕ}
use Rattle.std.specs.declared.cmp.Ordering.{Ordering}
use Rattle.std.specs.Ordering.{nat_cmp}

unfoldable pub order_of : ℕ → ℕ → Ordering
order_of a b = nat_cmp a b
