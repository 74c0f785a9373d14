-- Sizes: a pair of numbers below 10^18, read as one of up to 36 digits, counts units that are powers of ten. Of two sizes the one with the larger unit is counted in
-- the smaller, as often ten times as the powers differ. Assumes nothing.
use Rattle.std.specs.Prelude.{ℕ, ◌+◌, ◌-◌, ◌*◌, ◌^◌, ◌<◌, Bool, cond, ◌&&◌, eqb}
use Rattle.std.specs.declared.cmp.Ordering.{Ordering}
use Rattle.std.specs.declared.cmp.Ordering.TheVariants.{Less, Equal}
use Rattle.orders.specs.declared.Size.{Size}
use Rattle.orders.specs.Order.{order_of}

pub record Fits (s : Size) : Type 0 where
  pub high : s.high < 1000000000000000000
  pub low : s.low < 1000000000000000000

abbrev pub pair_of : ℕ → ℕ → ℕ
pair_of high low = high * 1000000000000000000 + low

abbrev pub pair : Size → ℕ
pair s = pair_of s.high s.low

unfoldable pub size_order : Size → Size → Ordering
size_order a b = order_of (pair a * 10 ^ (a.unit - b.unit)) (pair b * 10 ^ (b.unit - a.unit))

unfoldable pub is_none : Size → Bool
is_none a = eqb (pair a) 0

-- the first below 0, the second above
unfoldable pub apart : Size → Size → Ordering
apart a b = cond (is_none a && is_none b) Equal Less
