-- EXACT DECIMALS (document 02, Four): two numbers are equal when their exact decimals are; of unequal ones it says which is larger; an uncertainty counts by its exact
-- size, none as 0. A number's value is (integer and fraction digits read as one natural number) times ten to the power of its unit, with its sign; an uncertainty is its
-- digits times the same power. Powers are counted from -2^31 - 18 on, which no stored exponent with 18 fraction digits goes below, so that all are natural
-- numbers; of two units the smaller one is taken for both. Nothing of this is ever computed. Assumes nothing.
use Rattle.std.specs.Prelude.{ℕ, ◌+◌, ◌-◌, ◌*◌, ◌%◌, ◌^◌, ◌≤◌, ◌<◌, cond, eqb}
use Rattle.entries.specs.declared.Parts.{Parts}
use Rattle.std.specs.declared.cmp.Ordering.{Ordering}
use Rattle.orders.specs.Order.{order_of}

-- what is asked of decimal parts: less than soundness gives
pub record Kept (p : Parts) : Type 0 where
  pub integer : p.integer < 1000000000000000000
  pub fraction : p.fraction < 10 ^ p.places
  pub places : p.places ≤ 18
  pub uncertainty : p.uncertainty < 1000000000000000000

-- all digits of a number
unfoldable pub digits : Parts → ℕ
digits p = p.integer * 10 ^ p.places + p.fraction

-- an exponent, stored in two's complement, counted from -2^31 on
unfoldable pub raised : ℕ → ℕ
raised e = (e + 2147483648) % 4294967296

-- the power of ten of a number's last digit, exponent less places, counted from -2^31 - 18 on
unfoldable pub unit : Parts → ℕ
unit p = raised p.exponent + (18 - p.places)

-- n units of a, where b's unit is the smaller one, in b's; else as it is
unfoldable pub in_unit : ℕ → Parts → Parts → ℕ
in_unit n a b = n * 10 ^ (unit a - unit b)

-- of a value with this size: the part above 0, and the part below
unfoldable pub above : Parts → ℕ → ℕ
above p n = cond (eqb p.sign 1) 0 n

unfoldable pub below : Parts → ℕ → ℕ
below p n = cond (eqb p.sign 1) n 0

-- a stands to b as what a has above 0, with what b has below, stands to what b has above 0, with what a has below: so -0 is 0
unfoldable pub value_order : Parts → Parts → Ordering
value_order a b =
    let x = in_unit (digits a) a b in
    let y = in_unit (digits b) b a in
    order_of (above a x + below b y) (above b y + below a x)

unfoldable pub uncertainty_order : Parts → Parts → Ordering
uncertainty_order a b = order_of (in_unit a.uncertainty a b) (in_unit b.uncertainty b a)
