-- `orders::order_raised`: the pair so far times the power left is the pair that was given times its power. Assumes nothing.
use Prim.Native.Nat.{◌-◌, ◌*◌, ◌^◌}
use mathlib.Core.Path.{◌≡◌}
use Rattle.orders.specs.Sizes.{Fits, pair}
use Rattle.orders.proofs.order_raised.Given as goal

abbrev pub invariant-loop : goal.invariant-loop
invariant-loop l = record { fits : Fits l.size; same : pair l.size * 10 ^ (l.power - l.counter) ≡ pair l.fn.a * 10 ^ l.power }
