-- `orders::order_raised`: the pair so far times the power left is the pair that was given times its power. Assumes nothing.
use Prim.Native.Nat.{ℕ, ◌+◌, ◌-◌, ◌*◌, ◌^◌}
use mathlib.Core.Path.{◌≡◌, sym, ap, ◌∙◌}
use native.Mathlib.Omega.{arith}
use Rattle.orders.specs.Order.{order_of}
use Rattle.orders.specs.Sizes.{pair}
use Rattle.orders.proofs.Laws.{pair-ten, ten-left, order-outgrown}
use Rattle.orders.proofs.order_raised.Goals as goal

pub returns-then-size-ge-TENTH : goal.returns-then-size-ge-TENTH
returns-then-size-ge-TENTH c =
    let s = c.loop in
    let a = c.args in
    sym (order-outgrown s.size.high s.size.low (a.power - s.counter) a.b.high a.b.low (omega arith) c.if-size-ge-TENTH.true c.requires.1.high c.requires.1.low) ∙ ap (λ n. order_of n (pair a.b)) s.invariant.same

pub loop-preserved : goal.loop-preserved
loop-preserved c =
    let s = c.loop in
    let left : ℕ = c.args.power - s.counter in
    let e : c.args.power - (s.counter + 1) ≡ left - 1 = omega arith in
    record {
      fits = record { high = omega arith; low = omega arith };
      same = rw e (ap (λ n. n * 10 ^ (left - 1)) (pair-ten s.size.high s.size.low) ∙ ten-left (pair s.size) left (omega arith) ∙ s.invariant.same);
    }
