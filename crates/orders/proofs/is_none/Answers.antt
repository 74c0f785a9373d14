-- `orders::is_none`. Assumes nothing.
use mathlib.Core.Path.{◌≡◌}
use native.Mathlib.Omega.{arith}
use borrow.Author.Tests.{ne_eqb}
use Rattle.orders.specs.Sizes.{is_none, pair}
use Rattle.orders.proofs.is_none.Goals as goal

pub returns-then-a-eq0 : goal.returns-then-a-eq0
unfolding is_none
returns-then-a-eq0 c =
    let a = c.args.a in
    let e : pair a ≡ a.low = omega arith in
    rw e

pub returns-else-a-eq0 : goal.returns-else-a-eq0
unfolding is_none
returns-else-a-eq0 c =
    let a = c.args.a in
    rw (ne_eqb a.high 0 (omega arith), ne_eqb (pair a) 0 (omega arith))
