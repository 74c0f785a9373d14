-- `orders::order_apart`. Assumes nothing.
use Rattle.orders.specs.Sizes.{apart}
use Rattle.orders.proofs.order_apart.Goals as goal
use Rattle.orders.proofs.order_apart.Goals.{else-is_none-via-then-is_none+else-is_none-2, else-is_none-via-else-is_none}

pub returns-then-is_none-2 : goal.returns-then-is_none-2
unfolding apart
returns-then-is_none-2 c = rw (← c.is_none.ensures, ← c.is_none-then-is_none.ensures, c.if-is_none.true, c.if-is_none-2.true)

pub returns-else-is_none : goal.returns-else-is_none
unfolding apart
returns-else-is_none c = elim c.else-is_none.branch [
  | else-is_none-via-then-is_none+else-is_none-2 w ↦ rw (← c.is_none.ensures, ← w.is_none-then-is_none.ensures, w.if-is_none.true, w.if-is_none-2.false)
  | else-is_none-via-else-is_none w ↦ rw (← c.is_none.ensures, w.if-is_none.false)
]
