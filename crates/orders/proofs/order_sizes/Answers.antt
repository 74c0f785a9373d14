-- `orders::order_sizes`. Assumes nothing.
use mathlib.Core.Path.{ap, ◌∙◌}
use native.Mathlib.Omega.{arith}
use Rattle.std.specs.Ordering.{ordering_reverse}
use Rattle.orders.proofs.Laws.{sizes-raised, sizes-flipped}
use Rattle.orders.proofs.order_sizes.Goals as goal

pub returns-then-a-b : goal.returns-then-a-b
returns-then-a-b c =
    let a = c.args in
    c.reverse.ensures ∙ ap ordering_reverse c.order_raised.ensures ∙ sizes-flipped a.a a.b (omega arith)

pub returns-else-a-b : goal.returns-else-a-b
returns-else-a-b c =
    let a = c.args in
    c.order_raised-else-a-b.ensures ∙ sizes-raised a.a a.b (omega arith)
