-- `orders::order_pairs`. Assumes nothing.
use mathlib.Core.Path.{◌∙◌}
use Rattle.orders.proofs.Laws.{order-halves}
use Rattle.orders.proofs.order_pairs.Goals as goal

pub returns : goal.returns
returns c = c.then.ensures ∙ rw (c.cmp.ensures, c.cmp-2.ensures) (order-halves _ _ _ _ c.requires.0.low c.requires.1.low)
