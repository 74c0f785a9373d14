-- `amounts::order_uncertainties`. Assumes nothing.
use mathlib.Core.Path.{◌∙◌}
use Rattle.amounts.proofs.Laws.{doubt-fits, doubt-order}
use Rattle.amounts.proofs.order_uncertainties.Goals as goal

pub order_sizes-requires : goal.order_sizes-requires
order_sizes-requires c =
    let p = c.requires in
    (rw c.doubt_of.ensures (doubt-fits _ p.0), rw c.doubt_of-2.ensures (doubt-fits _ p.1))

pub returns : goal.returns
returns c = c.order_sizes.ensures ∙ rw (c.doubt_of.ensures, c.doubt_of-2.ensures) (doubt-order _ _)
