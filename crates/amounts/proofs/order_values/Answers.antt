-- `amounts::order_values`. Assumes nothing.
use mathlib.Core.Path.{ap, ◌∙◌}
use Rattle.std.specs.Ordering.{ordering_reverse}
use Rattle.amounts.proofs.Laws.{size_fits, both-above, both_below, below-above, above-below}
use Rattle.amounts.proofs.order_values.Goals as goal

pub order_sizes-requires : goal.order_sizes-requires
order_sizes-requires c =
    let p = c.requires in
    (rw c.size_of-y.ensures (size_fits _ p.1), rw c.size_of-x.ensures (size_fits _ p.0))

pub order_sizes-requires-in-false-false : goal.order_sizes-requires-in-false-false
order_sizes-requires-in-false-false c =
    let p = c.requires in
    (rw c.size_of-x.ensures (size_fits _ p.0), rw c.size_of-y.ensures (size_fits _ p.1))

pub returns-in-true-true : goal.returns-in-true-true
returns-in-true-true c =
    let p = c.requires in
    c.order_sizes.ensures ∙ rw (c.size_of-x.ensures, c.size_of-y.ensures) (both_below _ _ p.0 p.1 c.in-true-true.is-0 c.in-true-true.is-1)

pub returns-in-true-false : goal.returns-in-true-false
returns-in-true-false c =
    let p = c.requires in
    c.order_apart.ensures ∙ rw (c.size_of-x.ensures, c.size_of-y.ensures) (below-above _ _ p.0 p.1 c.in-true-false.is-0 c.in-true-false.is-1)

pub returns-in-false-true : goal.returns-in-false-true
returns-in-false-true c =
    let p = c.requires in
    c.reverse.ensures ∙ ap ordering_reverse c.order_apart-in-false-true.ensures
    ∙ rw (c.size_of-x.ensures, c.size_of-y.ensures) (above-below _ _ p.0 p.1 c.in-false-true.is-0 c.in-false-true.is-1)

pub returns-in-false-false : goal.returns-in-false-false
returns-in-false-false c =
    let p = c.requires in
    c.order_sizes-in-false-false.ensures ∙ rw (c.size_of-x.ensures, c.size_of-y.ensures) (both-above _ _ p.0 p.1 c.in-false-false.is-0 c.in-false-false.is-1)
