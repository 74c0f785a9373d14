-- `changes::count_side`: what is counted and what is left make all. Assumes nothing.
use mathlib.Core.Path.{refl}
use native.Mathlib.Omega.{arith}
use Rattle.changes.proofs.Changes.{count-first, count-end, count-within, count_next, stepped-less}
use Rattle.changes.proofs.count_side.Goals as goal

pub loop-total-init : goal.loop-total-init
loop-total-init c = rw c.start-walk.ensures (count-first _ _ _ _ _ _ (rw c.empty-slots.ensures refl))

pub overflow_add-total : goal.overflow_add-total
overflow_add-total c =
    let s = rw c.in-Some.is at c.next.ensures in
    omega (arith, count-within _ _ _ _ _ _ _ _ s _ c.loop-total.invariant, c.ranges.here)

pub loop-total-smaller : goal.loop-total-smaller
loop-total-smaller c =
    let s = rw c.in-Some.is at c.next.ensures in
    omega (arith, stepped-less _ _ _ _ _ _ _ _ s)

pub loop-total-preserved : goal.loop-total-preserved
loop-total-preserved c = count_next _ _ _ _ _ _ _ _ (rw c.in-Some.is at c.next.ensures) _ c.loop-total.invariant

pub returns : goal.returns
returns c = count-end _ _ _ _ _ _ _ _ _ c.loop-total.invariant c.next.ensures c.in_default.is
