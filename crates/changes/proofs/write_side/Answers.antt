-- `changes::write_side`: what is written and what is left make all. Assumes nothing.
use mathlib.Core.Path.{refl}
use native.Mathlib.Omega.{arith}
use Rattle.changes.proofs.Changes.{write-first, write-end, write-room, write-next, stepped-less}
use Rattle.changes.proofs.write_side.Goals as goal

pub loop-change-init : goal.loop-change-init
loop-change-init c = rw c.start-walk.ensures (write-first _ _ _ _ _ _ (rw c.empty-slots.ensures refl) _ _ c.requires.1)

pub put_entry-requires : goal.put_entry-requires
put_entry-requires c = write-room _ _ _ _ _ _ _ _ _ _ c.loop-change.invariant _ _ (rw c.in-Some.is at c.next.ensures)

pub loop-change-smaller : goal.loop-change-smaller
loop-change-smaller c =
    let s = rw c.in-Some.is at c.next.ensures in
    omega (arith, stepped-less _ _ _ _ _ _ _ _ s)

pub loop-change-preserved : goal.loop-change-preserved
loop-change-preserved c = write-next _ _ _ _ _ _ _ _ _ _ c.loop-change.invariant _ _ (rw c.in-Some.is at c.next.ensures) _ c.put_entry.ensures

pub returns : goal.returns
returns c = write-end _ _ _ _ _ _ _ _ _ _ _ _ c.loop-change.invariant c.next.ensures c.in_default.is
