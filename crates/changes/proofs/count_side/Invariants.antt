-- `changes::count_side`: what is counted and what is left make all. Assumes nothing.
use lib.ListN.{length}
use Rattle.changes.specs.Steps.{bytes_at}
use Rattle.changes.proofs.Changes.{Counts}
use Rattle.changes.proofs.count_side.Given as goal

abbrev pub invariant-loop-total : goal.invariant-loop-total
invariant-loop-total l = Counts l.old l.here.store.now l.here.area.now l.there.store.now l.there.area.now l.walk l.total

abbrev pub decreases-loop-total : goal.decreases-loop-total
decreases-loop-total l = length (bytes_at l.old l.here.store.now l.here.area.now l.there.store.now l.there.area.now l.walk.here)
