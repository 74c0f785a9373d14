-- `changes::write_side`: what is written and what is left make all. Assumes nothing.
use lib.ListN.{length}
use Rattle.changes.specs.Steps.{bytes_at}
use Rattle.changes.proofs.Changes.{Writes}
use Rattle.changes.proofs.write_side.Given as goal

abbrev pub invariant-loop-change : goal.invariant-loop-change
invariant-loop-change l = Writes l.old l.here.store.now l.here.area.now l.there.store.now l.there.area.now l.from l.initial.list l.list l.walk l.at

abbrev pub decreases-loop-change : goal.decreases-loop-change
decreases-loop-change l = length (bytes_at l.old l.here.store.now l.here.area.now l.there.store.now l.there.area.now l.walk.here)
