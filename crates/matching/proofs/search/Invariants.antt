-- `matching::search`: what meets nothing is passed over. Assumes nothing.
use lib.ListN.{length}
use Rattle.cells.specs.Walk.{cells_at, cell_of}
use Rattle.matching.proofs.Matching.{Seeks}
use Rattle.matching.proofs.search.Given as goal

abbrev pub invariant-loop-met : goal.invariant-loop-met
invariant-loop-met l = Seeks l.here.store.now l.here.area.now l.there.store.now l.there.area.now (cell_of l.x) l.initial.spot l.spot

abbrev pub decreases-loop-met : goal.decreases-loop-met
decreases-loop-met l = length (cells_at l.there.store.now l.spot)
