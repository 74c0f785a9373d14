-- `changes::Walk::next`: no value that was passed over has an entry. Assumes nothing.
use mathlib.Core.Path.{◌≡◌}
use lib.ListN.{length}
use Rattle.cells.specs.Walk.{cells_at}
use Rattle.changes.specs.Steps.{Walks, bytes_at}
use Rattle.changes.proofs.Walk.next.Given as goal

abbrev pub invariant-loop-value : goal.invariant-loop-value
invariant-loop-value l =
    let st = l.here.store.now in
    let ar = l.here.area.now in
    let st' = l.there.store.now in
    let ar' = l.there.area.now in
    record { walks : Walks st ar st' ar' l.self; passed : bytes_at l.old st ar st' ar' l.initial.self.here ≡ bytes_at l.old st ar st' ar' l.self.here }

abbrev pub decreases-loop-value : goal.decreases-loop-value
decreases-loop-value l = length (cells_at l.here.store.now l.self.here)
