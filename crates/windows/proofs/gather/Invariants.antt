-- `windows::gather`: the offsets fit the table. Assumes nothing.
use Rattle.std.proofs.Common.{◌≤◌, length}
use Rattle.steps.specs.Steps.{names_at, Reached}
use Rattle.windows.proofs.gather.Given as goal

abbrev pub invariant-loop-n : goal.invariant-loop-n
invariant-loop-n l = (l.n ≤ 12288) × Reached l.scope.store.now l.scope.area.now l.here

abbrev pub decreases-loop-n : goal.decreases-loop-n
decreases-loop-n l = length (names_at l.scope.store.now l.scope.area.now l.here)
