-- `steps::next_name`: the names from where the walk began are those from here on. Assumes nothing.
use Rattle.std.proofs.Common.{◌-◌, length}
use Rattle.steps.proofs.Steps.{Walking}
use Rattle.steps.proofs.next_name.Given as goal

abbrev pub invariant-loop-entry : goal.invariant-loop-entry
invariant-loop-entry l = Walking l.store l.area l.fn.spot l.here

abbrev pub decreases-loop-entry : goal.decreases-loop-entry
decreases-loop-entry l = length l.store - l.here.at
