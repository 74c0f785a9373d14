-- `deciding::parse_data_block`: up to here records of these sizes are kept, and the blocks' answer is what is still answered from here. Assumes nothing.
use Prim.Native.Nat.{◌-◌}
use lib.ListN.{length}
use Rattle.deciding.proofs.Blocks.{Begun}
use Rattle.deciding.proofs.parse_data_block.Given as goal

abbrev pub invariant-loop-step : goal.invariant-loop-step
invariant-loop-step l = Begun l.reading l.s l.start l.step.next l.sizes l.step.reason

abbrev pub decreases-loop-step : goal.decreases-loop-step
decreases-loop-step l = length l.s - l.step.next
