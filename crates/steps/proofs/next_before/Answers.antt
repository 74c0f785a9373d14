-- `steps::next_before`: so many names stand before the spot, or a step is made. Assumes nothing.
use Rattle.std.proofs.Common.{arith}
use Rattle.steps.proofs.Steps.{before-over, before-step}
use Rattle.steps.proofs.next_before.Goals as goal

pub returns-then-spot-end : goal.returns-then-spot-end
returns-then-spot-end c = before-step _ _ _ _ _ (omega arith) c.next_name.ensures

pub returns-else-spot-end : goal.returns-else-spot-end
returns-else-spot-end c = before-over _ _ _ _ (omega arith)
