-- `slots::free_slot`: the slot that is found among 16 is that among those that are left. Assumes nothing.
use Rattle.std.proofs.Common.{sym, ◌∙◌, arith}
use Rattle.slots.proofs.Slots.{free-here, free_more, free-none}
use Rattle.slots.proofs.free_slot.Goals as goal

pub returns-then-table-slot-eq0 : goal.returns-then-table-slot-eq0
returns-then-table-slot-eq0 c = sym (c.loop-slot.invariant ∙ free-here _ _ _ (omega arith) c.if-table-slot-eq0.true)

pub loop-slot-preserved : goal.loop-slot-preserved
loop-slot-preserved c = c.loop-slot.invariant ∙ free_more _ _ _ _ (omega arith) c.if-table-slot-eq0.false

pub returns : goal.returns
returns c = sym (c.loop-slot.invariant ∙ free-none _ _ _ (omega arith))
