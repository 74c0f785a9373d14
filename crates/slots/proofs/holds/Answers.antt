-- `slots::holds`: the mark is among the slots that were looked at. Assumes nothing.
use Rattle.std.proofs.Common.{refl, sym, arith}
use Rattle.slots.specs.Slots.{holds_in}
use Rattle.slots.proofs.Slots.{holds-next}
use Rattle.slots.proofs.holds.Goals as goal

pub loop-slot-init : goal.loop-slot-init
unfolding holds_in
loop-slot-init c = refl

pub loop-slot-preserved : goal.loop-slot-preserved
loop-slot-preserved c = rw c.loop-slot.invariant (sym (holds-next _ _ _ _ _ (omega arith)))
