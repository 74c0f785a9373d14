-- `slots::holds`: the mark is among the slots that were looked at. Assumes nothing.
use Rattle.std.proofs.Common.{◌≡◌}
use Rattle.slots.specs.Slots.{holds_in}
use Rattle.slots.proofs.holds.Given as goal

abbrev pub invariant-loop-slot : goal.invariant-loop-slot
invariant-loop-slot l = l.met ≡ holds_in l.table l.slot-index l.from l.mark
