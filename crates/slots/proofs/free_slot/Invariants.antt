-- `slots::free_slot`: the slot that is found among 16 is that among those that are left. Assumes nothing.
use Rattle.std.proofs.Common.{◌+◌, ◌-◌, ◌≡◌}
use Rattle.slots.specs.Slots.{free_in}
use Rattle.slots.proofs.free_slot.Given as goal

abbrev pub invariant-loop-slot : goal.invariant-loop-slot
invariant-loop-slot l = free_in l.table 16 l.from ≡ free_in l.table (l.from + 16 - l.slot) l.slot
