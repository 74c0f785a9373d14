-- `slots::note`: the table is as it was, or has the mark where a slot was free. Assumes nothing.
use Rattle.std.proofs.Common.{◌<◌, sym, arith}
use Rattle.slots.specs.Slots.{marked, entered}
use Rattle.slots.proofs.Slots.{within, found-within}
use Rattle.slots.proofs.note.Goals as goal
use Rattle.slots.proofs.note.Goals.{In-Some}

-- a slot that is found is one of the table
slot-in-table : (c : In-Some) → c.in-Some.slot < 12288
slot-in-table c = omega (arith, found-within _ _ _ _ (sym c.in-Some.ensures), within c.args.many c.args.h, c.slot_of.ensures)

pub offset_bounds-table-slot : goal.offset_bounds-table-slot
offset_bounds-table-slot c = omega (arith, slot-in-table (goal.at.offset_bounds-table-slot c).In-Some)

pub bounds-table-slot : goal.bounds-table-slot
bounds-table-slot c = slot-in-table (goal.at.bounds-table-slot c).In-Some

pub returns-in-Some : goal.returns-in-Some
unfolding entered marked
returns-in-Some c = rw (← c.slot_of.ensures, ← c.in-Some.ensures, c.mark_of.ensures)

pub returns-in_default : goal.returns-in_default
unfolding entered marked
returns-in_default c = rw (← c.slot_of.ensures, ← c.in_default.ensures)
