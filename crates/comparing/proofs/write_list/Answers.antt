-- `comparing::write_list`: the old store's entries, then the new one's. Assumes nothing.
use native.Mathlib.Omega.{arith}
use Rattle.comparing.proofs.Answers.{needs-within, lacks-room, has_room, second-room}
use Rattle.comparing.proofs.write_list.Goals as goal

pub overflow_add-needed : goal.overflow_add-needed
overflow_add-needed c = omega (arith, needs-within _ _ _ _ _ _ c.count_side-first.ensures c.count_side-second.ensures, c.ranges.old, c.ranges.new)

pub returns-then-list-needed : goal.returns-then-list-needed
returns-then-list-needed c = lacks-room _ _ _ _ _ _ c.count_side-first.ensures c.count_side-second.ensures _ c.if-list-needed.true

pub write_side-requires-2 : goal.write_side-requires-2
write_side-requires-2 c =
    (c.requires.1, second-room _ _ _ _ _ _ c.count_side-first.ensures c.count_side-second.ensures _ _ c.if-list-needed.false c.write_side.ensures)

pub returns : goal.returns
returns c = has_room _ _ _ _ _ _ c.count_side-first.ensures c.count_side-second.ensures _ _ _ c.if-list-needed.false c.write_side.ensures c.write_side-2.ensures
