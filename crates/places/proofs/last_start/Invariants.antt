-- `places::last_start`: backwards, byte by byte. Assumes nothing.
use Rattle.std.proofs.Common.{◌≡◌, ◌≤◌, ◌-◌}
use Rattle.places.specs.Lines.{last_start}
use Rattle.places.proofs.last_start.Given as goal

-- the last line of the whole part begins where that of the part up to here begins
abbrev pub invariant-loop-i : goal.invariant-loop-i
invariant-loop-i l = (l.from ≤ l.i) × (last_start (l.to - l.from) l.s l.from ≡ last_start (l.i - l.from) l.s l.from)
