-- `places::advance_by_line`: line by line, each line end byte by byte. Assumes nothing.
use Prim.Native.Nat.{◌-◌, ◌≤◌}
use lib.ListN.{length, get_or}
use Rattle.places.specs.Places.{scan_at}
use Rattle.places.proofs.Places.{Like}
use Rattle.places.proofs.advance_by_line.Given as goal

-- c is the scan so far
abbrev pub invariant-loop-at : goal.invariant-loop-at
invariant-loop-at l = (l.at ≤ l.to) × (l.to ≤ length l.s) × Like l.c (scan_at l.s l.at) (get_or l.s l.at 0)

abbrev pub decreases-loop-at : goal.decreases-loop-at
decreases-loop-at l = l.to - l.at
