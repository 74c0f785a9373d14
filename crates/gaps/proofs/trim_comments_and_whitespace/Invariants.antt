-- `gaps::trim_comments_and_whitespace`: over spaces, with the place so far, to the first comment. Assumes nothing.
use Prim.Native.Nat.{◌-◌, ◌≤◌}
use mathlib.Core.Path.{◌≡◌}
use lib.ListN.{length, get_or}
use Rattle.gaps.specs.Gaps.{gap_end}
use Rattle.places.specs.Places.{scan_at}
use Rattle.places.proofs.Places.{Like}
use Rattle.gaps.proofs.trim_comments_and_whitespace.Given as goal

-- the end from the start on is the end from here on, and c is the scan so far
abbrev pub invariant-loop-at : goal.invariant-loop-at
invariant-loop-at l = (l.at ≤ length l.s) × (gap_end l.s l.initial.at ≡ gap_end l.s l.at) × Like l.c (scan_at l.s l.at) (get_or l.s l.at 0)

abbrev pub decreases-loop-at : goal.decreases-loop-at
decreases-loop-at l = length l.s - l.at
