-- `gaps::comments_end`: over space bytes, and over a comment to its line's end. Assumes nothing.
use Rattle.std.proofs.Common.{◌≡◌, ◌-◌, length}
use Rattle.gaps.specs.Gaps.{gap_end}
use Rattle.gaps.proofs.comments_end.Given as goal

-- the end from the start on is the end from here on
abbrev pub invariant-loop-at : goal.invariant-loop-at
invariant-loop-at l = gap_end l.s l.from ≡ gap_end l.s l.at

abbrev pub decreases-loop-at : goal.decreases-loop-at
decreases-loop-at l = length l.s - l.at
