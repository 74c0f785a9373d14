-- `walking::count_tags`: those counted, and those from here on, are those from the start on. Assumes nothing.
use Prim.Native.Nat.{◌+◌, ◌-◌, ◌≤◌}
use mathlib.Core.Path.{◌≡◌}
use lib.ListN.{length}
use Rattle.gaps.specs.Gaps.{gap_end}
use Rattle.walking.specs.Walk.{names_from}
use Rattle.walking.proofs.count_tags.Given as goal

abbrev pub invariant-loop-at : goal.invariant-loop-at
invariant-loop-at l =
    (l.at ≤ length l.s) × (gap_end l.s l.at ≡ l.at) × (l.count ≤ l.at) × (l.count + length (names_from l.reading l.s l.at) ≡ length (names_from l.reading l.s l.from))

abbrev pub decreases-loop-at : goal.decreases-loop-at
decreases-loop-at l = length l.s - l.at
