-- `cuts::digits_at`: the number so far is the one that the digits so far write, and the loop goes on over digits. Assumes nothing.
use Rattle.std.proofs.Common.{◌≡◌, ◌-◌, ◌≤◌, length}
use Rattle.cuts.specs.Digits.{value, piece, digits_end}
use Rattle.cuts.proofs.digits_at.Given as goal

-- the digits from the start on end where those from here on end
abbrev pub invariant-loop-end : goal.invariant-loop-end
invariant-loop-end l = (l.from ≤ l.end) × (digits_end l.w l.from ≡ digits_end l.w l.end) × (l.value ≡ value (piece l.w l.from l.end))

abbrev pub decreases-loop-end : goal.decreases-loop-end
decreases-loop-end l = length l.w - l.end
