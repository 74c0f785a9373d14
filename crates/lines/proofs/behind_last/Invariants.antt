-- `lines::behind_last`: from the end back, by blocks, then byte by byte. Assumes nothing.
use Rattle.std.proofs.Common.{◌≡◌, ◌≤◌, ◌-◌}
use Rattle.lines.specs.Ends.{behind_last}
use Rattle.lines.proofs.behind_last.Given as goal

-- the last line end of all is the last of the first n
abbrev pub invariant-loop-n : goal.invariant-loop-n
invariant-loop-n l = (l.n ≤ l.count) × (behind_last l.s l.from l.count ≡ behind_last l.s l.from l.n)

abbrev pub decreases-loop-n : goal.decreases-loop-n
decreases-loop-n l = l.n

abbrev pub invariant-loop-i : goal.invariant-loop-i
invariant-loop-i l = (l.from ≤ l.i) × (behind_last l.s l.from l.count ≡ behind_last l.s l.from (l.i - l.from))
