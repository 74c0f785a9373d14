-- `lines::plain_end`: by blocks, then byte by byte. Assumes nothing.
use Rattle.std.proofs.Common.{◌≡◌, ◌-◌, length}
use Rattle.text.specs.Runs.{span, span_end}
use Rattle.lines.specs.Lines.{is_plain}
use Rattle.lines.proofs.plain_end.Given as goal

-- the run from the start on ends where the run from here on ends
abbrev pub invariant-loop-at : goal.invariant-loop-at
invariant-loop-at l = span is_plain l.s ≡ span_end is_plain l.s l.at

abbrev pub decreases-loop-at : goal.decreases-loop-at
decreases-loop-at l = length l.s - l.at
