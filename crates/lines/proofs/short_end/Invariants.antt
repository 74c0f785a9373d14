-- `lines::short_end`: over as many lines as there is room for bytes, to one that is too long or the text's end.
-- Assumes nothing.
use Prim.Native.Nat.{◌-◌, ◌≤◌}
use mathlib.Core.Path.{◌≡◌}
use lib.ListN.{length}
use Rattle.lines.specs.Lines.{short}
use Rattle.lines.proofs.Lines.{short_at}
use Rattle.lines.proofs.short_end.Given as goal

-- what is looked for from the start on is what is looked for from here on, with so much room on this line
abbrev pub invariant-loop-at : goal.invariant-loop-at
invariant-loop-at l = (l.at ≤ length l.s) × (l.room ≤ 2048) × (short l.column l.s ≡ short_at (2048 - l.room) l.s l.at)

abbrev pub decreases-loop-at : goal.decreases-loop-at
decreases-loop-at l = length l.s - l.at
