-- `quotes::parse_multiline_string`: from `;` to `;`, to one behind a line end. Assumes nothing.
use Prim.Native.Nat.{◌-◌, ◌≤◌}
use mathlib.Core.Path.{◌≡◌}
use lib.ListN.{length}
use Rattle.quotes.specs.Answers.{field_end}
use Rattle.quotes.proofs.Quotes.{field_past}
use Rattle.quotes.proofs.parse_multiline_string.Given as goal

-- the closing from the start on is the closing from here on
abbrev pub invariant-loop-at : goal.invariant-loop-at
invariant-loop-at l = (l.from ≤ l.at) × (field_end l.s l.from ≡ field_past l.s l.from l.at)

abbrev pub decreases-loop-at : goal.decreases-loop-at
decreases-loop-at l = length l.s - l.at
