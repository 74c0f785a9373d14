-- `quotes::parse_quoted`: from mark to mark, to one that closes. Assumes nothing.
use Prim.Native.Nat.{◌-◌}
use mathlib.Core.Path.{◌≡◌}
use lib.ListN.{length}
use Rattle.quotes.specs.Answers.{quote_end}
use Rattle.quotes.proofs.parse_quoted.Given as goal

-- the closing from the start on is the closing from here on
abbrev pub invariant-loop-end : goal.invariant-loop-end
invariant-loop-end l = quote_end l.reading l.mark l.s l.from ≡ quote_end l.reading l.mark l.s l.at

abbrev pub decreases-loop-end : goal.decreases-loop-end
decreases-loop-end l = length l.s - l.at
