-- `numerals::put_digits` meets its contract: where the loop stands, all but the first digits are written, and those are the last of what is left. Assumes nothing.
use Prim.Native.Nat.{◌+◌}
use mathlib.Core.Path.{◌≡◌}
use mathlib.Core.List.{◌++◌}
use lib.ListN.{drop}
use Rattle.numbers.specs.Spelling.{padded}
use Rattle.records.specs.Put.{put}
use Rattle.numerals.proofs.put_digits.Given as goal

abbrev pub invariant-loop-left : goal.invariant-loop-left
invariant-loop-left l = (padded l.count l.n ≡ padded l.left l.rest ++ drop l.left (padded l.count l.n)) × (l.out ≡ put (l.at + l.left) (drop l.left (padded l.count l.n)) l.initial.out)
