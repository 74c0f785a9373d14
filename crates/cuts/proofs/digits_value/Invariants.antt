-- `cuts::digits_value`: the number so far is the one that the digits so far write, so it stays below 10 to the power of their count. Assumes nothing.
use Rattle.std.proofs.Common.{◌+◌, ◌≡◌}
use Rattle.cuts.specs.Digits.{value, piece}
use Rattle.cuts.proofs.digits_value.Given as goal

abbrev pub invariant-loop-b : goal.invariant-loop-b
invariant-loop-b l = l.v ≡ value (piece l.w l.from (l.from + l.b-index))
