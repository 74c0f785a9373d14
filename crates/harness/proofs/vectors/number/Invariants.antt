-- `harness::vectors::number`: what is left is the text from an offset on. Assumes nothing.
use Rattle.std.proofs.Common.{ℕ, ◌≡◌, ◌≤◌, drop, length}
use Rattle.harness.proofs.vectors.number.Given as goal

abbrev pub invariant-loop-rest : goal.invariant-loop-rest
invariant-loop-rest l = (n : ℕ) × (n ≤ length l.s) × (l.rest ≡ drop n l.s)

abbrev pub decreases-loop-rest : goal.decreases-loop-rest
decreases-loop-rest l = length l.rest
