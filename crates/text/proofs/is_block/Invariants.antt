-- `text::is_block`: whether all of the first bytes of a block pass. Assumes nothing.
use Rattle.std.proofs.Common.{◌≡◌, ℕ, Bool}
use Rattle.text.specs.Runs.{runs, Tells}
use Rattle.text.proofs.is_block.Given as goal

abbrev pub invariant-loop-b : goal.invariant-loop-b
invariant-loop-b g l = (p : ℕ → Bool) → Tells (goal.P-post g l.passes) p → l.all ≡ runs p l.b-index l.s l.at
