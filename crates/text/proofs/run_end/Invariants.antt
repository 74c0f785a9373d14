-- `text::run_end`: the run of bytes that pass. Assumes nothing.
use Rattle.std.proofs.Common.{length, ◌-◌, ◌≡◌, ℕ, Bool}
use Rattle.text.specs.Runs.{span_end, Tells}
use Rattle.text.proofs.run_end.Given as goal

-- the run from the start on ends where the run from here on ends
abbrev pub invariant-loop-at : goal.invariant-loop-at
invariant-loop-at g l = (p : ℕ → Bool) → Tells (goal.P-post g l.passes) p → span_end p l.s l.from ≡ span_end p l.s l.at

abbrev pub decreases-loop-at : goal.decreases-loop-at
decreases-loop-at g l = length l.s - l.at
