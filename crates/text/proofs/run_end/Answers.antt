-- `text::run_end`: the run of bytes that pass. Assumes nothing.
use Rattle.std.proofs.Common.{sym, ◌∙◌, arith}
use Rattle.text.proofs.Runs.{span-go, span-stop, span-over}
use Rattle.text.specs.Runs.{Tells}
use Rattle.text.proofs.run_end.Goals as goal
use Rattle.text.proofs.run_end.Goals.{then-loop-at-test+else-passes, else-loop-at-test}

pub loop-at-preserved : goal.loop-at-preserved
unfolding Tells
loop-at-preserved g c = λ p t. c.loop-at.invariant p t ∙ span-go _ _ _ (omega arith) (sym (t _ _ c.passes.ensures) ∙ c.if-passes.true)

pub returns : goal.returns
unfolding Tells
returns g c = λ p t. sym (c.loop-at.invariant p t ∙ elim c.loop-at-test.branch [
  | then-loop-at-test+else-passes w ↦ span-stop _ _ _ (omega arith) (sym (t _ _ w.passes.ensures) ∙ w.if-passes.false)
  | else-loop-at-test w ↦ span-over _ _ _ (omega arith)
])
