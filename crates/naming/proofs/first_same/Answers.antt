-- `naming::first_same`: the first among all so many names is the first among those that are left. Assumes nothing.
use Rattle.std.proofs.Common.{sym, ◌∙◌}
use Rattle.naming.proofs.Repeats.{seek-first, seek-over, seek-end, seek-hit, seek-miss}
use Rattle.naming.proofs.first_same.Goals as goal

pub loop-passed-init : goal.loop-passed-init
loop-passed-init g c = seek-first _ _ _ _ _ _ c.requires

pub next-requires : goal.next-requires
next-requires g c = c.loop-passed.invariant.come

pub returns-in_err-met : goal.returns-in_err-met
returns-in_err-met g c = c.from_residual.ensures ∙ seek-end _ _ _ _ _ _ _ _ c.loop-passed.invariant c.in_err-met.ensures

pub returns-then-same_both : goal.returns-then-same_both
returns-then-same_both g c = seek-hit _ _ _ _ _ _ _ _ c.in_ok-met.met c.loop-passed.invariant c.in_ok-met.ensures c.loop-passed-test.true (sym c.same_both.ensures ∙ c.if-same_both.true)

pub loop-passed-preserved : goal.loop-passed-preserved
loop-passed-preserved g c =
    seek-miss _ _ _ _ _ _ _ _ c.in_ok-met.met c.loop-passed.invariant c.in_ok-met.ensures c.loop-passed-test.true (sym c.same_both.ensures ∙ c.if-same_both.false)

pub returns : goal.returns
returns g c = seek-over _ _ _ _ _ _ _ _ c.loop-passed.invariant c.loop-passed-test.false
