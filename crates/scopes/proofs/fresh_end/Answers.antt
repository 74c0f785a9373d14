-- `scopes::fresh_end`: block after block, no name before here is the same as another. Assumes nothing.
use Rattle.std.proofs.Common.{refl, sym, ◌∙◌, arith}
use Rattle.steps.proofs.Steps.{met}
use Rattle.scopes.proofs.Scopes.{blocks-first, fresh-more, blocks_more, meets-within}
use Rattle.scopes.proofs.fresh_end.Goals as goal

pub loop-after-init : goal.loop-after-init
loop-after-init c = blocks-first _ _ _ c.start-here.ensures

pub returns-then-last-end : goal.returns-then-last-end
returns-then-last-end c =
    let last = c.compare-last.ensures in
    fresh-more _ _ _ _ _ _ _ _ c.loop-after.invariant (sym c.is_behind.ensures ∙ c.if-not-is_behind.false) c.frames-all.ensures refl last.walked last.apart

pub loop-after-smaller : goal.loop-after-smaller
loop-after-smaller c = omega (arith, c.if-end-here.false, meets-within _ _ _ _ _ c.loop-after.invariant.fresh.reached (met _ _ _ c.in-Some.field-0 c.in-Some.ensures))

pub loop-after-preserved : goal.loop-after-preserved
loop-after-preserved c =
    let last = c.compare-last.ensures in
    blocks_more _ _ _ _ _ _ _ _ c.loop-after.invariant (sym c.is_behind.ensures ∙ c.if-not-is_behind.false) c.frames-all.ensures refl last.walked last.apart c.if-last-end.false
