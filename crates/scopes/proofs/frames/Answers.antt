-- `scopes::frames`: from where the block began to here, its frames' names are other than each other. Assumes nothing.
use Rattle.std.proofs.Common.{arith}
use Rattle.steps.proofs.Steps.{met}
use Rattle.scopes.proofs.Scopes.{framing-first, framing-block, framing-frame, meets-within}
use Rattle.scopes.proofs.frames.Goals as goal

pub loop-name-init : goal.loop-name-init
loop-name-init c = framing-first _ _ _ _ c.requires

pub returns-in_default : goal.returns-in_default
returns-in_default c = framing-block _ _ _ _ _ _ _ c.loop-name.invariant c.stretch-first.ensures

pub returns-in_default-2 : goal.returns-in_default-2
returns-in_default-2 c = framing-block _ _ _ _ _ _ _ c.loop-name.invariant c.stretch-first.ensures

pub returns-in_default-3 : goal.returns-in_default-3
returns-in_default-3 c = framing-block _ _ _ _ _ _ _ c.loop-name.invariant c.stretch-first.ensures

pub returns-then-last-first : goal.returns-then-last-first
returns-then-last-first c = framing-block _ _ _ _ _ _ _ c.loop-name.invariant c.stretch-first.ensures

pub loop-name-smaller : goal.loop-name-smaller
loop-name-smaller c =
    let first = c.stretch-first.ensures in
    omega (arith, c.if-last-first.false, first.onwards, meets-within _ _ _ _ _ first.reached (met _ _ _ c.in-Some.field-0 c.in-Some.ensures))

pub loop-name-preserved : goal.loop-name-preserved
loop-name-preserved c = framing-frame _ _ _ _ _ _ _ _ (framing-block _ _ _ _ _ _ _ c.loop-name.invariant c.stretch-first.ensures) (omega arith) c.frame-last.ensures
