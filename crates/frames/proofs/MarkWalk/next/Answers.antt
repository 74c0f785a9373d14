-- The walk over frames: the frames from where a step began are those from here on. Assumes nothing.
use Rattle.std.proofs.Common.{sym, ◌∙◌, arith}
use Rattle.naming.specs.Search.{Tells}
use Rattle.frames.specs.Frames.{Counted}
use Rattle.frames.proofs.Frames.{walking-first, walking-end, walking-other, walking-frame, onwards}
use Rattle.frames.proofs.MarkWalk.next.Goals as goal

pub loop-entry-init : goal.loop-entry-init
loop-entry-init c = walking-first _ _ _ c.requires

pub overflow_add-after : goal.overflow_add-after
unfolding Counted
overflow_add-after c =
    let here = c.loop-entry.invariant in
    omega (arith, here.counted.1, onwards _ _ _ _ _ here (sym c.in-Some.ensures))

pub overflow_add-count : goal.overflow_add-count
unfolding Counted
overflow_add-count c =
    let here = c.loop-entry.invariant in
    omega (arith, here.counted.0, here.counted.1, onwards _ _ _ _ _ here (sym c.in-Some.ensures))

pub returns-then-number-eq-FRAME_OPEN : goal.returns-then-number-eq-FRAME_OPEN
unfolding Tells
returns-then-number-eq-FRAME_OPEN c = walking-frame _ _ _ _ _ c.loop-entry.invariant (sym c.in-Some.ensures) _ c.bytes_at.ensures (sym c.number.ensures ∙ c.if-number-eq-FRAME_OPEN.true)

pub loop-entry-smaller : goal.loop-entry-smaller
loop-entry-smaller c = omega (arith, onwards _ _ _ _ _ c.loop-entry.invariant (sym c.in-Some.ensures))

pub loop-entry-preserved : goal.loop-entry-preserved
loop-entry-preserved c = walking-other _ _ _ _ _ c.loop-entry.invariant (sym c.in-Some.ensures) (λ q. c.if-number-eq-FRAME_OPEN.false (c.number.ensures ∙ q))

pub returns : goal.returns
returns c = walking-end _ _ _ _ c.loop-entry.invariant (sym c.in_default.ensures)
