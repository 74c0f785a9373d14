-- `deciding::parse_data_block`: up to here records of these sizes are kept, and the blocks' answer is what is still answered from here. Assumes nothing.
use Prim.Native.Nat.{◌*◌}
use native.Mathlib.Omega.{arith}
use Rattle.std.proofs.lemmas.Result.{err_from_is_err_and}
use Rattle.text.specs.Limits.{limit}
use Rattle.decisions.proofs.Onward.{heading-read, heading-lost, stepped-read, stepped-refused}
use Rattle.deciding.proofs.Blocks.{block-begins, block-misnamed, block-goes-on, block-ends, block_refused}
use Rattle.sizes.proofs.Room.{upto-more}
use Rattle.deciding.proofs.parse_data_block.Goals as goal

pub returns-in_err-step : goal.returns-in_err-step
returns-in_err-step c =
    let p = c.requires in
    let a = c.args in
    let e = err_from_is_err_and c.from_residual.result c.from_residual.ensures.1 in
    let h = heading-lost a.reading a.s.now 1 a.start _ _ c.parse_heading.ensures c.in_err-step.was in
    rw (e.1, e.2, h.1) (block-misnamed _ _ _ p.0.none p.1 h.0)

pub loop-step-init : goal.loop-step-init
loop-step-init c =
    let p = c.requires in
    let a = c.args in
    let h = heading-read a.reading a.s.now 1 a.start _ _ c.parse_heading.ensures c.in_ok-step.was in
    rw (h.next, h.sizes, h.reason) (block-begins _ _ _ p.0.none p.1 h.fits)

pub returns-in_err-step-2 : goal.returns-in_err-step-2
returns-in_err-step-2 c =
    let l = c.loop-step in
    let a = c.args in
    let e = err_from_is_err_and c.from_residual-in_err-step-2.result c.from_residual-in_err-step-2.ensures.1 in
    rw (e.1, e.2)
    (block_refused a.reading a.s.now a.start l.step.next l.sizes l.step.reason _ l.invariant (stepped-refused a.reading l.step.reason a.s.now l.step.next _ _ c.parse_data_item_or_save_frame.ensures c.in_err-step-2.was))

pub add_assign-requires : goal.add_assign-requires
unfolding limit
add_assign-requires c =
    let l = c.loop-step in
    let a = c.args in
    let small = c.requires.0.small in
    let r = stepped-read a.reading l.step.reason a.s.now l.step.next _ _ c.parse_data_item_or_save_frame.ensures c.in_ok-step-2.was in
    (upto-more _ (limit * limit) _ l.invariant.fits (omega (arith, l.invariant.within, small)), upto-more _ (limit * limit) _ r.fits (omega (arith, r.within, small)))

pub loop-step-smaller : goal.loop-step-smaller
loop-step-smaller c =
    let l = c.loop-step in
    let a = c.args in
    let r = stepped-read a.reading l.step.reason a.s.now l.step.next _ _ c.parse_data_item_or_save_frame.ensures c.in_ok-step-2.was in
    omega (arith, r.onward, r.within)

pub loop-step-preserved : goal.loop-step-preserved
loop-step-preserved c =
    let l = c.loop-step in
    let a = c.args in
    let r = stepped-read a.reading l.step.reason a.s.now l.step.next _ _ c.parse_data_item_or_save_frame.ensures c.in_ok-step-2.was in
    rw c.add_assign.ensures.after (block-goes-on a.reading a.s.now a.start l.step.next _ _ _ l.step.reason _ l.invariant r)

pub returns : goal.returns
returns c = block-ends _ _ _ c.loop-step.step.next c.loop-step.sizes c.loop-step.step.reason c.loop-step.invariant c.loop-step-test.false
