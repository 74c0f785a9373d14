-- `frames::is_single`: the blocks counted, with those from here on, are all. Assumes nothing.
use Rattle.std.proofs.Common.{ℕ, sym, ap, ◌∙◌, arith}
use Rattle.std.specs.Prelude.{eqb}
use Rattle.frames.proofs.Frames.{blocks-first, blocks-none, blocks-next, blocks-few}
use Rattle.frames.proofs.is_single.Goals as goal

pub loop-entry-init : goal.loop-entry-init
loop-entry-init c = (omega arith, blocks-first _ 0 0)

pub overflow_add-blocks : goal.overflow_add-blocks
overflow_add-blocks c =
    let here = c.loop-entry in
    omega (arith, blocks-few _ here.at here.blocks _ (sym c.in-Some.ensures) _ (c.block_in-blocks.ensures ∙ rw c.number.ensures) here.invariant.0)

pub loop-entry-smaller : goal.loop-entry-smaller
loop-entry-smaller c =
    let here = c.loop-entry in
    omega (arith, blocks-few _ here.at here.blocks _ (sym c.in-Some.ensures) _ (c.block_in-blocks.ensures ∙ rw c.number.ensures) here.invariant.0)

pub loop-entry-preserved : goal.loop-entry-preserved
loop-entry-preserved c =
    let here = c.loop-entry in (
      (blocks-few _ here.at here.blocks _ (sym c.in-Some.ensures) _ (c.block_in-blocks.ensures ∙ rw c.number.ensures) here.invariant.0).0,
      here.invariant.1 ∙ ap (λ (n : ℕ). eqb n 1) (blocks-next _ here.at here.blocks _ (sym c.in-Some.ensures) _ (c.block_in-blocks.ensures ∙ rw c.number.ensures)),
    )

pub returns : goal.returns
returns c =
    let here = c.loop-entry in
    blocks-none _ here.at here.blocks (sym c.in_default.ensures) ∙ sym here.invariant.1
