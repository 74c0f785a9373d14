-- `text::long_run_end`: by blocks, then byte by byte. Assumes nothing.
use Rattle.std.proofs.Common.{sym, ◌∙◌, arith}
use Rattle.text.proofs.Blocks.{block-within}
use Rattle.text.proofs.long_run_end.Goals as goal

pub overflow_add-at : goal.overflow_add-at
overflow_add-at g c = omega (arith, c.is_block.ensures.fits c.loop-at-test.true)

pub loop-at-smaller : goal.loop-at-smaller
loop-at-smaller g c = omega (arith, c.is_block.ensures.fits c.loop-at-test.true)

pub loop-at-preserved : goal.loop-at-preserved
loop-at-preserved g c = λ q p t w. c.loop-at.invariant q p t w ∙ block-within q p w _ _ _ (sym (c.is_block.ensures.passed q t) ∙ c.loop-at-test.true)
