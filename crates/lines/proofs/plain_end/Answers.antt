-- `lines::plain_end`: by blocks, then byte by byte. Assumes nothing.
use Rattle.std.proofs.Common.{sym, ◌∙◌, arith, rules}
use Rattle.text.specs.Bytes.{is_ascii}
use Rattle.text.specs.Runs.{Tells}
use Rattle.text.proofs.Runs.{span-block}
use Rattle.lines.specs.Lines.{is_plain, no_control}
use Rattle.lines.proofs.Lines.{plain-start}
use Rattle.lines.proofs.plain_end.Goals as goal

pub loop-at-init : goal.loop-at-init
loop-at-init c = plain-start _

pub overflow_add-at : goal.overflow_add-at
overflow_add-at c = omega (arith, c.is_plain_block.ensures.fits c.loop-at-test.true)

pub loop-at-smaller : goal.loop-at-smaller
loop-at-smaller c = omega (arith, c.is_plain_block.ensures.fits c.loop-at-test.true)

pub loop-at-preserved : goal.loop-at-preserved
loop-at-preserved c = c.loop-at.invariant ∙ span-block _ _ _ 32 (sym c.is_plain_block.ensures.plain ∙ c.loop-at-test.true)

pub returns : goal.returns
unfolding Tells is_plain is_ascii no_control
returns c = c.run_end.ensures is_plain (λ b r h. search rules) ∙ sym c.loop-at.invariant
