-- `lines::is_plain_block`: by either test. Assumes nothing.
use Rattle.std.proofs.Common.{sym, ◌∙◌, rules}
use Rattle.text.specs.Runs.{Tells}
use Rattle.lines.specs.Lines.{is_plain, is_printed}
use Rattle.lines.proofs.Lines.{lined-plain, printed-plain, runs-wider, runs_same}
use Rattle.lines.proofs.is_plain_block.Goals as goal

pub returns-then-is_block-clause-plain : goal.returns-then-is_block-clause-plain
unfolding Tells
returns-then-is_block-clause-plain c =
    let first = sym (c.is_block.ensures.passed (is_printed 10 10) (λ b r h. search rules)) ∙ c.if-is_block.true in
    c.if-is_block.true ∙ sym (runs-wider (is_printed 10 10) is_plain lined-plain 32 _ _ first)

pub returns-else-is_block-clause-plain : goal.returns-else-is_block-clause-plain
unfolding Tells
returns-else-is_block-clause-plain c = c.is_block-else-is_block.ensures.passed (is_printed 9 13) (λ b r h. search rules) ∙ runs_same (is_printed 9 13) is_plain printed-plain 32 _ _
