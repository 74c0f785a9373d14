-- `lines::ends_no_line`: each byte is above those of line ends. Assumes nothing.
use Rattle.std.proofs.Common.{rules}
use Rattle.text.specs.Runs.{Tells}
use Rattle.text.specs.Blocks.{clear}
use Rattle.lines.proofs.ends_no_line.Goals as goal

pub returns : goal.returns
unfolding Tells
returns c = c.is_block.ensures.passed (clear 14 0) (λ b r h. search rules)
