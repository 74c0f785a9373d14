-- `places::line_end`: the run of bytes that end no line. Assumes nothing.
use Rattle.std.proofs.Common.{sym, ◌∙◌, rules}
use Rattle.text.specs.Runs.{Tells}
use Rattle.text.specs.Blocks.{clear}
use Rattle.places.specs.Lines.{in_line}
use Rattle.places.proofs.Lines.{line-run, clear-in-line}
use Rattle.places.proofs.line_end.Goals as goal

pub returns : goal.returns
unfolding Tells in_line
returns c = c.long_run_end.ensures (clear 14 0) in_line (λ b r h. search rules) (λ b r h. search rules) clear-in-line ∙ sym (line-run _ _)
