-- `text::ascii_end`: by blocks, then byte by byte. Assumes nothing.
use Rattle.std.proofs.Common.{◌∙◌, zero-add, rules}
use Rattle.text.specs.Bytes.{is_ascii}
use Rattle.text.specs.Runs.{span_end, Tells, Within}
use Rattle.text.proofs.ascii_end.Goals as goal

pub returns : goal.returns
unfolding span_end is_ascii Tells Within
returns c = c.long_run_end.ensures is_ascii is_ascii (λ b r h. search rules) (λ b r h. search rules) (λ b e. e) ∙ zero-add _
