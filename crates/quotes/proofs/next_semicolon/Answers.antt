-- `quotes::next_semicolon`: the run of other bytes. Assumes nothing.
use Rattle.std.proofs.Common.{rules}
use Rattle.text.specs.Bytes.{is}
use Rattle.text.specs.Runs.{Tells, Within}
use Rattle.text.specs.Blocks.{clear}
use Rattle.quotes.proofs.next_semicolon.Goals as goal

pub returns : goal.returns
unfolding Tells Within clear is
returns c = c.long_run_end.ensures (clear 0 59) (clear 0 59) (λ b r h. search rules) (λ b r h. search rules) (λ b e. e)
