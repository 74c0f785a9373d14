-- `gaps::spaces_end`: the run of space bytes. Assumes nothing.
use Rattle.std.proofs.Common.{rules}
use Rattle.text.specs.Bytes.{is}
use Rattle.text.specs.Runs.{Tells}
use Rattle.gaps.proofs.spaces_end.Goals as goal

pub returns : goal.returns
unfolding Tells is
returns c = c.run_end.ensures (is 32) (λ b r h. search rules)
