-- `cuts::digits_end`: the run of digits. Assumes nothing.
use Rattle.std.proofs.Common.{rules}
use Rattle.text.specs.Bytes.{is_digit}
use Rattle.text.specs.Runs.{Tells}
use Rattle.cuts.specs.Digits.{digits_end}
use Rattle.cuts.proofs.digits_end.Goals as goal

pub returns : goal.returns
unfolding Tells digits_end
returns c = c.run_end.ensures is_digit (λ b r h. search rules)
