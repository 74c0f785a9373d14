-- `desk::token_at`: the three numbers and the length fit their fields. Assumes nothing.
use mathlib.Core.Path.{refl}
use Rattle.desk.specs.Written.{token_at}
use Rattle.desk.proofs.token_at.Goals as goal

pub returns : goal.returns
unfolding token_at
returns c = refl
