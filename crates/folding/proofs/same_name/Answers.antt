-- `folding::same_name`: as the library tells. Assumes nothing.
use lib.Seq.{take-length}
use Rattle.std.proofs.Common.{rules}
use Rattle.folding.proofs.Same.{same-cut}
use Rattle.folding.proofs.same_name.Goals as goal

pub returns : goal.returns
returns c = same-cut _ _ _ _ _ (search (rules, take-length)) (search (rules, take-length)) c.eq_ignore_ascii_case.ensures.test
