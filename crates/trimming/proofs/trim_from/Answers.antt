-- `trimming::trim_from`: the three numbers that are lent are the place that is asked. Assumes nothing.
use borrow.Author.Rules.{rules}
use Rattle.trimming.specs.Placed.{placed}
use Rattle.trimming.proofs.trim_from.Goals as goal

pub skip_on-requires : goal.skip_on-requires
unfolding placed
skip_on-requires c = search rules
