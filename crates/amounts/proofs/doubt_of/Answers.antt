-- `amounts::doubt_of`. Assumes nothing.
use native.Mathlib.Omega.{arith}
use Rattle.amounts.specs.Sizes.{doubt_of}
use Rattle.amounts.proofs.Laws.{raised_below}
use Rattle.amounts.proofs.doubt_of.Goals as goal

pub overflow_add-result : goal.overflow_add-result
overflow_add-result c = let b = raised_below c.args.parts.exponent in omega arith

pub returns : goal.returns
unfolding doubt_of
returns c = rw (c.from.ensures, c.raised.ensures, c.from-2.ensures)
