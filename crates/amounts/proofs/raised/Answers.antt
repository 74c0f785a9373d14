-- `amounts::raised`. Assumes nothing.
use Rattle.amounts.specs.Exact.{raised}
use Rattle.amounts.proofs.raised.Goals as goal

pub returns : goal.returns
unfolding raised
returns c = rw c.from.ensures
