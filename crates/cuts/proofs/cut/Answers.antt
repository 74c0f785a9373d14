-- `numbers::cut`: each cut is what its callee says. Assumes nothing.
use Rattle.cuts.specs.Cuts.{cuts_of}
use Rattle.cuts.proofs.cut.Goals as goal

pub returns : goal.returns
unfolding cuts_of
returns c = cc
