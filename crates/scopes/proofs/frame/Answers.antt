-- `scopes::frame`: the names of the frame, each other than the rest. Assumes nothing.
use Rattle.std.proofs.Common.{refl}
use Rattle.scopes.proofs.Scopes.{framed}
use Rattle.scopes.proofs.frame.Goals as goal

pub returns : goal.returns
returns c = framed _ _ _ _ c.stretch-end.ensures refl c.compare.ensures
