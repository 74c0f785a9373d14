-- `numbers::nowhere`: every offset is the one that it is given. Assumes nothing.
use mathlib.Core.Path.{refl}
use Rattle.cuts.specs.Cuts.{nowhere}
use Rattle.cuts.proofs.nowhere.Goals as goal

pub returns : goal.returns
unfolding nowhere
returns c = refl
