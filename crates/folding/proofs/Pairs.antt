-- The worked pairs of names are alike and apart as they should be, by computing. Assumes nothing.
use mathlib.Core.Path.{◌≡◌, refl}
use mathlib.Core.Bool.{true}
use Rattle.folding.specs.Folding.{lower, folded, equal_bytes, same_name}
use Rattle.folding.specs.Pairs.{alike, apart}

pub pairs-hold : (alike ≡ true) × (apart ≡ true)
unfolding alike apart same_name equal_bytes folded lower
pairs-hold = (refl, refl)
