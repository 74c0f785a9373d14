-- `sizes::Sizes::add`: length by length. Assumes nothing.
use mathlib.Core.Path.{refl}
use native.Mathlib.Omega.{arith}
use Rattle.text.specs.Limits.{limit}
use Rattle.sizes.specs.Sizes.{joined}
use Rattle.sizes.proofs.SizesAdd.add.Goals as goal

pub overflow_add-result : goal.overflow_add-result
unfolding limit
overflow_add-result c = omega arith

pub overflow_add-result-2 : goal.overflow_add-result-2
unfolding limit
overflow_add-result-2 c = omega arith

pub overflow_add-result-3 : goal.overflow_add-result-3
unfolding limit
overflow_add-result-3 c = omega arith

pub returns : goal.returns
unfolding joined
returns c = refl
