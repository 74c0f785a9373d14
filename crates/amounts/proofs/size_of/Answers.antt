-- `amounts::size_of`. Assumes nothing.
use native.Mathlib.Omega.{arith}
use Rattle.amounts.specs.Sizes.{size_of}
use Rattle.amounts.proofs.Laws.{fraction-fits}
use Rattle.amounts.proofs.size_of.Goals as goal

pub overflow_mul-result : goal.overflow_mul-result
overflow_mul-result c =
    let p = c.args.parts in
    let k = c.requires in
    rw c.ten_to.ensures (let f = fraction-fits p.fraction p.places k.fraction k.places in omega arith)

pub returns : goal.returns
unfolding size_of
returns c = rw (c.from.ensures, c.ten_to.ensures, c.raised.ensures)
