-- `records::signed`: by its test. Assumes nothing.
use native.Mathlib.Omega.{arith}
use Rattle.records.specs.Bytes.{signed32}
use Rattle.records.proofs.Forms.{negated}
use Rattle.records.proofs.signed.Goals as goal

pub returns-then-minus : goal.returns-then-minus
unfolding signed32
returns-then-minus c =
    rw c.if-minus.true (negated c.wrapping_neg.result c.args.size c.wrapping_neg.ensures c.wrapping_neg.type_inv (omega (arith, c.ranges.size)))

pub returns-else-minus : goal.returns-else-minus
unfolding signed32
returns-else-minus c = rw c.if-minus.false
