-- `desk::record_length`: the kind's byte and the body. Assumes nothing.
use Prim.Native.Nat.{◌+◌}
use mathlib.Core.Path.{sym, ap, ◌∙◌}
use native.Mathlib.Omega.{arith}
use Rattle.kinds.proofs.Marks.{shape-short}
use Rattle.desk.proofs.Bytes.{length-read, length-empty, length-outlined}
use Rattle.desk.proofs.record_length.Goals as goal

pub overflow_add-result : goal.overflow_add-result
overflow_add-result c = omega (arith, c.length-body.ensures, shape-short c.args.shape)

pub returns-then-full : goal.returns-then-full
returns-then-full c =
    let a = c.args in
    ap (1 +◌) c.length-body.ensures ∙ length-read a.full a.shape c.if-full.true

pub returns-then-body-eq0 : goal.returns-then-body-eq0
returns-then-body-eq0 c =
    let a = c.args in
    length-empty a.full a.shape c.if-full.false (sym c.length-body.ensures ∙ c.if-body-eq0.true)

pub returns : goal.returns
returns c =
    let a = c.args in
    length-outlined a.full a.shape c.if-full.false (rw (← c.length-body.ensures) (omega arith))
