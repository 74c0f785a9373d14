-- `kinds::Kind::outline_length`: an empty body, or P. Assumes nothing.
use Prim.Native.Nat.{◌<◌}
use mathlib.Core.Path.{sym, ◌∙◌}
use native.Mathlib.Omega.{arith}
use Rattle.kinds.specs.Kinds.{kind_of, shape_of, body_length, outline_length}
use Rattle.kinds.proofs.Numbering.{outline-none, outline-place}
use Rattle.kinds.proofs.Kind.outline_length.Goals as goal

pub returns-then-body_length-eq0 : goal.returns-then-body_length-eq0
unfolding body_length outline_length
returns-then-body_length-eq0 c = sym (outline-none (shape_of (kind_of c.args.kind)) (sym c.body_length.ensures ∙ c.if-body_length-eq0.true))

pub returns : goal.returns
unfolding body_length outline_length
returns c =
    let some : 0 < body_length c.args.kind = rw (← c.body_length.ensures) (omega arith) in
    sym (outline-place (shape_of (kind_of c.args.kind)) some)
