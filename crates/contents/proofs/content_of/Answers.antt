-- `contents::content_of`: what lies inside the area can be taken from it. Assumes nothing.
use Prim.Native.Nat.{◌+◌, ◌-◌}
use mathlib.Core.Path.{◌≡◌}
use native.Mathlib.Omega.{arith}
use lib.ListN.{length}
use Rattle.contents.specs.Contents.{content_length, content_bytes}
use Rattle.contents.proofs.Kept.{content-length, lies_in}
use Rattle.contents.proofs.content_of.Goals as goal

pub overflow_add-result : goal.overflow_add-result
overflow_add-result c =
    let given = c.args in
    let inside = lies_in (length given.area.now) given.kind given.fields c.requires in
    omega (arith, inside.inside, c.content_length.ensures, content-length given.kind given.fields)

pub slice_bounds-result-end : goal.slice_bounds-result-end
slice_bounds-result-end c =
    let given = c.args in
    let inside = lies_in (length given.area.now) given.kind given.fields c.requires in
    omega (arith, inside.inside, c.content_length.ensures, content-length given.kind given.fields)

pub returns : goal.returns
unfolding content_bytes
returns c =
    let given = c.args in
    let size : given.fields.number + c.content_length.result - given.fields.number ≡ content_length given.kind given.fields = omega (arith, c.content_length.ensures) in
    rw size
