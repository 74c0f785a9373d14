-- `stores::content_part`: a content found lies inside the area. Assumes nothing.
use Prim.Native.Nat.{◌+◌, ◌-◌, ◌≤◌}
use mathlib.Core.Path.{◌≡◌, sym, ◌∙◌}
use native.Mathlib.Omega.{arith}
use lib.ListN.{length}
use Rattle.stores.specs.Content.{part_bytes}
use Rattle.stores.proofs.Looking.{content-inside}
use Rattle.stores.proofs.content_part.Goals as goal

pub returns-in_default : goal.returns-in_default
unfolding part_bytes
returns-in_default c = rw (← c.find_content.ensures, c.in_default.is)

pub overflow_add-result : goal.overflow_add-result
overflow_add-result c =
    let given = c.args in
    let inside : c.in-Ok.part.from + c.in-Ok.part.size ≤ length given.area.now = content-inside given.reading given.store.now given.area.now given.number _ _ (sym c.find_content.ensures ∙ c.in-Ok.is) in
    omega (arith, inside)

pub slice_bounds-result-end-2 : goal.slice_bounds-result-end-2
slice_bounds-result-end-2 c =
    let given = c.args in
    content-inside given.reading given.store.now given.area.now given.number _ _ (sym c.find_content.ensures ∙ c.in-Ok.is)

pub returns : goal.returns
unfolding part_bytes
returns c =
    let part = c.in-Ok.part in
    let size : part.from + part.size - part.from ≡ part.size = omega arith in
    rw (← c.find_content.ensures, c.in-Ok.is, size)
