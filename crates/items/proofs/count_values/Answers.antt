-- `items::count_values`: the values counted, and those from here on, are those from the start on. Assumes nothing.
use borrow.Enum.Refused.{opened}
use Prim.Native.Nat.{◌*◌}
use mathlib.Core.Path.{sym, ◌∙◌}
use native.Mathlib.Omega.{arith}
use Rattle.text.specs.Limits.{limit}
use Rattle.found.proofs.Choices.{over-left}
use Rattle.values.proofs.Packs.{found-packed}
use Rattle.items.proofs.Lists.{values-start, values-next, values-over, values-missing, value-step}
use Rattle.sizes.proofs.Room.{default-none, upto-more}
use Rattle.items.proofs.count_values.Goals as goal

pub loop-kind-init : goal.loop-kind-init
loop-kind-init c = rw (default-none c.default-sizes.ensures) (values-start _ _ _ c.requires.within c.requires.none)

pub pack_value-requires : goal.pack_value-requires
unfolding limit
pack_value-requires c = omega (arith, c.requires.small)

pub returns-in_default-found : goal.returns-in_default-found
returns-in_default-found c =
    let over = over-left c.of-found.result (opened c.in_default.in_default-own.keys2) (opened c.in_default-found.in_default-found-own.keys2) in
    rw c.at.ensures (values-over _ _ _ _ _ _ c.loop-kind.invariant (sym over ∙ found-packed _ _ _ _ _ c.pack_value.ensures c.of-found.ensures))

pub returns-in_default : goal.returns-in_default
returns-in_default c = values-missing _ _ _ _ _ _ c.loop-kind.invariant _ (sym c.in-Missing.is ∙ found-packed _ _ _ _ _ c.pack_value.ensures c.of-found.ensures)

pub with-sizes-requires : goal.with-sizes-requires
unfolding limit
with-sizes-requires c =
    let l = c.loop-kind in
    let v = value-step _ _ l.at _ _ l.invariant.bare (sym (found-packed _ _ _ _ _ c.pack_value.ensures c.of-found.ensures) ∙ c.in-Value.is) in
    (upto-more l.at (limit * limit) l.sizes l.invariant.fits (omega (arith, l.invariant.within, c.requires.small)), omega (arith, v.within, c.requires.small))

pub overflow_add-count : goal.overflow_add-count
unfolding limit
overflow_add-count c =
    let l = c.loop-kind in
    omega (arith, l.invariant.few, l.invariant.within, c.requires.small)

pub overflow_add-at : goal.overflow_add-at
unfolding limit
overflow_add-at c =
    let l = c.loop-kind in
    let v = value-step _ _ l.at _ _ l.invariant.bare (sym (found-packed _ _ _ _ _ c.pack_value.ensures c.of-found.ensures) ∙ c.in-Value.is) in
    omega (arith, v.within, c.requires.small)

pub loop-kind-smaller : goal.loop-kind-smaller
loop-kind-smaller c =
    let l = c.loop-kind in
    let e = sym (found-packed _ _ _ _ _ c.pack_value.ensures c.of-found.ensures) ∙ c.in-Value.is in
    let n = values-next _ _ _ l.at l.count _ _ _ l.sizes _ l.invariant e c.gap_end-at.ensures c.with-sizes.ensures in
    omega (arith, n.0, n.1.within)

pub loop-kind-preserved : goal.loop-kind-preserved
loop-kind-preserved c =
    let l = c.loop-kind in
    let e = sym (found-packed _ _ _ _ _ c.pack_value.ensures c.of-found.ensures) ∙ c.in-Value.is in
    (values-next _ _ _ l.at l.count _ _ _ l.sizes _ l.invariant e c.gap_end-at.ensures c.with-sizes.ensures).1
