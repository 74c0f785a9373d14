-- `items::count_names`: the names counted, and those from here on, are those from the start on. Assumes nothing.
use Prim.Native.Nat.{◌*◌}
use native.Mathlib.Omega.{arith}
use Rattle.text.specs.Limits.{limit}
use Rattle.items.proofs.Lists.{names-start, names-next, names-all, name-within}
use Rattle.sizes.proofs.Room.{default-none, upto-more}
use Rattle.items.proofs.count_names.Goals as goal

pub loop-at-init : goal.loop-at-init
loop-at-init c = rw (default-none c.default-sizes.ensures, c.gap_end-at.ensures) (names-start _ _ _ c.requires.within)

pub name_end-end-requires : goal.name_end-end-requires
name_end-end-requires c = c.loop-at.invariant.within

pub returns-then-end-at : goal.returns-then-end-at
returns-then-end-at c =
    let l = c.loop-at in
    names-all _ _ _ l.at l.count l.sizes l.last _ l.invariant c.name_end-end.ensures c.if-end-at.true

pub overflow_sub-end : goal.overflow_sub-end
overflow_sub-end c = omega (arith, c.if-end-at.false)

pub with-sizes-requires : goal.with-sizes-requires
unfolding limit
with-sizes-requires c =
    let l = c.loop-at in
    let ready = c.requires in (
      upto-more l.at (limit * limit) l.sizes l.invariant.fits (omega (arith, l.invariant.within, ready.small)),
      omega (arith, name-within _ _ l.at _ l.invariant.bare l.invariant.within c.name_end-end.ensures, ready.small),
    )

pub overflow_add-count : goal.overflow_add-count
unfolding limit
overflow_add-count c =
    let l = c.loop-at in
    let ready = c.requires in
    omega (arith, l.invariant.few, l.invariant.within, ready.small)

pub loop-at-smaller : goal.loop-at-smaller
loop-at-smaller c =
    let l = c.loop-at in
    let n = names-next _ _ _ l.at l.count _ _ l.sizes _ l.last l.invariant c.if-end-at.false c.name_end-end.ensures c.gap_end-at-in-loop-at.ensures c.with-sizes.ensures in
    omega (arith, n.0, n.1.within)

pub loop-at-preserved : goal.loop-at-preserved
loop-at-preserved c =
    let l = c.loop-at in
    (names-next _ _ _ l.at l.count _ _ l.sizes _ l.last l.invariant c.if-end-at.false c.name_end-end.ensures c.gap_end-at-in-loop-at.ensures c.with-sizes.ensures).1
