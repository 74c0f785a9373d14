-- `gaps::trim_comments_and_whitespace`: over spaces, with the place so far, to the first comment. Assumes nothing.
use mathlib.Core.Path.{refl, sym, ap, ◌∙◌}
use native.Mathlib.Omega.{arith}
use Rattle.places.specs.Places.{place_at}
use Rattle.gaps.proofs.Gaps.{gap-space, gap_other, gap-past, gap_from, gap_within}
use Rattle.places.proofs.Places.{like-self, like-next, like-whole, like-place, line-bound, column-bound}
use Rattle.gaps.proofs.trim_comments_and_whitespace.Goals as goal

pub loop-at-init : goal.loop-at-init
loop-at-init c = (c.requires.within, refl, like-whole _ c.args.p c.requires)

pub bounds-s-at : goal.bounds-s-at
bounds-s-at c = omega arith

pub advance-requires : goal.advance-requires
advance-requires c =
    let i = c.requires in
    let e = c.comments_end.ensures ∙ sym c.loop-at.invariant.1 in
    (i, rw e (gap_from _ _), rw e (gap_within _ _ i.within))

pub returns-then-b-eq35 : goal.returns-then-b-eq35
returns-then-b-eq35 c = c.advance.ensures ∙ ap (place_at _) (c.comments_end.ensures ∙ sym c.loop-at.invariant.1)

pub step-c-requires : goal.step-c-requires
step-c-requires c =
    let l = c.loop-at in
    let s = c.args.s.now in
    omega (arith, l.invariant.2.line, l.invariant.2.column, line-bound s l.at, column-bound s l.at)

pub overflow_add-at : goal.overflow_add-at
overflow_add-at c = omega arith

pub loop-at-smaller : goal.loop-at-smaller
loop-at-smaller c = omega arith

pub loop-at-preserved : goal.loop-at-preserved
loop-at-preserved c =
    let l = c.loop-at in
    let inside = c.loop-at-test.true in
    let e = c.step-c.ensures ∙ like-next _ _ _ inside l.invariant.2 in (
      omega arith,
      l.invariant.1 ∙ gap-space _ _ inside (sym c.is_space.ensures ∙ c.if-not-is_space.false),
      rw e (like-self _ _),
    )

pub returns-after-loop-at : goal.returns-after-loop-at
returns-after-loop-at c =
    let l = c.loop-at in
    like-place _ l.at _ _ l.c (sym (l.invariant.1 ∙ gap-past _ _ c.loop-at-test.false)) l.invariant.2

pub returns-then-not-is_space : goal.returns-then-not-is_space
returns-then-not-is_space c =
    let l = c.loop-at in
    let stops = gap_other _ _ c.loop-at-test.true (sym c.is_space.ensures ∙ c.if-not-is_space.true) c.if-b-eq35.false in
    like-place _ l.at _ _ l.c (sym (l.invariant.1 ∙ stops)) l.invariant.2
