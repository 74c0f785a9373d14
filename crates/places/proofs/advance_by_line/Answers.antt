-- `places::advance_by_line`: line by line, each line end byte by byte. Assumes nothing.
use mathlib.Core.Path.{◌≡◌, refl, sym, ◌∙◌}
use native.Mathlib.Omega.{arith}
use lib.Seq.{length-take-le}
use Rattle.places.proofs.Places.{Rest, like-self, like-next, like-whole, like-place, like-along, line-rest, line-bound, column-bound}
use Rattle.places.proofs.advance_by_line.Goals as goal

pub loop-at-init : goal.loop-at-init
loop-at-init c = (c.requires.1, c.requires.2, like-whole _ c.args.p c.requires.0)

pub bounds-s-at : goal.bounds-s-at
bounds-s-at c = omega arith

pub step-c-requires : goal.step-c-requires
step-c-requires c =
    let l = c.loop-at in
    let s = c.args.s.now in
    omega (arith, l.invariant.2.line, l.invariant.2.column, line-bound s l.at, column-bound s l.at)

pub overflow_add-at : goal.overflow_add-at
overflow_add-at c = omega arith

pub loop-at-smaller-then-is_eol : goal.loop-at-smaller-then-is_eol
loop-at-smaller-then-is_eol c = omega arith

pub loop-at-preserved-then-is_eol : goal.loop-at-preserved-then-is_eol
loop-at-preserved-then-is_eol c =
    let l = c.loop-at in
    let e = c.step-c.ensures ∙ like-next _ _ _ (omega arith) l.invariant.2 in
    (omega arith, l.invariant.1, rw e (like-self _ _))

pub slice_bounds-line_end-end : goal.slice_bounds-line_end-end
slice_bounds-line_end-end c = sym (length-take-le _ _ c.loop-at.invariant.1)

pub overflow_sub-end : goal.overflow_sub-end
overflow_sub-end c =
    let a = c.args in
    let l = c.loop-at in
    let r : Rest a.s.now l.at a.to c.line_end-end.result = rw c.line_end-end.ensures (line-rest a.s.now l.at a.to (omega arith) l.invariant.1 (sym c.is_eol.ensures ∙ c.if-is_eol.false)) in
    omega (arith, r.goes)

pub along-c-requires : goal.along-c-requires
along-c-requires c =
    let a = c.args in
    let l = c.loop-at in
    let r : Rest a.s.now l.at a.to c.line_end-end.result = rw c.line_end-end.ensures (line-rest a.s.now l.at a.to (omega arith) l.invariant.1 (sym c.is_eol.ensures ∙ c.if-is_eol.false)) in
    omega (arith, r.goes, r.fits, l.invariant.1, l.invariant.2.column, column-bound a.s.now l.at)

pub loop-at-smaller : goal.loop-at-smaller
loop-at-smaller c =
    let a = c.args in
    let l = c.loop-at in
    let r : Rest a.s.now l.at a.to c.line_end-end.result = rw c.line_end-end.ensures (line-rest a.s.now l.at a.to (omega arith) l.invariant.1 (sym c.is_eol.ensures ∙ c.if-is_eol.false)) in
    omega (arith, r.goes, r.fits)

pub loop-at-preserved : goal.loop-at-preserved
loop-at-preserved c =
    let a = c.args in
    let l = c.loop-at in
    let r : Rest a.s.now l.at a.to c.line_end-end.result = rw c.line_end-end.ensures (line-rest a.s.now l.at a.to (omega arith) l.invariant.1 (sym c.is_eol.ensures ∙ c.if-is_eol.false)) in
    (r.fits, l.invariant.1, rw c.along-c.ensures (like-along a.s.now l.at c.line_end-end.result _ l.c r.goes (omega (arith, r.fits, l.invariant.1)) r.plain l.invariant.2))

pub returns : goal.returns
returns c =
    let e : c.loop-at.at ≡ c.args.to = omega arith in
    rw (← e) (like-place _ c.loop-at.at _ _ c.loop-at.c refl c.loop-at.invariant.2)
