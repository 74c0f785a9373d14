-- `lines::short_end`: over as many lines as there is room for bytes, to one that is too long or the text's end.
-- Assumes nothing.
use Prim.Native.Nat.{◌-◌}
use mathlib.Core.Path.{◌≡◌, sym, ◌∙◌}
use native.Mathlib.Omega.{arith}
use Rattle.lines.proofs.Lines.{short-start, rest-fits, line-long, lines_next, last_within}
use Rattle.lines.proofs.short_end.Goals as goal

pub overflow_sub-room : goal.overflow_sub-room
overflow_sub-room c = omega (arith, c.requires)

pub loop-at-init : goal.loop-at-init
loop-at-init c =
    let column = c.args.column in
    let all : 2048 - (2048 - column) ≡ column = omega (arith, c.requires) in
    (omega arith, omega arith, rw all (short-start column c.args.s.now))

pub overflow_sub-s : goal.overflow_sub-s
overflow_sub-s c = c.loop-at.invariant.0

pub returns-then-s-at : goal.returns-then-s-at
returns-then-s-at c =
    let l = c.loop-at in
    sym (l.invariant.2 ∙ rest-fits _ _ _ _ (omega (arith, l.invariant.1)) l.invariant.0 c.if-s-at.true)

pub overflow_add-room : goal.overflow_add-room
overflow_add-room c = omega arith

pub behind_last-next-requires : goal.behind_last-next-requires
behind_last-next-requires c = omega arith

pub overflow_add-result : goal.overflow_add-result
overflow_add-result c = omega arith

pub returns-then-next-at : goal.returns-then-next-at
returns-then-next-at c =
    let l = c.loop-at in
    let next = c.behind_last-next.ensures in
    let more = c.if-s-at.false in
    sym (l.invariant.2 ∙ line-long _ _ _ _ (omega (arith, l.invariant.1)) _ _ (omega arith) more next c.if-next-at.true)

pub loop-at-smaller : goal.loop-at-smaller
loop-at-smaller c = omega arith

pub loop-at-preserved : goal.loop-at-preserved
loop-at-preserved c =
    let l = c.loop-at in
    let next = c.behind_last-next.ensures in
    let more = c.if-s-at.false in
    let within = last_within _ _ _ _ next (omega arith) in (
      within,
      omega arith,
      l.invariant.2
          ∙ lines_next _ _ _ _ (omega (arith, l.invariant.1)) _ _ (omega arith) more next c.if-next-at.false,
    )
