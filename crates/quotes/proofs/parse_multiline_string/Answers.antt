-- `quotes::parse_multiline_string`: from `;` to `;`, to one behind a line end. Assumes nothing.
use Prim.Native.Nat.{◌+◌}
use mathlib.Core.Path.{◌≡◌, sym, ◌∙◌}
use native.Mathlib.Omega.{arith}
use Rattle.text.proofs.Runs.{span-from}
use Rattle.text.specs.Blocks.{clear}
use Rattle.quotes.proofs.Quotes.{field_past, past-start, past-last, past-here, past_first, past-plain}
use Rattle.quotes.proofs.parse_multiline_string.Goals as goal
use Rattle.quotes.proofs.parse_multiline_string.Goals.{else-from-at-via-then-from-at+else-is_eol, else-from-at-via-else-from-at}

pub loop-at-init : goal.loop-at-init
loop-at-init c = (omega arith, past-start _ _)

pub returns-then-s-at : goal.returns-then-s-at
returns-then-s-at c = sym (c.loop-at.invariant.1 ∙ past-last _ _ _ _ c.loop-at.invariant.0 c.next_semicolon-at.ensures c.if-s-at.true)

pub overflow_sub-at : goal.overflow_sub-at
overflow_sub-at c = omega arith

pub bounds-s-at : goal.bounds-s-at
bounds-s-at c = omega arith

pub overflow_add-at : goal.overflow_add-at
overflow_add-at c = omega arith

pub loop-at-smaller : goal.loop-at-smaller
loop-at-smaller c = omega (arith, c.next_semicolon-at.ensures, span-from (clear 0 59) c.args.s.now c.loop-at.at)

pub loop-at-preserved : goal.loop-at-preserved
loop-at-preserved c =
    let l = c.loop-at in
    let e = c.next_semicolon-at.ensures in
    let h = c.if-s-at.false in
    let on : field_past c.args.s.now c.args.from l.at ≡ field_past c.args.s.now c.args.from (c.next_semicolon-at.result + 1) =
    elim c.else-from-at.branch [
      | else-from-at-via-then-from-at+else-is_eol w ↦ past-plain _ _ _ _ l.invariant.0 e h (sym w.is_eol.ensures ∙ w.if-is_eol.false)
      | else-from-at-via-else-from-at w ↦ past_first _ _ _ _ l.invariant.0 e h w.if-from-at.false
    ] in
    (omega (arith, l.invariant.0, e, span-from (clear 0 59) c.args.s.now l.at), l.invariant.1 ∙ on)

pub overflow_add-result : goal.overflow_add-result
overflow_add-result c = omega arith

pub returns : goal.returns
returns c =
    let l = c.loop-at in
    sym (l.invariant.1 ∙ past-here _ _ _ _ l.invariant.0 c.next_semicolon-at.ensures c.if-s-at.false c.if-from-at.true (sym c.is_eol.ensures ∙ c.if-is_eol.true))
