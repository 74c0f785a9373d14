-- `cuts::digits_at`: the number so far is the one that the digits so far write, and the loop goes on over digits. Assumes nothing.
use Rattle.std.proofs.Common.{refl, sym, ◌∙◌, arith}
use Rattle.text.specs.Bytes.{is_digit}
use Rattle.text.proofs.Runs.{span-go, span-stop, span-over}
use Rattle.cuts.specs.Digits.{digits_end, digits_at}
use Rattle.cuts.proofs.DigitRuns.{digit-range, so-far-fits, value_none, value-more}
use Rattle.cuts.proofs.digits_at.Goals as goal

pub loop-end-init : goal.loop-end-init
loop-end-init c = (omega arith, refl, sym (value_none _ _))

pub overflow_mul-value : goal.overflow_mul-value
overflow_mul-value c =
    let l = c.loop-end in
    omega (arith, l.invariant.2, so-far-fits _ _ l.end l.invariant.0 (omega arith) l.invariant.1 c.requires)

pub overflow_sub-w : goal.overflow_sub-w
overflow_sub-w c = (digit-range _ (sym c.is_digit.ensures ∙ c.if-is_digit.true)).0

pub overflow_add-value : goal.overflow_add-value
overflow_add-value c =
    let l = c.loop-end in
    let d = digit-range _ (sym c.is_digit.ensures ∙ c.if-is_digit.true) in
    omega (arith, l.invariant.2, so-far-fits _ _ l.end l.invariant.0 (omega arith) l.invariant.1 c.requires, c.from.ensures)

pub loop-end-preserved : goal.loop-end-preserved
unfolding digits_end
loop-end-preserved c =
    let l = c.loop-end in
    let t = c.loop-end-test.true in
    (omega arith, l.invariant.1 ∙ span-go is_digit _ _ t (sym c.is_digit.ensures ∙ c.if-is_digit.true), rw (c.from.ensures, l.invariant.2) (sym (value-more _ _ l.end l.invariant.0 t)))

pub returns-else-is_digit : goal.returns-else-is_digit
unfolding digits_at digits_end
returns-else-is_digit c =
    let l = c.loop-end in
    rw (l.invariant.1 ∙ span-stop is_digit _ _ c.loop-end-test.true (sym c.is_digit.ensures ∙ c.if-is_digit.false), l.invariant.2)

pub returns-after-loop-end : goal.returns-after-loop-end
unfolding digits_at digits_end
returns-after-loop-end c =
    let l = c.loop-end in
    rw (l.invariant.1 ∙ span-over is_digit _ _ c.loop-end-test.false, l.invariant.2)
