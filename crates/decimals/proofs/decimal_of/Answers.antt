-- `numbers::decimal_of`: a word that ends behind its fraction or a bracket there has no exponent. Assumes nothing.
use mathlib.Core.Path.{◌≡◌, sym, ◌∙◌}
use native.Mathlib.Omega.{arith}
use Rattle.cuts.specs.Digits.{digits_at}
use Rattle.cuts.proofs.DigitRuns.{digits_from}
use Rattle.decimals.proofs.Unscaled.{sign_end, integer_end, point_end, fraction_end, unscaled, few-digits, few-places, integer-fits, bracket-few, bracket-fits, ends-plain, ends-bracketed}
use Rattle.decimals.proofs.decimal_of.Goals as goal

pub digits_at-whole-requires : goal.digits_at-whole-requires
unfolding sign_end integer_end
digits_at-whole-requires c = rw c.after_one-sign.ensures (omega (arith, few-digits _ c.requires))

pub overflow_cast-integer : goal.overflow_cast-integer
unfolding digits_at sign_end integer_end
overflow_cast-integer c = rw (c.digits_at-whole.ensures, c.after_one-sign.ensures) (omega (arith, integer-fits _ c.requires))

pub digits_at-part-requires : goal.digits_at-part-requires
unfolding digits_at sign_end integer_end point_end fraction_end
digits_at-part-requires c = rw (c.after_one-point.ensures, c.digits_at-whole.ensures, c.after_one-sign.ensures) (few-places _ c.requires)

pub overflow_sub-places : goal.overflow_sub-places
unfolding digits_at
overflow_sub-places c = rw c.digits_at-part.ensures (digits_from _ _)

pub returns-then-w-behind : goal.returns-then-w-behind
unfolding digits_at sign_end integer_end point_end fraction_end unscaled
returns-then-w-behind c =
    let h = rw (c.digits_at-part.ensures, c.after_one-point.ensures, c.digits_at-whole.ensures, c.after_one-sign.ensures) at c.if-w-behind.true in
    rw (c.is_minus-minus.ensures, c.digits_at-part.ensures, c.after_one-point.ensures, c.digits_at-whole.ensures, c.after_one-sign.ensures) (ends-plain _ h)

pub digits_at-inner-requires : goal.digits_at-inner-requires
digits_at-inner-requires c = bracket-few _ _ c.if-w-behind.false c.if-w-behind-gt11.false

pub overflow_cast-result : goal.overflow_cast-result
unfolding digits_at
overflow_cast-result c =
    let closed : c.byte_at.result ≡ 41 = omega arith in
    let z = rw c.digits_at-inner.ensures at (sym c.byte_at.ensures ∙ closed) in
    rw c.digits_at-inner.ensures
    (omega (arith, bracket-fits c.args.w.now c.digits_at-part.result.end c.if-w-behind.false c.if-w-behind-gt11.false z))

pub returns : goal.returns
unfolding digits_at sign_end integer_end point_end fraction_end unscaled
returns c =
    let o = rw (c.digits_at-part.ensures, c.after_one-point.ensures, c.digits_at-whole.ensures, c.after_one-sign.ensures) at c.if-w-behind-ne40.false in
    let closed : c.byte_at.result ≡ 41 = omega arith in
    let z = rw (c.digits_at-inner.ensures, c.digits_at-part.ensures, c.after_one-point.ensures, c.digits_at-whole.ensures, c.after_one-sign.ensures) at (sym c.byte_at.ensures ∙ closed) in
    rw (c.is_minus-minus.ensures, c.digits_at-inner.ensures, c.digits_at-part.ensures, c.after_one-point.ensures, c.digits_at-whole.ensures, c.after_one-sign.ensures) (ends-bracketed _ o z)
