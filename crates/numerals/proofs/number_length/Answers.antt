-- `numerals::number_length` meets its contract. Assumes nothing.
use native.Mathlib.Omega.{arith}
use Rattle.numbers.proofs.Rendered.{number_size, sign-short, plain-short, fraction-short, exponent-short, uncertainty-short}
use Rattle.numerals.proofs.number_length.Goals as goal

pub overflow_add-whole : goal.overflow_add-whole
overflow_add-whole c =
    let d = c.args.d in
    omega (
      arith,
      c.requires.places,
      sign-short d.minus,
      plain-short d.integer,
      fraction-short d.places d.fraction,
      exponent-short d.lowers d.exponent,
      uncertainty-short d.uncertain d.uncertainty,
    )

pub overflow_add-result : goal.overflow_add-result
overflow_add-result c =
    let d = c.args.d in
    omega (
      arith,
      c.requires.places,
      sign-short d.minus,
      plain-short d.integer,
      fraction-short d.places d.fraction,
      exponent-short d.lowers d.exponent,
      uncertainty-short d.uncertain d.uncertainty,
    )

pub overflow_add-result-2 : goal.overflow_add-result-2
overflow_add-result-2 c =
    let d = c.args.d in
    omega (
      arith,
      c.requires.places,
      sign-short d.minus,
      plain-short d.integer,
      fraction-short d.places d.fraction,
      exponent-short d.lowers d.exponent,
      uncertainty-short d.uncertain d.uncertainty,
    )

pub overflow_add-result-3 : goal.overflow_add-result-3
overflow_add-result-3 c =
    let d = c.args.d in
    omega (
      arith,
      c.requires.places,
      sign-short d.minus,
      plain-short d.integer,
      fraction-short d.places d.fraction,
      exponent-short d.lowers d.exponent,
      uncertainty-short d.uncertain d.uncertainty,
    )

pub returns : goal.returns
returns c = omega (arith, number_size c.args.d)
