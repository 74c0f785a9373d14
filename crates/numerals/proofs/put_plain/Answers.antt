-- `numerals::put_plain` meets its contract. Assumes nothing.
use mathlib.Core.Path.{sym, ◌∙◌, ap}
use Rattle.numbers.specs.Spelling.{padded}
use Rattle.numerals.proofs.Wrote.{wrote_as}
use Rattle.numbers.proofs.Counting.{plain-padded}
use Rattle.numerals.proofs.put_plain.Goals as goal

pub returns : goal.returns
returns c =
    let n = c.args.n in
    wrote_as (ap (λ k. padded k n) c.digit_count.ensures ∙ sym (plain-padded n)) c.put_digits.ensures
