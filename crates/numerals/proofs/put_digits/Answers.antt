-- `numerals::put_digits` meets its contract: where the loop stands, all but the first digits are written, and those are the last of what is left. Assumes nothing.
use mathlib.Core.Path.{◌≡◌}
use native.Mathlib.Omega.{arith}
use Rattle.numbers.specs.Spelling.{padded}
use Rattle.numbers.proofs.Spelled.{length-padded}
use Rattle.numerals.proofs.Digits.{digits-none, digits-put, digits-all}
use Rattle.numbers.proofs.Counting.{digits_more}
use Rattle.numerals.proofs.put_digits.Goals as goal

pub loop-left-init : goal.loop-left-init
loop-left-init c =
    let a = c.args in
    ((digits-none a.count a.n).0, (digits-none a.count a.n).1 a.at a.out.now)

pub loop-left-preserved : goal.loop-left-preserved
loop-left-preserved c =
    let l = c.loop-left in
    let a = c.args in
    let more = digits_more (padded a.count a.n) l.left l.rest (omega arith) l.invariant.0 in
    (more.0, rw l.invariant.1 (digits-put a.at l.left _ _ a.out.now _ (omega arith) (omega arith) more.1))

pub returns : goal.returns
returns c =
    let a = c.args in
    let l = c.loop-left in
    let end : l.left ≡ 0 = omega arith in
    record { bytes = digits-all a.at l.left _ a.out.now _ end l.invariant.1; next = omega (arith, length-padded a.count a.n) }
