-- `numerals::digit_count` meets its contract. Assumes nothing.
use Rattle.numerals.proofs.Digits.{counted-plain, none-plain}
use Rattle.numerals.proofs.digit_count.Goals as goal

pub returns-in-Some : goal.returns-in-Some
returns-in-Some c =
    let e = c.in-Some.ensures in
    counted-plain c.in-Some.power c.args.n e.bound e.power_le e.next_power_gt c.requires

pub returns-in-None : goal.returns-in-None
returns-in-None c = none-plain c.args.n (c.in-None.ensures).none
