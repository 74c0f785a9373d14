-- `numbers::exponent_at`: its letter isn't the word's last byte, so a byte follows it. Assumes nothing.
use mathlib.Core.Path.{sym, ◌∙◌}
use native.Mathlib.Omega.{arith}
use Rattle.cuts.specs.Cuts.{exponent_at}
use Rattle.cuts.proofs.Bounds.{letter-within}
use Rattle.cuts.proofs.exponent_at.Goals as goal

pub returns-then-not-starts_exponent : goal.returns-then-not-starts_exponent
unfolding exponent_at
returns-then-not-starts_exponent c = rw (← c.starts_exponent.ensures, c.if-not-starts_exponent.true) c.nowhere.ensures

pub overflow_add-sign : goal.overflow_add-sign
overflow_add-sign c = omega (arith, letter-within _ _ (sym c.starts_exponent.ensures ∙ c.if-not-starts_exponent.false))

pub returns : goal.returns
unfolding exponent_at
returns c = rw (← c.starts_exponent.ensures, c.if-not-starts_exponent.false, ← c.after_one-digits.ensures, ← c.digits_end-end.ensures)
