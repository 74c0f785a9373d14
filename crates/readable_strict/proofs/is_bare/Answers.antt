-- `readable_strict::is_bare`: by whether a space stands before it. Assumes nothing.
use mathlib.Core.Path.{sym, ◌∙◌}
use Rattle.readable_strict.proofs.Kept.{bare-led, bare-plain}
use Rattle.readable_strict.proofs.is_bare.Goals as goal

pub returns-then-is_led : goal.returns-then-is_led
returns-then-is_led c = c.is_name.ensures ∙ sym (bare-led _ (sym c.is_led.ensures ∙ c.if-is_led.true))

pub returns : goal.returns
returns c = c.is_bare.ensures ∙ sym (bare-plain _ (sym c.is_led.ensures ∙ c.if-is_led.false))
