-- `keywords::is_reserved`: the first letter leaves one keyword, or two, or none. Assumes nothing.
use Rattle.std.proofs.Common.{sym, ◌∙◌, arith}
use Rattle.keywords.specs.Keywords.{key_global, key_loop, key_stop}
use Rattle.keywords.proofs.Keywords.{reserved-over, reserved-low, reserved-d, reserved-g, reserved-l, reserved-s, reserved-none}
use Rattle.keywords.proofs.is_reserved.Goals as goal

pub returns-then-s-at : goal.returns-then-s-at
returns-then-s-at c = sym (reserved-over _ _ _ c.if-s-at.true)

pub returns-then-b-lt-LOWEST : goal.returns-then-b-lt-LOWEST
returns-then-b-lt-LOWEST c = sym (reserved-low _ _ _ c.if-s-at.false c.if-b-lt-LOWEST.true)

pub returns-in-100 : goal.returns-in-100
returns-in-100 c = c.at_data.ensures ∙ sym (reserved-d _ _ _ c.if-s-at.false (sym c.to_lower.ensures ∙ c.in-100.is))

pub returns-in-103 : goal.returns-in-103
unfolding key_global
returns-in-103 c = c.stands_at.ensures ∙ sym (reserved-g _ _ _ c.if-s-at.false (sym c.to_lower.ensures ∙ c.in-103.is))

pub returns-in-108 : goal.returns-in-108
unfolding key_loop
returns-in-108 c = c.stands_at-in-108.ensures ∙ sym (reserved-l _ _ _ c.if-s-at.false (sym c.to_lower.ensures ∙ c.in-108.is))

pub returns-in_default : goal.returns-in_default
returns-in_default c = sym (reserved-none _ _ _ c.if-s-at.false _ (sym c.to_lower.ensures) (λ e. omega arith) (λ e. omega arith) (λ e. omega arith) (λ e. omega arith))

pub returns-then-at_save : goal.returns-then-at_save
returns-then-at_save c = c.if-at_save.true ∙ sym (reserved-s _ _ _ c.if-s-at.false (sym c.to_lower.ensures ∙ c.in-115.is) ∙ rw (← c.at_save.ensures, c.if-at_save.true))

pub returns-else-at_save : goal.returns-else-at_save
unfolding key_stop
returns-else-at_save c = c.stands_at-else-at_save.ensures ∙ sym (reserved-s _ _ _ c.if-s-at.false (sym c.to_lower.ensures ∙ c.in-115.is) ∙ rw (← c.at_save.ensures, c.if-at_save.false))
