-- `openings::name_end`: no tag, one that may stand, or one that may not. Assumes nothing.
use mathlib.Core.Path.{sym, ◌∙◌}
use Rattle.words.proofs.Words.{word-from}
use Rattle.openings.proofs.Openings.{name-not, name-fits, name-over}
use Rattle.openings.proofs.name_end.Goals as goal

pub returns-then-not-at_tag : goal.returns-then-not-at_tag
returns-then-not-at_tag c = name-not _ _ _ (sym c.at_tag.ensures ∙ c.if-not-at_tag.true)

pub overflow_sub-end : goal.overflow_sub-end
overflow_sub-end c = rw c.long_word_end-end.ensures (word-from _ _)

pub returns-then-tag_fits : goal.returns-then-tag_fits
returns-then-tag_fits c =
    c.long_word_end-end.ensures
    ∙ name-fits _ _ _ (sym c.at_tag.ensures ∙ c.if-not-at_tag.false)
    (rw (← c.long_word_end-end.ensures) (sym c.tag_fits.ensures ∙ c.if-tag_fits.true))

pub returns : goal.returns
returns c = name-over _ _ _ (rw (← c.long_word_end-end.ensures) (sym c.tag_fits.ensures ∙ c.if-tag_fits.false))
