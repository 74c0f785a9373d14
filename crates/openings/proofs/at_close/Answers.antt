-- `openings::at_close`: the keyword by the reading, then the byte before. Assumes nothing.
use mathlib.Core.Path.{sym, ◌∙◌}
use Rattle.keywords.specs.Keywords.{key_save}
use Rattle.openings.proofs.Openings.{close-not, close-here}
use Rattle.openings.proofs.at_close.Goals as goal

pub returns-then-stands_at : goal.returns-then-stands_at
unfolding key_save
returns-then-stands_at c = c.is_parted.ensures ∙ close-here _ _ _ (sym c.stands_at.ensures ∙ c.if-stands_at.true)

pub returns-else-stands_at : goal.returns-else-stands_at
unfolding key_save
returns-else-stands_at c = c.if-stands_at.false ∙ close-not _ _ _ (sym c.stands_at.ensures ∙ c.if-stands_at.false)
