-- `openings::at_save`: the keyword, then the byte before. Assumes nothing.
use mathlib.Core.Path.{sym, ◌∙◌}
use Rattle.openings.proofs.Openings.{save-not, save-here}
use Rattle.openings.proofs.at_save.Goals as goal

pub returns-then-at_save : goal.returns-then-at_save
returns-then-at_save c = c.is_parted.ensures ∙ save-here _ _ _ (sym c.at_save.ensures ∙ c.if-at_save.true)

pub returns-else-at_save : goal.returns-else-at_save
returns-else-at_save c = c.if-at_save.false ∙ save-not _ _ _ (sym c.at_save.ensures ∙ c.if-at_save.false)
