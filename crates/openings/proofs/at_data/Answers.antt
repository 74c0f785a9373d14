-- `openings::at_data`: the keyword, then the byte before. Assumes nothing.
use mathlib.Core.Path.{sym, ◌∙◌}
use Rattle.openings.proofs.Openings.{data-not, data-here}
use Rattle.openings.proofs.at_data.Goals as goal

pub returns-then-at_data : goal.returns-then-at_data
returns-then-at_data c = c.is_parted.ensures ∙ data-here _ _ _ (sym c.at_data.ensures ∙ c.if-at_data.true)

pub returns-else-at_data : goal.returns-else-at_data
returns-else-at_data c = c.if-at_data.false ∙ data-not _ _ _ (sym c.at_data.ensures ∙ c.if-at_data.false)
