-- `openings::at_loop`: the keyword by the reading, then the byte before. Assumes nothing.
use mathlib.Core.Path.{sym, ◌∙◌}
use Rattle.keywords.specs.Keywords.{key_loop}
use Rattle.openings.proofs.Openings.{loop-not, loop-here}
use Rattle.openings.proofs.at_loop.Goals as goal

pub returns-then-stands_at : goal.returns-then-stands_at
unfolding key_loop
returns-then-stands_at c = c.is_parted.ensures ∙ loop-here _ _ _ (sym c.stands_at.ensures ∙ c.if-stands_at.true)

pub returns-else-stands_at : goal.returns-else-stands_at
unfolding key_loop
returns-else-stands_at c = c.if-stands_at.false ∙ loop-not _ _ _ (sym c.stands_at.ensures ∙ c.if-stands_at.false)
