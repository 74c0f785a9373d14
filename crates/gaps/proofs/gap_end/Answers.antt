-- `gaps::gap_end`: over the space bytes, and no further where one look shows the end. Assumes nothing.
use mathlib.Core.Path.{sym, ap, ◌∙◌}
use Rattle.gaps.specs.Gaps.{gap_end}
use Rattle.gaps.proofs.Gaps.{gap-spaces, gap-shown}
use Rattle.gaps.proofs.gap_end.Goals as goal

pub returns-then-shows_no_gap : goal.returns-then-shows_no_gap
returns-then-shows_no_gap c = sym (gap-shown _ _ (sym c.shows_no_gap.ensures ∙ c.if-shows_no_gap.true)) ∙ ap (gap_end _) c.spaces_end-at.ensures ∙ gap-spaces _ _

pub returns-else-shows_no_gap : goal.returns-else-shows_no_gap
returns-else-shows_no_gap c = c.comments_end.ensures ∙ ap (gap_end _) c.spaces_end-at.ensures ∙ gap-spaces _ _
