-- `openings::at_tag`: the byte at the offset, if there is one, then the byte before. Assumes nothing.
use mathlib.Core.Path.{sym, ◌∙◌}
use native.Mathlib.Omega.{arith}
use borrow.Author.Tests.{eqb-true, eqb-false, ltb-true}
use Rattle.openings.proofs.Openings.{tag-past, tag-not, tag-here}
use Rattle.openings.proofs.at_tag.Goals as goal
use Rattle.openings.proofs.at_tag.Goals.{then-at-s, else-at-s}

pub returns-then-s-at-eq95 : goal.returns-then-s-at-eq95
returns-then-s-at-eq95 c = elim c.if-at-s.branch [
  | then-at-s w ↦ c.is_parted.ensures ∙ tag-here _ _ _ w.if-at-s.true (eqb-true _ _ (sym w.value-is ∙ c.if-s-at-eq95.true))
  | else-at-s w ↦ absurd (omega (arith, ltb-true _ _ (sym w.value-is ∙ c.if-s-at-eq95.true)))
]

pub returns-else-s-at-eq95 : goal.returns-else-s-at-eq95
returns-else-s-at-eq95 c = elim c.if-at-s.branch [
  | then-at-s w ↦ c.if-s-at-eq95.false ∙ tag-not _ _ _ w.if-at-s.true (eqb-false _ _ (sym w.value-is ∙ c.if-s-at-eq95.false))
  | else-at-s w ↦ c.if-s-at-eq95.false ∙ tag-past _ _ _ w.if-at-s.false
]
