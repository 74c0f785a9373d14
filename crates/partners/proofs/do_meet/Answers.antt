-- `partners::do_meet`. Assumes nothing.
use mathlib.Core.Path.{◌∙◌}
use borrow.Author.Tests.{eq-eqb, ne_eqb}
use Rattle.partners.proofs.Partners.{meet-both, meet-other}
use Rattle.partners.proofs.do_meet.Goals as goal
use Rattle.partners.proofs.do_meet.Goals.{then-x-y, else-x-y}

pub returns-then-same_names : goal.returns-then-same_names
returns-then-same_names c =
    let pre = c.requires in
    c.same_frame.ensures
    ∙ meet-both _ _ _ _ _ _ pre.0 pre.1 _ (elim c.if-x-y.branch [ then-x-y w ↦ w.value-is ∙ rw (eq-eqb _ _ w.if-x-y.true) w.same_names.ensures | else-x-y w ↦ w.value-is ∙ rw (ne_eqb _ _ w.if-x-y.false) ]) c.if-same_names.true

pub returns-else-same_names : goal.returns-else-same_names
returns-else-same_names c =
    let pre = c.requires in
    meet-other _ _ _ _ _ _ pre.0 pre.1 _ (elim c.if-x-y.branch [ then-x-y w ↦ w.value-is ∙ rw (eq-eqb _ _ w.if-x-y.true) w.same_names.ensures | else-x-y w ↦ w.value-is ∙ rw (ne_eqb _ _ w.if-x-y.false) ]) c.if-same_names.false
