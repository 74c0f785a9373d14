-- `partners::same_frame`. Assumes nothing.
use mathlib.Core.Path.{◌∙◌}
use Rattle.partners.proofs.Partners.{frame-own, frame-both}
use Rattle.partners.proofs.same_frame.Goals as goal

pub returns-then-y-eq0 : goal.returns-then-y-eq0
returns-then-y-eq0 c = frame-own _ _ _ _ _ _ c.if-y-eq0.either

pub returns-else-y-eq0 : goal.returns-else-y-eq0
returns-else-y-eq0 c =
    let pre = c.requires in
    let a = c.args in
    c.same_names.ensures ∙ frame-both _ _ _ _ a.x.outer a.x.frame a.y.outer a.y.frame pre.0.frame pre.1.frame c.if-y-eq0.false
