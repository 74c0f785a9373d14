-- `steps::content`: a content past the area is empty, any other is cut off at its end. Assumes nothing.
use Rattle.std.proofs.Common.{◌∙◌}
use Rattle.steps.proofs.Steps.{content-is}
use Rattle.steps.proofs.content.Goals as goal

pub returns : goal.returns
returns c = content-is _ c.args.entry _ _ c.min-from.ensures (c.min.ensures ∙ rw (c.saturating_sub-length.ensures, c.marks.ensures))
