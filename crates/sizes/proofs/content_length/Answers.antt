-- `sizes::content_length`: by the kind's shape. Assumes nothing.
use Rattle.kinds.specs.Kinds.{is_content}
use Rattle.sizes.proofs.Room.{no-content}
use Rattle.sizes.proofs.content_length.Goals as goal

pub returns-in-Content : goal.returns-in-Content
unfolding is_content
returns-in-Content c = rw (c.saturating_sub.ensures, c.marks.ensures, ← c.shape.ensures, c.in-Content.is)

pub returns-in_default : goal.returns-in_default
returns-in_default c = rw (← c.shape.ensures, no-content c.shape.result c.in_default.not-Content)
