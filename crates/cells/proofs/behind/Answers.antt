-- `cells::behind`: by the kind. Assumes nothing.
use Rattle.kinds.specs.declared.Kind.TheVariants.{FrameOpen, FrameClose, Tag, Loop}
use Rattle.cells.specs.Walk.{here_after}
use Rattle.cells.proofs.Cells.{other-number}
use Rattle.cells.proofs.behind.Goals as goal

pub returns-in-FrameOpen : goal.returns-in-FrameOpen
unfolding here_after
returns-in-FrameOpen c = rw c.in-FrameOpen.is

pub returns-in-FrameClose : goal.returns-in-FrameClose
unfolding here_after
returns-in-FrameClose c = rw c.in-FrameClose.is

pub returns-in-Tag : goal.returns-in-Tag
unfolding here_after
returns-in-Tag c = rw c.in-Tag.is

pub returns-in-Loop : goal.returns-in-Loop
unfolding here_after
returns-in-Loop c = rw c.in-Loop.is

pub returns-in_default : goal.returns-in_default
unfolding here_after
returns-in_default c =
    let k = c.in_default in
    rw (other-number _ FrameOpen k.not-FrameOpen, other-number _ FrameClose k.not-FrameClose, other-number _ Tag k.not-Tag, other-number _ Loop k.not-Loop)
