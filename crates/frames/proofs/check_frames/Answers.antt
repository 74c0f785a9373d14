-- `frames::check_frames`: the earliest repeat from the first frame on. Assumes nothing.
use Rattle.std.proofs.Common.{◌∙◌}
use Rattle.frames.proofs.Frames.{follows-first, check-all}
use Rattle.frames.proofs.check_frames.Goals as goal

pub first_repeat-requires : goal.first_repeat-requires
first_repeat-requires c = rw (c.start.ensures, c.start-2.ensures) (follows-first _ _)

pub returns : goal.returns
returns c = c.first_repeat.ensures ∙ rw (c.start.ensures, c.start-2.ensures) (check-all _ _)
