-- `closing::close_frame`: `save_` stands where the items stopped, or the frame is open. Assumes nothing.
use Prim.Native.Nat.{◌*◌}
use mathlib.Core.Path.{sym, ◌∙◌}
use native.Mathlib.Omega.{arith}
use Rattle.text.specs.Limits.{limit}
use Rattle.closing.specs.Closing.{frame_end}
use Rattle.sizes.proofs.Room.{upto-more}
use Rattle.closing.proofs.close_frame.Goals as goal

pub returns-then-not-at_close : goal.returns-then-not-at_close
unfolding frame_end
returns-then-not-at_close c = rw (c.unclosed.ensures, sym c.at_close.ensures ∙ c.if-not-at_close.true)

pub with-requires : goal.with-requires
unfolding limit
with-requires c = (upto-more limit (limit * limit) _ c.requires.1 (omega arith), omega arith)

pub returns : goal.returns
unfolding frame_end
returns c = rw (c.with.ensures, c.gap_end.ensures, sym c.at_close.ensures ∙ c.if-not-at_close.false)
