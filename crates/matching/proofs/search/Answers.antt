-- `matching::search`: what meets nothing is passed over. Assumes nothing.
use mathlib.Core.Path.{sym, ◌∙◌}
use Rattle.cells.proofs.Cells.{met, meets-less}
use Rattle.matching.proofs.Matching.{seek-end, seek_hit, seek-miss}
use Rattle.matching.proofs.search.Goals as goal

pub do_meet-requires : goal.do_meet-requires
do_meet-requires c = (c.requires.0, (met _ _ _ _ c.next_value.ensures c.in-Some.is).lies)

pub returns-then-do_meet : goal.returns-then-do_meet
returns-then-do_meet c = seek_hit _ _ _ _ _ _ _ c.loop-met.invariant _ (met _ _ _ _ c.next_value.ensures c.in-Some.is) (sym c.do_meet.ensures ∙ c.if-do_meet.true)

pub loop-met-smaller : goal.loop-met-smaller
loop-met-smaller c = meets-less _ _ _ _ (met _ _ _ _ c.next_value.ensures c.in-Some.is)

pub loop-met-preserved : goal.loop-met-preserved
loop-met-preserved c = seek-miss _ _ _ _ _ _ _ c.loop-met.invariant _ (met _ _ _ _ c.next_value.ensures c.in-Some.is) (sym c.do_meet.ensures ∙ c.if-do_meet.false)

pub returns : goal.returns
returns c = seek-end _ _ _ _ _ _ _ c.loop-met.invariant _ c.next_value.ensures c.in_default.is
