-- `matching::find`: what meets the value is its partner, wherever it was looked for. Assumes nothing.
use mathlib.Core.Path.{sym, ◌∙◌}
use Rattle.cells.proofs.Cells.{met}
use Rattle.matching.proofs.Matching.{finds-next}
use Rattle.matching.proofs.find.Goals as goal

pub do_meet-requires : goal.do_meet-requires
do_meet-requires c = (c.requires.lies, (met _ _ _ _ c.next_value.ensures c.in-Some.is).lies)

pub returns-in-Some : goal.returns-in-Some
returns-in-Some c = finds-next _ _ _ _ c.args.x _ _ c.requires _ (met _ _ _ _ c.next_value.ensures c.in-Some.is) (sym c.do_meet.ensures ∙ c.if-do_meet.true)
