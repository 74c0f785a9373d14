-- `tables::pass_names`: no name up to here was met. Assumes nothing.
use Rattle.tables.proofs.Tables.{passed_first, passed-next, fewer}
use Rattle.tables.proofs.pass_names.Goals as goal

pub loop-name-init : goal.loop-name-init
loop-name-init c = passed_first _ _ _ c.requires

pub loop-name-smaller : goal.loop-name-smaller
loop-name-smaller c = fewer c.args.scope _ _ c.in-Some.ensures

pub loop-name-preserved : goal.loop-name-preserved
loop-name-preserved c = passed-next _ _ _ _ c.in-Some.field-0 _ c.loop-name.invariant c.in-Some.ensures c.is_met.ensures c.if-is_met.false
