-- `tables::find_names`: up to here each name of the scope was found behind the one before. Assumes nothing.
use Rattle.tables.proofs.Tables.{finding-first, finding-next, fewer}
use Rattle.tables.proofs.find_names.Goals as goal

pub loop-name-init : goal.loop-name-init
loop-name-init c = finding-first _ _ _ c.requires

pub loop-name-smaller : goal.loop-name-smaller
loop-name-smaller c = fewer c.args.scope _ _ c.in-Some.ensures

pub loop-name-preserved : goal.loop-name-preserved
loop-name-preserved c = finding-next _ _ _ _ _ _ c.in-Some.field-0 c.loop-name.invariant c.in-Some.ensures c.in-Some-find_next.ensures
