-- `tables::enter_names`: up to here the table knows the names of the scope, and they are other than each other. Assumes nothing.
use Rattle.tables.proofs.Tables.{owned-first, owned-enter, owned-kept, fewer}
use Rattle.tables.proofs.enter_names.Goals as goal

pub loop-name-init : goal.loop-name-init
loop-name-init c = owned-first _ _ _ c.requires

pub returns-then-enter : goal.returns-then-enter
returns-then-enter c = owned-kept _ _ _ _ _ _ _ _ c.loop-name.invariant c.enter.ensures

pub loop-name-smaller : goal.loop-name-smaller
loop-name-smaller c = fewer c.args.scope _ _ c.in-Some.ensures

pub loop-name-preserved : goal.loop-name-preserved
loop-name-preserved c = owned-enter _ _ _ _ _ _ _ c.in-Some.field-0 c.loop-name.invariant c.in-Some.ensures c.enter.ensures c.if-enter.false
