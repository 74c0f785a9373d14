-- `scopes::stretch`: up to here the names are of the scope. Assumes nothing.
use Rattle.std.proofs.Common.{arith}
use Rattle.steps.proofs.Steps.{met, meets-less}
use Rattle.scopes.proofs.Scopes.{stretch-first, stretch-next}
use Rattle.scopes.proofs.stretch.Goals as goal

pub loop-name-init : goal.loop-name-init
loop-name-init c = stretch-first _ _ _ _ c.requires

pub loop-name-smaller : goal.loop-name-smaller
loop-name-smaller c = meets-less _ _ _ _ _ (met _ _ _ c.in-Some.field-0 c.in-Some.ensures)

pub loop-name-preserved : goal.loop-name-preserved
loop-name-preserved c = stretch-next _ _ _ _ _ _ _ c.loop-name.invariant (met _ _ _ c.in-Some.field-0 c.in-Some.ensures) (omega arith)
