-- `scopes::stretch`: up to here the names are of the scope. Assumes nothing.
use lib.ListN.{length}
use Rattle.steps.specs.Steps.{names_at}
use Rattle.scopes.specs.Scopes.{Stretch}
use Rattle.scopes.proofs.stretch.Given as goal

abbrev pub invariant-loop-name : goal.invariant-loop-name
invariant-loop-name l = Stretch l.store l.area l.scope l.initial.here l.here

abbrev pub decreases-loop-name : goal.decreases-loop-name
decreases-loop-name l = length (names_at l.store l.area l.here)
