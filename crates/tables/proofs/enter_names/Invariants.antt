-- `tables::enter_names`: up to here the table knows the names of the scope, and they are other than each other. Assumes nothing.
use Rattle.std.proofs.Common.{length}
use Rattle.steps.specs.Steps.{names_at}
use Rattle.tables.specs.Tables.{marked_with, Owned}
use Rattle.tables.proofs.enter_names.Given as goal

abbrev pub invariant-loop-name : goal.invariant-loop-name
invariant-loop-name l = Owned l.scope (marked_with l.table l.many l.scope.number) l.initial.here l.here

abbrev pub decreases-loop-name : goal.decreases-loop-name
decreases-loop-name l = length (names_at l.scope.store.now l.scope.area.now l.here)
