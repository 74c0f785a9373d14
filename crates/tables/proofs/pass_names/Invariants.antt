-- `tables::pass_names`: no name up to here was met. Assumes nothing.
use Rattle.std.proofs.Common.{length}
use Rattle.steps.specs.Steps.{names_at}
use Rattle.tables.specs.Tables.{met_by, Passed}
use Rattle.tables.proofs.pass_names.Given as goal

abbrev pub invariant-loop-name : goal.invariant-loop-name
invariant-loop-name l = Passed l.scope (met_by l.scope l.table) l.initial.here l.here

abbrev pub decreases-loop-name : goal.decreases-loop-name
decreases-loop-name l = length (names_at l.scope.store.now l.scope.area.now l.here)
