-- `tables::find_names`: up to here each name of the scope was found behind the one before. Assumes nothing.
use Rattle.std.proofs.Common.{length}
use Rattle.steps.specs.Steps.{names_at}
use Rattle.tables.proofs.Tables.{Finding}
use Rattle.tables.proofs.find_names.Given as goal

abbrev pub invariant-loop-name : goal.invariant-loop-name
invariant-loop-name l = Finding l.scope l.offsets l.initial.here l.last l.here

abbrev pub decreases-loop-name : goal.decreases-loop-name
decreases-loop-name l = length (names_at l.scope.store.now l.scope.area.now l.here)
