-- `windows::by_marks`: the names that are entered, then those that are passed. Assumes nothing.
use Rattle.tables.proofs.Tables.{marked-same}
use Rattle.windows.proofs.Windows.{windowed}
use Rattle.windows.proofs.by_marks.Goals as goal

pub returns : goal.returns
returns c = windowed _ _ _ _ _ (marked-same _ _ _) c.enter_names-own.ensures c.pass_names-end.ensures
