-- `windows::by_order`: the names that are found, then those that are passed. Assumes nothing.
use Rattle.tables.proofs.Tables.{found-same}
use Rattle.windows.proofs.Windows.{windowed}
use Rattle.windows.proofs.by_order.Goals as goal

pub returns : goal.returns
returns c = windowed _ _ _ _ _ (found-same _ _) c.find_names-own.ensures c.pass_names-end.ensures
