-- `cells::value_at`: the tag is the one that the spot keeps. Assumes nothing.
use Rattle.cells.proofs.Cells.{finds}
use Rattle.cells.proofs.value_at.Goals as goal

pub returns : goal.returns
returns c = finds _ _ _ _ c.requires c.column_of-column.ensures c.row_of.ensures
