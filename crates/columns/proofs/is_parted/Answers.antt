-- `columns::is_parted`: by the reading. Assumes nothing.
use mathlib.Core.Path.{◌∙◌}
use Rattle.columns.proofs.is_parted.Goals as goal

pub returns-in-Strict : goal.returns-in-Strict
returns-in-Strict c = rw c.in-Strict.is (c.is_space.ensures ∙ rw c.byte_before.ensures)
