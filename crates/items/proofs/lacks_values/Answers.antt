-- `items::lacks_values`: by the reading. Assumes nothing.
use Rattle.items.proofs.lacks_values.Goals as goal

pub returns-in-Strict : goal.returns-in-Strict
returns-in-Strict c = rw c.in-Strict.is
