-- `check_stores::damage::try_store`: each record starts behind the last. Assumes nothing.
use Rattle.std.proofs.Common.{◌-◌, length}
use Rattle.check_stores.proofs.damage.try_store.Given as goal

abbrev pub decreases-loop-at : goal.decreases-loop-at
decreases-loop-at g l = length l.initial.store - l.at
