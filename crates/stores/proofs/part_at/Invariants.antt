-- `stores::part_at`: the record sought is as many records further on as are left to pass. Assumes nothing.
use Prim.Native.Nat.{◌-◌}
use mathlib.Core.Path.{◌≡◌}
use lib.ListN.{length}
use Rattle.entries.specs.Walk.{entries}
use Rattle.stores.specs.Content.{nth, part_of}
use Rattle.entries.proofs.Walking.{rest}
use Rattle.stores.proofs.part_at.Given as goal

abbrev pub invariant-loop-at : goal.invariant-loop-at
invariant-loop-at l = part_of (nth (entries l.store) l.number) ≡ part_of (nth (rest l.store l.at) l.left)

abbrev pub decreases-loop-at : goal.decreases-loop-at
decreases-loop-at l = length l.store - l.at
