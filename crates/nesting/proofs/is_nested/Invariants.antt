-- `nesting::is_nested`: the whole is nested just where what is left is, from here on; no more values are counted than bytes passed. Assumes nothing.
use Prim.Native.Nat.{◌-◌, ◌≤◌}
use mathlib.Core.Path.{◌≡◌}
use lib.ListN.{length}
use Rattle.entries.specs.Walk.{entries}
use Rattle.nesting.specs.Nesting.{nested, nested_from, counted}
use Rattle.entries.proofs.Walking.{rest}
use Rattle.nesting.proofs.is_nested.Given as goal

abbrev pub invariant-loop-at : goal.invariant-loop-at
invariant-loop-at l = (l.at ≤ length l.store) × (counted l.here.place ≤ l.at) × (nested l.reading (entries l.store) ≡ nested_from l.reading (rest l.store l.at) l.here.frame l.here.place)

abbrev pub decreases-loop-at : goal.decreases-loop-at
decreases-loop-at l = length l.store - l.at
