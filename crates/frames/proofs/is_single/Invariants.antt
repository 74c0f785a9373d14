-- `frames::is_single`: the blocks counted, with those from here on, are all. Assumes nothing.
use Rattle.std.proofs.Common.{◌+◌, ◌-◌, ◌≤◌, ◌≡◌, length}
use Rattle.std.specs.Prelude.{eqb}
use Rattle.entries.proofs.Walking.{rest}
use Rattle.frames.specs.Frames.{is_single, blocks_in}
use Rattle.frames.proofs.is_single.Given as goal

abbrev pub invariant-loop-entry : goal.invariant-loop-entry
invariant-loop-entry l = (l.blocks ≤ l.at) × (is_single l.store ≡ eqb (l.blocks + blocks_in (rest l.store l.at)) 1)

abbrev pub decreases-loop-entry : goal.decreases-loop-entry
decreases-loop-entry l = length l.store - l.at
