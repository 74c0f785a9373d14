-- `sorted::place_of`: the steps that are left lead to the same place. Assumes nothing.
use Rattle.std.proofs.Common.{◌≡◌, ◌≤◌, ◌-◌, length}
use Rattle.sorted.specs.Found.{place_from, place_of}
use Rattle.sorted.proofs.place_of.Given as goal

abbrev pub invariant-loop-step : goal.invariant-loop-step
invariant-loop-step l = (l.at ≤ length l.table) × (l.half ≤ 8191) × (place_of l.store l.area l.table l.x ≡ place_from l.store l.area l.table (14 - l._step) l.at l.half l.x)
