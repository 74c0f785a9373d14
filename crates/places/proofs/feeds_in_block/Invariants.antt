-- `places::feeds_in_block`: whether a CR was met among the bytes seen, and how many of them are LF. Assumes nothing.
use Rattle.std.proofs.Common.{◌≡◌, not}
use Rattle.places.specs.Lines.{feeds, no_carriage}
use Rattle.text.specs.Runs.{runs}
use Rattle.places.proofs.feeds_in_block.Given as goal

abbrev pub invariant-loop-b : goal.invariant-loop-b
invariant-loop-b l = (l.carriage ≡ not (runs no_carriage l.b-index l.block 0)) × (l.count ≡ feeds l.b-index l.block 0)
