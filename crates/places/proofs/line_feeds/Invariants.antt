-- `places::line_feeds`: by blocks, then byte by byte. Assumes nothing.
use Prim.Native.Nat.{◌+◌, ◌*◌, ◌/◌}
use lib.ListN.{length}
use Rattle.places.proofs.Feeds.{Counted}
use Rattle.places.proofs.line_feeds.Given as goal

-- up to here no CR stands, and count is right
abbrev pub invariant-loop-block : goal.invariant-loop-block
invariant-loop-block l = Counted l.part (l.block-index * 32) l.count

abbrev pub invariant-loop-b : goal.invariant-loop-b
invariant-loop-b l = Counted l.part (length l.part / 32 * 32 + l.b-index) l.count
