-- `copying::copy_content`: where the loop stands, i bytes are copied, and it is Read that copies. Assumes nothing.
use Prim.Native.Nat.{◌+◌, ◌≤◌}
use mathlib.Core.Path.{◌≡◌}
use mathlib.Core.Bool.{true}
use lib.ListN.{length, take}
use Rattle.records.specs.Put.{put}
use Rattle.copying.proofs.copy_content.Given as goal

abbrev pub invariant-loop-i : goal.invariant-loop-i
invariant-loop-i l = (l.full ≡ true) × (l.at + length l.content ≤ length l.initial.area) × (length l.area ≡ length l.initial.area) × (l.area ≡ put l.at (take l.i l.content) l.initial.area)
