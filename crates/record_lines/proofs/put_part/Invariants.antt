-- `record_lines::put_part` meets its contract: where the loop stands, i bytes are copied. Assumes nothing.
use Prim.Native.Nat.{◌≤◌}
use mathlib.Core.Path.{◌≡◌}
use lib.ListN.{length, take, drop}
use Rattle.records.specs.Put.{put}
use Rattle.record_lines.proofs.put_part.Given as goal

abbrev pub invariant-loop-i : goal.invariant-loop-i
invariant-loop-i l = (l.i ≤ l.size) × (length l.out ≡ length l.initial.out) × (l.out ≡ put l.at (take l.i (drop l.from l.source)) l.initial.out)
