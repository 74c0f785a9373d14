-- `walking::write_values`: what is written so far and the values from the cursor on are the values from the start on. Assumes nothing.
use Prim.Native.Nat.{◌-◌}
use lib.ListN.{length}
use Rattle.desk.specs.Writer.{desk_of, Same}
use Rattle.walking.specs.Walk.{values_from, behind_values}
use Rattle.walking.proofs.SoFar.{SoFar}
use Rattle.walking.proofs.write_values.Given as goal

abbrev pub invariant-loop-kind : goal.invariant-loop-kind
invariant-loop-kind l =
    let w = l.initial.writer in
    record {
      same : Same w l.writer;
      so_far : SoFar w.full w.text.now (values_from w.reading w.text.now) (behind_values w.reading w.text.now) (desk_of w l.initial.last) (desk_of l.writer l.last);
    }

abbrev pub decreases-loop-kind : goal.decreases-loop-kind
decreases-loop-kind l = length l.initial.writer.text.now - l.last.place.offset
