-- `walking::write_names`: what is written so far and the names from the cursor on are the names from the start on. Assumes nothing.
use Prim.Native.Nat.{◌-◌}
use lib.ListN.{length}
use Rattle.desk.specs.Writer.{desk_of, Same}
use Rattle.walking.specs.Walk.{names_from, behind_names}
use Rattle.walking.proofs.SoFar.{SoFar}
use Rattle.walking.proofs.write_names.Given as goal

abbrev pub invariant-loop-here : goal.invariant-loop-here
invariant-loop-here l =
    let w = l.initial.writer in
    record {
      same : Same w l.writer;
      so_far : SoFar w.full w.text.now (names_from w.reading w.text.now) (behind_names w.reading w.text.now) (desk_of w l.initial.last) (desk_of l.writer l.last);
    }

abbrev pub decreases-loop-here : goal.decreases-loop-here
decreases-loop-here l = length l.initial.writer.text.now - l.last.place.offset
