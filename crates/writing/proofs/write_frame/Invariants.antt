-- `writing::write_frame`: at each turn what is left to read from the cursor on is what was left, less what is written. Assumes nothing.
use Prim.Native.Nat.{◌-◌}
use lib.ListN.{length}
use Rattle.desk.specs.Writer.{desk_of, Same}
use Rattle.writing.proofs.Frames.{Inside}
use Rattle.writing.proofs.write_frame.Given as goal

abbrev pub invariant-loop-stop : goal.invariant-loop-stop
invariant-loop-stop l =
    let w = l.fn.writer in
    record { same : Same w l.writer; inside : Inside w.reading w.full w.text.now l.start (desk_of l.initial.writer l.initial.here) (desk_of l.writer l.here) }

abbrev pub decreases-loop-stop : goal.decreases-loop-stop
decreases-loop-stop l = length l.fn.writer.text.now - l.here.place.offset
