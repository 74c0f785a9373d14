-- `writing::write_items`: at each turn what is left to read from the cursor on is what was left, less what is written. Assumes nothing.
use Prim.Native.Nat.{◌-◌}
use lib.ListN.{length}
use Rattle.desk.specs.Writer.{desk_of, Same}
use Rattle.writing.proofs.Frames.{InBlock}
use Rattle.writing.proofs.write_items.Given as goal

abbrev pub invariant-loop-here : goal.invariant-loop-here
invariant-loop-here l =
    let w = l.initial.writer in
    record { same : Same w l.writer; inside : InBlock w.reading w.full w.text.now (desk_of w l.initial.here) (desk_of l.writer l.here) }

abbrev pub decreases-loop-here : goal.decreases-loop-here
decreases-loop-here l = length l.initial.writer.text.now - l.here.place.offset
