-- `writing::write_items`: at each turn what is left to read from the cursor on is what was left, less what is written. Assumes nothing.
use Rattle.desk.specs.Writer.{desk_of}
use Rattle.writing.proofs.Frames.{block-ended}
use Rattle.writing.proofs.write_items.Goals as goal

pub returns-clause-wrote : goal.returns-clause-wrote
returns-clause-wrote c =
    let w = c.args.writer.now in
    let i = c.loop-here.invariant in
    block-ended w.reading w.full w.text.now _ (desk_of w c.args.c) (desk_of c.loop-here.writer c.loop-here.here) i.inside.ahead (rw i.same.text at c.loop-here-test.false) i.inside.onward
