-- `cells::tag_behind`: behind the last column comes the first again, behind any other the next tag. Assumes nothing.
use native.Mathlib.Omega.{arith}
use Rattle.cells.proofs.Cells.{tag-again, tag-next}
use Rattle.cells.proofs.tag_behind.Goals as goal

pub returns-then-column-here : goal.returns-then-column-here
returns-then-column-here c =
    let h = c.args.here in
    tag-again _ h.count h.tags (omega (arith, c.column_of-column.ensures, c.if-column-here.true))

pub returns : goal.returns
returns c =
    let h = c.args.here in
    tag-next _ _ _ h.count h.tags (λ e. c.if-column-here.false (omega (arith, c.column_of-column.ensures))) c.requires.0.column c.record_behind.ensures
