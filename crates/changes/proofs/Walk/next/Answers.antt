-- `changes::Walk::next`: no value that was passed over has an entry. Assumes nothing.
use mathlib.Core.Path.{◌∙◌}
use Rattle.cells.proofs.Cells.{met, meets-less}
use Rattle.changes.proofs.Changes.{asks-next, walks-next, rest-same, step-some, step-none}
use Rattle.changes.proofs.Walk.next.Goals as goal

pub find-sought-requires : goal.find-sought-requires
find-sought-requires c = asks-next _ _ _ _ c.requires.0 _ c.loop-value.invariant.walks _ _ (met _ _ _ _ c.next_value.ensures c.in-Some.is) _

pub of_side-requires : goal.of_side-requires
of_side-requires c = (c.requires.0, (met _ _ _ _ c.next_value.ensures c.in-Some.is).lies, c.find-sought.ensures.partner)

pub loop-value-smaller : goal.loop-value-smaller
loop-value-smaller c = meets-less _ _ _ _ (met _ _ _ _ c.next_value.ensures c.in-Some.is)

pub loop-value-preserved : goal.loop-value-preserved
loop-value-preserved c =
    let inv = c.loop-value.invariant in
    let m = met _ _ _ _ c.next_value.ensures c.in-Some.is in
    record {
      walks = walks-next c.args.old _ _ _ _ _ inv.walks _ _ m _ _ c.find-sought.ensures;
      passed = inv.passed ∙ rest-same _ _ _ _ _ _ inv.walks _ _ m 0 _ c.find-sought.ensures (rw c.in_default-of_side.is at c.of_side.ensures);
    }

pub returns-in-Some-of_side : goal.returns-in-Some-of_side
returns-in-Some-of_side c =
    let inv = c.loop-value.invariant in
    let m = met _ _ _ _ c.next_value.ensures c.in-Some.is in
    step-some _ _ _ _ _ _ inv.walks _ _ m _ _ c.find-sought.ensures _ inv.passed _ (rw c.in-Some-of_side.is at c.of_side.ensures)

pub returns : goal.returns
returns c = step-none _ _ _ _ _ _ c.loop-value.self _ c.loop-value.invariant.passed _ c.next_value.ensures c.in_default.is
