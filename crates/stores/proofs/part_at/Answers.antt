-- `stores::part_at`: the record sought is as many records further on as are left to pass. Assumes nothing.
use mathlib.Core.Path.{◌≡◌, sym, ◌∙◌}
use native.Mathlib.Omega.{arith}
use Rattle.entries.specs.Entries.{entry_at, whole}
use Rattle.entries.proofs.Walking.{next-at}
use Rattle.stores.proofs.Looking.{part-all, part_end, part_none, part-here, part-more}
use Rattle.stores.proofs.part_at.Goals as goal

pub loop-at-init : goal.loop-at-init
loop-at-init c = part-all c.args.store.now c.args.number

pub returns-in_default : goal.returns-in_default
returns-in_default c =
    let st = c.args.store.now in
    let here = c.loop-at in
    sym (here.invariant ∙ part_none st here.at here.left c.loop-at-test.true (sym c.read_record.ensures ∙ c.in_default.is))

pub returns-then-left-eq0 : goal.returns-then-left-eq0
returns-then-left-eq0 c =
    let st = c.args.store.now in
    let here = c.loop-at in
    let e : entry_at st here.at ≡ whole c.in-Some.field-0.kind c.in-Some.field-0.fields c.in-Some.field-0.next = sym c.read_record.ensures ∙ c.in-Some.is in
    sym (here.invariant ∙ part-here st here.at _ _ _ c.loop-at-test.true e here.left c.if-left-eq0.true ∙ sym c.part_of.ensures)

pub overflow_sub-left : goal.overflow_sub-left
overflow_sub-left c = omega arith

pub loop-at-smaller : goal.loop-at-smaller
loop-at-smaller c =
    let st = c.args.store.now in
    let here = c.loop-at in
    let far = next-at st here.at c.in-Some.field-0.kind c.in-Some.field-0.fields c.in-Some.field-0.next (omega arith) (sym c.read_record.ensures ∙ c.in-Some.is) in
    omega (arith, far.onwards, far.within)

pub loop-at-preserved : goal.loop-at-preserved
loop-at-preserved c =
    let st = c.args.store.now in
    let here = c.loop-at in
    let e : entry_at st here.at ≡ whole c.in-Some.field-0.kind c.in-Some.field-0.fields c.in-Some.field-0.next = sym c.read_record.ensures ∙ c.in-Some.is in
    here.invariant ∙ part-more st here.at _ _ _ c.loop-at-test.true e here.left c.if-left-eq0.false

pub returns : goal.returns
returns c =
    let st = c.args.store.now in
    let here = c.loop-at in
    sym (here.invariant ∙ part_end st here.at here.left c.loop-at-test.false)
