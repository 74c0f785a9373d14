-- `rendering::rendered_length` meets its contract: where the loop stands, the lines so far have the total as their length, and all are those and the ones that are left.
-- Assumes nothing.
use mathlib.Core.Path.{◌≡◌, sym, ◌∙◌}
use native.Mathlib.Omega.{arith}
use Rattle.entries.specs.Entries.{entry_at, whole}
use Rattle.entries.proofs.Walking.{next-at}
use Rattle.rendering.proofs.Passing.{summing-first, summing-end, summing-none, summing-own, summing-over, summing-more}
use Rattle.rendering.proofs.rendered_length.Goals as goal

pub loop-from-init : goal.loop-from-init
loop-from-init c = summing-first _ _ _ c.requires

pub returns-in_default : goal.returns-in_default
returns-in_default c =
    let a = c.args in
    let here = c.loop-from in
    summing-none a.reading a.store.now a.area.now here.from here.total c.loop-from-test.true (sym c.read_record.ensures ∙ c.in_default.is) here.invariant

pub line_length-line-requires : goal.line_length-line-requires
line_length-line-requires c =
    let a = c.args in
    let here = c.loop-from in
    let e : entry_at a.store.now here.from ≡ whole c.in-Some.field-0.kind c.in-Some.field-0.fields c.in-Some.field-0.next = sym c.read_record.ensures ∙ c.in-Some.is in
    let test = c.loop-from-test.true in
    summing-own a.reading a.store.now a.area.now here.from here.total c.in-Some.field-0.kind c.in-Some.field-0.fields c.in-Some.field-0.next test e here.invariant

pub overflow_sub-total : goal.overflow_sub-total
overflow_sub-total c = omega (arith, c.loop-from.invariant.few)

pub returns-then-total-line : goal.returns-then-total-line
returns-then-total-line c =
    let a = c.args in
    let here = c.loop-from in
    let e : entry_at a.store.now here.from ≡ whole c.in-Some.field-0.kind c.in-Some.field-0.fields c.in-Some.field-0.next = sym c.read_record.ensures ∙ c.in-Some.is in
    let test = c.loop-from-test.true in
    let size = c.line_length-line.ensures in
    summing-over a.reading a.store.now a.area.now here.from here.total c.in-Some.field-0.kind c.in-Some.field-0.fields c.in-Some.field-0.next test e here.invariant (omega arith)

pub overflow_add-total : goal.overflow_add-total
overflow_add-total c = omega (arith, c.loop-from.invariant.few)

pub loop-from-smaller : goal.loop-from-smaller
loop-from-smaller c =
    let a = c.args in
    let here = c.loop-from in
    let e : entry_at a.store.now here.from ≡ whole c.in-Some.field-0.kind c.in-Some.field-0.fields c.in-Some.field-0.next = sym c.read_record.ensures ∙ c.in-Some.is in
    let test = c.loop-from-test.true in
    let far = next-at a.store.now here.from c.in-Some.field-0.kind c.in-Some.field-0.fields c.in-Some.field-0.next test e in
    omega (arith, far.onwards)

pub loop-from-preserved : goal.loop-from-preserved
loop-from-preserved c =
    let a = c.args in
    let here = c.loop-from in
    let e : entry_at a.store.now here.from ≡ whole c.in-Some.field-0.kind c.in-Some.field-0.fields c.in-Some.field-0.next = sym c.read_record.ensures ∙ c.in-Some.is in
    let test = c.loop-from-test.true in
    let size = c.line_length-line.ensures in
    rw size (summing-more a.reading a.store.now a.area.now here.from here.total c.in-Some.field-0.kind c.in-Some.field-0.fields c.in-Some.field-0.next test e here.invariant (omega arith))

pub returns : goal.returns
returns c =
    let a = c.args in
    let here = c.loop-from in
    summing-end a.reading a.store.now a.area.now here.from here.total c.loop-from-test.false here.invariant
