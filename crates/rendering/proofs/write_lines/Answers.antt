-- `rendering::write_lines` meets its contract: where the loop stands, the lines so far are written, and the others are left. Assumes nothing.
use mathlib.Core.Path.{◌≡◌, sym, ◌∙◌}
use native.Mathlib.Omega.{arith}
use Rattle.entries.specs.Entries.{entry_at, whole}
use Rattle.entries.proofs.Walking.{next-at}
use Rattle.rendering.proofs.Passing.{writing-first, writing-end, writing-none, writing-own, writing-room, writing_more}
use Rattle.rendering.proofs.write_lines.Goals as goal

pub loop-from-init : goal.loop-from-init
loop-from-init c = writing-first _ _ _ _ c.requires.0 c.requires.1

pub returns-in_default : goal.returns-in_default
returns-in_default c =
    let a = c.args in
    let here = c.loop-from in
    writing-none a.reading a.store.now a.area.now a.out.now here.out here.from here.at here.invariant c.loop-from-test.true (sym c.read_record.ensures ∙ c.in_default.is)

pub write_line-at-requires : goal.write_line-at-requires
write_line-at-requires c =
    let a = c.args in
    let here = c.loop-from in
    let e : entry_at a.store.now here.from ≡ whole c.in-Some.field-0.kind c.in-Some.field-0.fields c.in-Some.field-0.next = sym c.read_record.ensures ∙ c.in-Some.is in
    let test = c.loop-from-test.true in
    (writing-own a.reading a.store.now a.area.now a.out.now here.out here.from here.at here.invariant c.in-Some.field-0.kind c.in-Some.field-0.fields c.in-Some.field-0.next test e, writing-room a.reading a.store.now a.area.now a.out.now here.out here.from here.at here.invariant c.in-Some.field-0.kind c.in-Some.field-0.fields c.in-Some.field-0.next test e)

pub loop-from-smaller : goal.loop-from-smaller
loop-from-smaller c =
    let a = c.args in
    let here = c.loop-from in
    let e : entry_at a.store.now here.from ≡ whole c.in-Some.field-0.kind c.in-Some.field-0.fields c.in-Some.field-0.next = sym c.read_record.ensures ∙ c.in-Some.is in
    let test = c.loop-from-test.true in
    let far = next-at a.store.now here.from c.in-Some.field-0.kind c.in-Some.field-0.fields c.in-Some.field-0.next test e in
    omega (arith, far.onwards)

pub loop-from-preserved : goal.loop-from-preserved
loop-from-preserved c =
    let a = c.args in
    let here = c.loop-from in
    let e : entry_at a.store.now here.from ≡ whole c.in-Some.field-0.kind c.in-Some.field-0.fields c.in-Some.field-0.next = sym c.read_record.ensures ∙ c.in-Some.is in
    let test = c.loop-from-test.true in
    writing_more a.reading a.store.now a.area.now a.out.now here.out here.from here.at here.invariant c.in-Some.field-0.kind c.in-Some.field-0.fields c.in-Some.field-0.next test e _ _ c.write_line-at.ensures

pub returns : goal.returns
returns c =
    let a = c.args in
    let here = c.loop-from in
    writing-end a.reading a.store.now a.area.now a.out.now here.out here.from here.at here.invariant c.loop-from-test.false
