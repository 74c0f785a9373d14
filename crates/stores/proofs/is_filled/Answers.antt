-- `stores::is_filled`: the whole is filled just where what is left is, from here on. Assumes nothing.
use Prim.Native.Nat.{◌<◌}
use mathlib.Core.Path.{◌≡◌, sym, ◌∙◌}
use mathlib.Core.Bool.{true}
use native.Mathlib.Omega.{arith}
use lib.ListN.{length}
use Rattle.entries.specs.Entries.{entry_at, whole}
use Rattle.stores.specs.Soundness.{kept}
use Rattle.entries.proofs.Walking.{next-at}
use Rattle.stores.proofs.Filling.{fill-all, fill_end, fill_none, fill-breaks, fill-keeps, takes-inside}
use Rattle.stores.proofs.is_filled.Goals as goal

pub loop-at-init : goal.loop-at-init
loop-at-init c = (omega arith, omega arith, fill-all c.args.reading c.args.store.now c.args.area.now)

pub returns-in_default : goal.returns-in_default
returns-in_default c =
    let given = c.args in
    let here = c.loop-at in
    sym (here.invariant.2 ∙ fill_none given.reading given.store.now given.area.now here.at here.from c.loop-at-test.true (sym c.read_record.ensures ∙ c.in_default.is))

pub returns-then-not-is_kept : goal.returns-then-not-is_kept
returns-then-not-is_kept c =
    let given = c.args in
    let here = c.loop-at in
    let e : entry_at given.store.now here.at ≡ whole c.in-Some.field-0.kind c.in-Some.field-0.fields c.in-Some.field-0.next = sym c.read_record.ensures ∙ c.in-Some.is in
    sym (here.invariant.2 ∙ fill-breaks given.reading given.store.now given.area.now here.at here.from _ _ _ c.loop-at-test.true e (sym c.is_kept.ensures ∙ c.if-not-is_kept.true))

pub overflow_add-from : goal.overflow_add-from
overflow_add-from c =
    let given = c.args in
    let here = c.loop-at in
    let room = takes-inside given.reading given.area.now here.from c.in-Some.field-0.kind c.in-Some.field-0.fields here.invariant.1 (sym c.is_kept.ensures ∙ c.if-not-is_kept.false) in
    omega (arith, room, c.taken-from.ensures)

pub loop-at-smaller : goal.loop-at-smaller
loop-at-smaller c =
    let given = c.args in
    let here = c.loop-at in
    let far = next-at given.store.now here.at c.in-Some.field-0.kind c.in-Some.field-0.fields c.in-Some.field-0.next (omega arith) (sym c.read_record.ensures ∙ c.in-Some.is) in
    omega (arith, far.onwards, far.within)

pub loop-at-preserved : goal.loop-at-preserved
loop-at-preserved c =
    let given = c.args in
    let here = c.loop-at in
    let inside : here.at < length given.store.now = omega arith in
    let e : entry_at given.store.now here.at ≡ whole c.in-Some.field-0.kind c.in-Some.field-0.fields c.in-Some.field-0.next = sym c.read_record.ensures ∙ c.in-Some.is in
    let keeps : kept given.reading given.area.now here.from c.in-Some.field-0.kind c.in-Some.field-0.fields ≡ true = sym c.is_kept.ensures ∙ c.if-not-is_kept.false in
    let room = takes-inside given.reading given.area.now here.from c.in-Some.field-0.kind c.in-Some.field-0.fields here.invariant.1 keeps in
    ((next-at given.store.now here.at _ _ _ inside e).within, omega (arith, room, c.taken-from.ensures), here.invariant.2 ∙ fill-keeps given.reading given.store.now given.area.now here.at here.from _ _ _ inside e keeps ∙ rw (← c.taken-from.ensures))

pub returns : goal.returns
returns c =
    let given = c.args in
    let here = c.loop-at in
    sym (here.invariant.2 ∙ fill_end given.reading given.store.now given.area.now here.at here.from c.loop-at-test.false)
