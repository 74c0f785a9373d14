-- `nesting::is_nested`: the whole is nested just where what is left is, from here on; no more values are counted than bytes passed. Assumes nothing.
use Prim.Native.Nat.{◌<◌}
use mathlib.Core.Path.{◌≡◌, sym, ◌∙◌}
use native.Mathlib.Omega.{arith}
use lib.ListN.{length}
use Rattle.std.specs.Prelude.{None}
use Rattle.kinds.specs.Kinds.{number_of}
use Rattle.entries.specs.Entries.{entry_at, whole}
use Rattle.nesting.specs.Nesting.{standing, stands}
use Rattle.entries.proofs.Walking.{next-at}
use Rattle.nesting.proofs.Nesting.{nest-end, nest-none, nest-falls, nest-stands, counted-one, nest-all}
use Rattle.nesting.proofs.is_nested.Goals as goal

pub loop-at-init : goal.loop-at-init
loop-at-init c = (omega arith, omega arith, nest-all c.args.reading c.args.store.now)

pub returns-in_default : goal.returns-in_default
returns-in_default c =
    let now = c.loop-at in
    sym (now.invariant.2 ∙ nest-none _ c.args.store.now now.at now.here.frame now.here.place c.loop-at-test.true (sym c.read_record.ensures ∙ c.in_default.is))

pub returns-in_default-after : goal.returns-in_default-after
returns-in_default-after c =
    let st = c.args.store.now in
    let now = c.loop-at in
    let r = c.in-Some.field-0 in
    let e : entry_at st now.at ≡ whole r.kind r.fields r.next = sym c.read_record.ensures ∙ c.in-Some.is in
    let s : standing c.args.reading now.here.frame now.here.place (number_of r.kind) r.fields.number ≡ None = sym c.after.ensures ∙ c.in_default-after.is in
    sym (now.invariant.2 ∙ nest-falls _ st now.at now.here.frame now.here.place _ _ _ c.loop-at-test.true e s)

pub loop-at-smaller : goal.loop-at-smaller
loop-at-smaller c =
    let st = c.args.store.now in
    let r = c.in-Some.field-0 in
    let far = next-at st c.loop-at.at r.kind r.fields r.next (omega arith) (sym c.read_record.ensures ∙ c.in-Some.is) in
    omega (arith, far.onwards, far.within)

pub loop-at-preserved : goal.loop-at-preserved
loop-at-preserved c =
    let st = c.args.store.now in
    let now = c.loop-at in
    let r = c.in-Some.field-0 in
    let then = c.in-Some-after.then in
    let inside : now.at < length st = omega arith in
    let e : entry_at st now.at ≡ whole r.kind r.fields r.next = sym c.read_record.ensures ∙ c.in-Some.is in
    let s : standing c.args.reading now.here.frame now.here.place (number_of r.kind) r.fields.number ≡ stands then.frame then.place = sym c.after.ensures ∙ c.in-Some-after.is in
    let far = next-at st now.at _ _ _ inside e in
    let more = counted-one _ _ now.here.place _ _ _ then.place s in
    (far.within, omega (arith, more, now.invariant.1, far.onwards), now.invariant.2 ∙ nest-stands _ st now.at now.here.frame now.here.place _ _ _ inside e _ _ s)

pub returns : goal.returns
returns c =
    let now = c.loop-at in
    sym (now.invariant.2 ∙ nest-end _ c.args.store.now now.at now.here.frame now.here.place c.loop-at-test.false ∙ sym c.has_ended.ensures)
