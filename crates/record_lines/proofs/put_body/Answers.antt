-- `record_lines::put_body` meets its contract: by the shape of the record. Assumes nothing.
use Prim.Native.Nat.{◌-◌}
use mathlib.Core.Path.{sym, ap, ◌∙◌}
use mathlib.Core.Bool.{true, false}
use native.Mathlib.Omega.{arith}
use lib.ListN.{take, drop, length-take, length-drop}
use Rattle.numbers.specs.Spelling.{render_number}
use Rattle.kinds.specs.Kinds.{is_content, marks_of}
use Rattle.record_lines.specs.Writing.{body_text}
use Rattle.numerals.proofs.Wrote.{wrote_none, wrote_as, room_as}
use Rattle.record_lines.proofs.Lines.{body-content, body-parts, body-uncertain, body-none, writable-inside, writable-parts, parts-short}
use Rattle.record_lines.proofs.put_body.Goals as goal

pub overflow_sub-token : goal.overflow_sub-token
unfolding is_content
overflow_sub-token c =
    let content = sym c.shape-shape.ensures ∙ c.in-Content.is in
    let kept = writable-inside c.args.area.now c.args.kind c.args.fields c.requires.0 (ap is_content content) in
    omega (arith, kept.marked, c.marks.ensures)

pub put_part-requires : goal.put_part-requires
unfolding is_content
put_part-requires c =
    let content = sym c.shape-shape.ensures ∙ c.in-Content.is in
    let kept = writable-inside c.args.area.now c.args.kind c.args.fields c.requires.0 (ap is_content content) in
    let room = room_as _ _ (body-content _ _ c.args.fields content) c.requires.1 in
    let size = length-take (c.args.fields.token.length - marks_of c.args.kind) (drop c.args.fields.number c.args.area.now) in
    let rest = length-drop c.args.fields.number c.args.area.now in
    (omega (arith, c.marks.ensures, kept.inside), omega (arith, c.marks.ensures, kept.inside))

pub put_number-requires : goal.put_number-requires
unfolding is_content
put_number-requires c =
    let parts = sym c.shape-shape.ensures ∙ c.in-Parts.is in
    let kept = writable-parts c.args.area.now c.args.kind c.args.fields c.requires.0 (ap is_content parts) in
    rw c.decimal_of.ensures (parts-short false c.args.fields.parts kept, room_as _ _ (body-parts _ _ c.args.fields parts) c.requires.1)

pub put_number-requires-in-PartsUncertain : goal.put_number-requires-in-PartsUncertain
unfolding is_content
put_number-requires-in-PartsUncertain c =
    let parts = sym c.shape-shape.ensures ∙ c.in-PartsUncertain.is in
    let kept = writable-parts c.args.area.now c.args.kind c.args.fields c.requires.0 (ap is_content parts) in
    rw c.decimal_of-in-PartsUncertain.ensures (parts-short true c.args.fields.parts kept, room_as _ _ (body-uncertain _ _ c.args.fields parts) c.requires.1)

pub returns-in-Content : goal.returns-in-Content
returns-in-Content c =
    let content = sym c.shape-shape.ensures ∙ c.in-Content.is in
    let size = ap (λ m. take (c.args.fields.token.length - m) (drop c.args.fields.number c.args.area.now)) c.marks.ensures in
    wrote_as (size ∙ sym (body-content _ _ c.args.fields content)) c.put_part.ensures

pub returns-in-Parts : goal.returns-in-Parts
returns-in-Parts c =
    let parts = sym c.shape-shape.ensures ∙ c.in-Parts.is in
    wrote_as (ap render_number c.decimal_of.ensures ∙ sym (body-parts _ _ c.args.fields parts)) c.put_number.ensures

pub returns-in-PartsUncertain : goal.returns-in-PartsUncertain
returns-in-PartsUncertain c =
    let parts = sym c.shape-shape.ensures ∙ c.in-PartsUncertain.is in
    wrote_as (ap render_number c.decimal_of-in-PartsUncertain.ensures ∙ sym (body-uncertain _ _ c.args.fields parts)) c.put_number-in-PartsUncertain.ensures

pub returns-in_default : goal.returns-in_default
unfolding body_text
returns-in_default c =
    wrote_as (sym (rw (← c.shape-shape.ensures) (body-none c.shape-shape.result _ _ c.in_default.in_default-own.keys4))) (wrote_none _ _)
