-- `rendering::render` meets its contract. Assumes nothing.
use mathlib.Core.Path.{sym, ◌∙◌}
use native.Mathlib.Omega.{arith}
use Rattle.stores.proofs.Filling.{owned-sound}
use Rattle.rendering.proofs.Answers.{right-unsound, right-long, needed, right-room, right-done}
use Rattle.rendering.proofs.render.Goals as goal

pub returns-then-not-is_sound : goal.returns-then-not-is_sound
returns-then-not-is_sound c =
    let a = c.args in
    let right = right-unsound a.reading a.store.now a.area.now a.out.now (sym c.is_sound.ensures ∙ c.if-not-is_sound.true) in
    (right.answer, right.bytes)

pub rendered_length-length-requires : goal.rendered_length-length-requires
rendered_length-length-requires c = owned-sound _ _ _ (sym c.is_sound.ensures ∙ c.if-not-is_sound.false)

pub returns-then-length-gt-LIMIT : goal.returns-then-length-gt-LIMIT
returns-then-length-gt-LIMIT c =
    let a = c.args in
    let sound = sym c.is_sound.ensures ∙ c.if-not-is_sound.false in
    let right = right-long a.reading a.store.now a.area.now a.out.now sound _ c.rendered_length-length.ensures c.if-length-gt-LIMIT.true in
    (right.answer, right.bytes)

pub returns-then-out-length : goal.returns-then-out-length
returns-then-out-length c =
    let a = c.args in
    let sound = sym c.is_sound.ensures ∙ c.if-not-is_sound.false in
    let right = right-room a.reading a.store.now a.area.now a.out.now sound _ c.rendered_length-length.ensures c.if-length-gt-LIMIT.false c.if-out-length.true in
    (right.answer, right.bytes)

pub write_lines-requires : goal.write_lines-requires
write_lines-requires c =
    let a = c.args in
    let sound = sym c.is_sound.ensures ∙ c.if-not-is_sound.false in
    let size = needed a.reading a.store.now a.area.now a.out.now sound _ c.rendered_length-length.ensures c.if-length-gt-LIMIT.false in
    (owned-sound _ _ _ sound, omega (arith, size))

pub returns : goal.returns
returns c =
    let a = c.args in
    let sound = sym c.is_sound.ensures ∙ c.if-not-is_sound.false in
    let right = right-done a.reading a.store.now a.area.now a.out.now sound _ c.rendered_length-length.ensures c.if-length-gt-LIMIT.false _ c.if-out-length.false c.write_lines.ensures in
    (right.answer, right.bytes)
