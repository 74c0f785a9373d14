-- `writing::close_frame`: the cursor is moved to where the items stopped, and one record is written there. Assumes nothing.
use mathlib.Core.Path.{refl}
use mathlib.Core.List.{[]}
use Rattle.kinds.specs.Kinds.{kind_of, shape_of}
use Rattle.writing.proofs.Frames.{closing-place, closed}
use Rattle.writing.proofs.close_frame.Goals as goal

pub write_mark-closed-requires : goal.write_mark-closed-requires
write_mark-closed-requires c =
    let a = c.args in
    let w = a.writer.now in
    let p = c.requires in
    let k = closing-place w.text.now a.c a.stop c.advance.result p.going p.closing c.advance.ensures in
    record { going = k.0; token = rw k.1 p.closing.token; alone = unfold kind_of shape_of in refl; room = rw k.1 p.room }

pub trimmed-requires : goal.trimmed-requires
trimmed-requires c =
    let x = c.write_mark-closed.ensures in
    rw x.same.text (x.wrote []).going.place

pub returns-clause-wrote : goal.returns-clause-wrote
returns-clause-wrote c =
    let a = c.args in
    let w = a.writer.now in
    let p = c.requires in
    let k = closing-place w.text.now a.c a.stop c.advance.result p.going p.closing c.advance.ensures in
    let x = c.write_mark-closed.ensures in
    rw (c.trimmed.ensures, x.same.text) (λ l. closed w.full w.text.now a.stop a.c _ _ _ w.store.now _ l k.1 refl refl (x.wrote l) refl)
