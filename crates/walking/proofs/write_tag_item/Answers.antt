-- `walking::write_tag_item`: the tag, then the one value behind it. Assumes nothing.
use Prim.Native.Nat.{◌-◌}
use mathlib.Core.Path.{refl, ap}
use native.Mathlib.Omega.{arith}
use Rattle.words.proofs.Words.{word-from}
use Rattle.kinds.specs.Kinds.{kind_of, shape_of}
use Rattle.desk.specs.Writer.{desk_of}
use Rattle.desk.proofs.Ones.{tag-marked}
use Rattle.walking.proofs.Items.{tag-token, tag-room, tag-value-room, tag-done}
use Rattle.walking.proofs.write_tag_item.Goals as goal

pub overflow_sub-end : goal.overflow_sub-end
overflow_sub-end c =
    omega (arith, c.long_word_end-end.ensures, word-from c.args.writer.now.text.now c.args.c.place.offset)

pub write_tag-tagged-requires : goal.write_tag-tagged-requires
write_tag-tagged-requires c =
    let a = c.args in
    let w = a.writer.now in
    let s = w.text.now in
    let d = desk_of w a.c in
    let p = c.requires in
    let q = ap (λ x. x - a.c.place.offset) c.long_word_end-end.ensures in
    (record { going = p.0.going; token = tag-token w.reading w.full s d p.0 p.1 _ q; content = unfold kind_of shape_of in refl; room = tag-room w.reading w.full s d p.0 p.1 _ q }, tag-marked)

pub write_values-requires : goal.write_values-requires
write_values-requires c =
    let a = c.args in
    let w = a.writer.now in
    let s = w.text.now in
    let d = desk_of w a.c in
    let p = c.requires in
    let q = ap (λ x. x - a.c.place.offset) c.long_word_end-end.ensures in
    let t = c.write_tag-tagged.ensures.same in
    let x = c.write_tag-tagged.ensures.wrote in
    rw (t.reading, t.text, t.full) (record { going = x.going; room = tag-value-room w.reading w.full s d p.0 p.1 _ q _ x })

pub returns-clause-wrote : goal.returns-clause-wrote
returns-clause-wrote c =
    let a = c.args in
    let w = a.writer.now in
    let s = w.text.now in
    let d = desk_of w a.c in
    let p = c.requires in
    let q = ap (λ x. x - a.c.place.offset) c.long_word_end-end.ensures in
    let t = c.write_tag-tagged.ensures.same in
    (tag-done w.reading w.full s d p.0 p.1 _ q _ c.write_tag-tagged.ensures.wrote _ (rw (t.reading, t.text, t.full) at c.write_values.ensures.wrote)).1
