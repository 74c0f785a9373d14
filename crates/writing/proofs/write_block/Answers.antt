-- `writing::write_block`: the first heading, then all that is left. Assumes nothing.
use Prim.Native.Nat.{◌-◌}
use borrow.Author.Rules.{rules}
use mathlib.Core.Path.{◌≡◌, ap}
use native.Mathlib.Omega.{arith}
use Rattle.places.proofs.Places.{is-start}
use Rattle.words.proofs.Words.{word-from}
use Rattle.desk.specs.declared.Cursor.{Cursor}
use Rattle.trimming.specs.Placed.{placed}
use Rattle.desk.proofs.Ones.{block-marked}
use Rattle.records.specs.Put.{front}
use Rattle.writing.specs.Block.{store_bytes, area_bytes}
use Rattle.writing.proofs.Block.{begun, begins, block-head, block-ahead, block-stored, block-copied}
use Rattle.writing.proofs.write_block.Goals as goal

pub trim_from-place-requires : goal.trim_from-place-requires
unfolding placed
trim_from-place-requires c = is-start c.args.s.now

pub overflow_sub-end : goal.overflow_sub-end
overflow_sub-end c = omega (arith, c.parse_identifier-end.ensures, word-from c.args.s.now c.trim_from-place.result.offset)

pub write_heading-headed-requires : goal.write_heading-headed-requires
write_heading-headed-requires c =
    let a = c.args in
    let r = a.reading in
    let s = a.s.now in
    let f = c.requires in
    let h : Cursor = begun c.trim_from-place.result in
    let e = begins s c.trim_from-place.result c.trim_from-place.ensures in
    let z = ap (λ x. x - h.place.offset) c.parse_identifier-end.ensures in
    (block-head r a.full s a.store.now a.area.now f h e _ z, block-marked)

pub write_items-requires : goal.write_items-requires
write_items-requires c =
    let a = c.args in
    let r = a.reading in
    let s = a.s.now in
    let f = c.requires in
    let h : Cursor = begun c.trim_from-place.result in
    let e = begins s c.trim_from-place.result c.trim_from-place.ensures in
    let z = ap (λ x. x - h.place.offset) c.parse_identifier-end.ensures in
    let t = c.write_heading-headed.ensures.same in
    rw (t.reading, t.text, t.full) (block-ahead r a.full s a.store.now a.area.now f h e _ z _ c.write_heading-headed.ensures.wrote)

pub returns-clause-store_after : goal.returns-clause-store_after
returns-clause-store_after c =
    let a = c.args in
    let r = a.reading in
    let s = a.s.now in
    let f = c.requires in
    let h : Cursor = begun c.trim_from-place.result in
    let e = begins s c.trim_from-place.result c.trim_from-place.ensures in
    let z = ap (λ x. x - h.place.offset) c.parse_identifier-end.ensures in
    let w = c.write_heading-headed.ensures.wrote in
    let t = c.write_heading-headed.ensures.same in
    let x = rw (t.reading, t.text, t.full) at c.write_items.ensures.wrote in
    let e : c.write_items.new.writer.store.now ≡ front (store_bytes r a.full s) a.store.now = block-stored r a.full s a.store.now a.area.now f h e _ z _ w _ x in
    search rules

pub returns-clause-area_after : goal.returns-clause-area_after
returns-clause-area_after c =
    let a = c.args in
    let r = a.reading in
    let s = a.s.now in
    let f = c.requires in
    let h : Cursor = begun c.trim_from-place.result in
    let e = begins s c.trim_from-place.result c.trim_from-place.ensures in
    let z = ap (λ x. x - h.place.offset) c.parse_identifier-end.ensures in
    let w = c.write_heading-headed.ensures.wrote in
    let t = c.write_heading-headed.ensures.same in
    let x = rw (t.reading, t.text, t.full) at c.write_items.ensures.wrote in
    let e : c.write_items.new.writer.area.now ≡ front (area_bytes r a.full s) a.area.now = block-copied r a.full s a.store.now a.area.now f h e _ z _ w _ x in
    search rules
