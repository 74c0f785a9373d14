-- `writing::write_part`: by whether `save_` stands there, or a `data_` that begins a further block. Assumes nothing.
use Prim.Native.Nat.{◌-◌}
use mathlib.Core.Path.{sym, ap, ◌∙◌}
use native.Mathlib.Omega.{arith}
use Rattle.words.proofs.Words.{word-from}
use Rattle.desk.specs.Writer.{desk_of}
use Rattle.desk.proofs.Ones.{block-marked}
use Rattle.writing.proofs.Frames.{further-ahead, further-moved, block-item-here, block-item-moved}
use Rattle.writing.proofs.write_part.Goals as goal

pub overflow_sub-end : goal.overflow_sub-end
overflow_sub-end c =
    let a = c.args in
    let w = a.writer.now in
    omega (arith, c.parse_identifier-end.ensures, word-from w.text.now a.c.place.offset)

pub write_heading-requires : goal.write_heading-requires
write_heading-requires c =
    let a = c.args in
    let w = a.writer.now in
    let r = w.reading in
    let s = w.text.now in
    let f = w.full in
    let p = c.requires in
    let d₀ = desk_of w a.c in
    let q = ap (λ x. x - a.c.place.offset) c.parse_identifier-end.ensures in
    (further-ahead r f s d₀ p.0 _ q (sym c.heads_block.ensures ∙ c.if-heads_block.true), block-marked)

pub returns-then-heads_block-clause-moved : goal.returns-then-heads_block-clause-moved
returns-then-heads_block-clause-moved c =
    let a = c.args in
    let w = a.writer.now in
    let r = w.reading in
    let s = w.text.now in
    let f = w.full in
    let p = c.requires in
    let d₀ = desk_of w a.c in
    let q = ap (λ x. x - a.c.place.offset) c.parse_identifier-end.ensures in
    further-moved r f s d₀ p.0 _ q (sym c.heads_block.ensures ∙ c.if-heads_block.true) _ c.write_heading.ensures.wrote

pub write_item-requires : goal.write_item-requires
write_item-requires c =
    let a = c.args in
    let w = a.writer.now in
    let r = w.reading in
    let s = w.text.now in
    let f = w.full in
    let p = c.requires in
    let d₀ = desk_of w a.c in
    let k = sym c.at_save.ensures ∙ c.if-at_save.false in
    let j = sym c.heads_block.ensures ∙ c.if-heads_block.false in
    block-item-here r f s d₀ p.0 p.1 k j

pub returns-else-heads_block-clause-moved : goal.returns-else-heads_block-clause-moved
returns-else-heads_block-clause-moved c =
    let a = c.args in
    let w = a.writer.now in
    let r = w.reading in
    let s = w.text.now in
    let f = w.full in
    let p = c.requires in
    let d₀ = desk_of w a.c in
    let k = sym c.at_save.ensures ∙ c.if-at_save.false in
    let j = sym c.heads_block.ensures ∙ c.if-heads_block.false in
    block-item-moved r f s d₀ p.0 p.1 k j _ c.write_item.ensures.wrote
