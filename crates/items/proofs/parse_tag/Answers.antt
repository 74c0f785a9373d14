-- `items::parse_tag`: by its name, and by what is found behind it. Assumes nothing.
use borrow.Enum.Refused.{opened}
use Prim.Native.Nat.{◌*◌}
use mathlib.Core.Path.{sym, ◌∙◌}
use native.Mathlib.Omega.{arith}
use Rattle.text.specs.Limits.{limit}
use Rattle.sizes.specs.Sizes.{no_sizes}
use Rattle.found.proofs.Choices.{over-left}
use Rattle.values.proofs.Packs.{found-packed}
use Rattle.items.proofs.Lists.{tag-end}
use Rattle.items.proofs.Items.{tag-read, item-misnamed, tag-value-within, tag-value, tag-over, tag-missing}
use Rattle.sizes.proofs.Room.{default-none, upto-none, upto-added}
use Rattle.items.proofs.parse_tag.Goals as goal

pub overflow_sub-end : goal.overflow_sub-end
overflow_sub-end c =
    let p = c.requires in
    omega (arith, c.long_word_end-end.ensures, (tag-end _ _ _ p.0.none p.1).onward)

pub returns-then-not-tag_fits : goal.returns-then-not-tag_fits
returns-then-not-tag_fits c =
    let p = c.requires in
    rw c.at.ensures (sym (item-misnamed _ _ _ p.0.none p.1 (rw (← c.long_word_end-end.ensures) (sym c.tag_fits.ensures ∙ c.if-not-tag_fits.true))))

pub pack_value-requires : goal.pack_value-requires
unfolding limit
pack_value-requires c = omega (arith, c.requires.0.small)

pub overflow_sub-end-in-Value : goal.overflow_sub-end-in-Value
overflow_sub-end-in-Value c =
    let p = c.requires in
    omega (arith, c.long_word_end-end.ensures, (tag-end _ _ _ p.0.none p.1).onward)

pub with-requires : goal.with-requires
unfolding limit
with-requires c =
    let p = c.requires in
    (rw (default-none c.default.ensures) (upto-none (limit * limit)), omega (arith, c.long_word_end-end.ensures, (tag-end _ _ _ p.0.none p.1).within, p.0.small))

pub with-requires-in-Value : goal.with-requires-in-Value
unfolding limit
with-requires-in-Value c =
    let p = c.requires in
    let t = tag-read p.0.none p.1 c.long_word_end-end.ensures (sym c.tag_fits.ensures ∙ c.if-not-tag_fits.false) c.gap_end-stop.ensures (found-packed _ _ _ _ _ c.pack_value.ensures c.of-found.ensures) in
    let w = tag-end _ _ _ p.0.none p.1 in (
      rw (c.with.ensures, default-none c.default.ensures) (upto-added 0 4 _ (limit * limit) no_sizes (upto-none 0) (omega (arith, t.ends, w.onward)) (omega (arith, t.ends, w.within, p.0.small))),
      omega (arith, (tag-value-within t _ _ c.in-Value.is).1, p.0.small),
    )

pub overflow_add-stop : goal.overflow_add-stop
unfolding limit
overflow_add-stop c =
    let p = c.requires in
    let t = tag-read p.0.none p.1 c.long_word_end-end.ensures (sym c.tag_fits.ensures ∙ c.if-not-tag_fits.false) c.gap_end-stop.ensures (found-packed _ _ _ _ _ c.pack_value.ensures c.of-found.ensures) in
    omega (arith, (tag-value-within t _ _ c.in-Value.is).1, p.0.small)

pub returns-in-Value : goal.returns-in-Value
returns-in-Value c =
    let p = c.requires in
    let t = tag-read p.0.none p.1 c.long_word_end-end.ensures (sym c.tag_fits.ensures ∙ c.if-not-tag_fits.false) c.gap_end-stop.ensures (found-packed _ _ _ _ _ c.pack_value.ensures c.of-found.ensures) in
    tag-value t _ _ _ _ c.in-Value.is c.gap_end.ensures (c.with-in-Value.ensures ∙ rw (c.with.ensures, default-none c.default.ensures))

pub returns-in_default-found : goal.returns-in_default-found
returns-in_default-found c =
    let p = c.requires in
    let t = tag-read p.0.none p.1 c.long_word_end-end.ensures (sym c.tag_fits.ensures ∙ c.if-not-tag_fits.false) c.gap_end-stop.ensures (found-packed _ _ _ _ _ c.pack_value.ensures c.of-found.ensures) in
    rw c.at-in_default-found.ensures (tag-over t (over-left c.of-found.result (opened c.in_default.in_default-own.keys2) (opened c.in_default-found.in_default-found-own.keys2)))

pub returns : goal.returns
returns c =
    let p = c.requires in
    let t = tag-read p.0.none p.1 c.long_word_end-end.ensures (sym c.tag_fits.ensures ∙ c.if-not-tag_fits.false) c.gap_end-stop.ensures (found-packed _ _ _ _ _ c.pack_value.ensures c.of-found.ensures) in
    c.failed.ensures ∙ rw (c.at-2.ensures, c.number-reason.ensures) (tag-missing t _ c.in-Missing.is)
