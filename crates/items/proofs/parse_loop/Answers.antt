-- `items::parse_loop`: a name that may not stand, no names, a number over a limit, or rows. Assumes nothing.
use mathlib.Core.Path.{refl, sym, ◌∙◌}
use native.Mathlib.Omega.{arith}
use Rattle.std.proofs.lemmas.Result.{err_from_is_err_and}
use Rattle.text.specs.Limits.{limit}
use Rattle.items.proofs.Items.{loop-from, loop-named, loop-misnamed, loop-none, loop-valued, loop-over, loop-rows}
use Rattle.sizes.proofs.Room.{upto-more}
use Rattle.items.proofs.parse_loop.Goals as goal

pub count_names-names-requires : goal.count_names-names-requires
count_names-names-requires c =
    let p = c.requires in
    record { within = loop-from _ _ _ p.0.none p.1 _ refl; small = p.0.small }

pub at_tag-requires : goal.at_tag-requires
at_tag-requires c =
    let p = c.requires in
    (loop-named _ _ _ p.0.none p.1 _ c.count_names-names.ensures).1

pub returns-then-at_tag : goal.returns-then-at_tag
returns-then-at_tag c =
    let p = c.requires in
    rw c.at.ensures (loop-misnamed _ _ _ p.0.none p.1 _ c.count_names-names.ensures (sym c.at_tag.ensures ∙ c.if-at_tag.true))

pub returns-then-nameless : goal.returns-then-nameless
returns-then-nameless c =
    let p = c.requires in
    rw c.at-then-nameless.ensures (loop-none _ _ _ p.0.none p.1 _ c.count_names-names.ensures (sym c.at_tag.ensures ∙ c.if-at_tag.false) c.if-nameless.true)

pub count_values-requires : goal.count_values-requires
count_values-requires c =
    let p = c.requires in
    let n = loop-named _ _ _ p.0.none p.1 _ c.count_names-names.ensures in
    record { within = n.1; small = p.0.small; none = n.2 }

pub returns-in_err-values : goal.returns-in_err-values
returns-in_err-values c =
    let p = c.requires in
    let u = sym c.at_tag.ensures ∙ c.if-at_tag.false in
    let e = err_from_is_err_and c.from_residual.result c.from_residual.ensures.1 in
    rw (e.1, e.2) (loop-over _ _ _ p.0.none p.1 _ c.count_names-names.ensures u c.if-nameless.false _ (sym c.in_err-values.was ∙ c.count_values.ensures))

pub rows-requires : goal.rows-requires
unfolding limit
rows-requires c =
    let p = c.requires in
    let m = c.count_names-names.ensures in
    let n = loop-named _ _ _ p.0.none p.1 _ m in
    let u = sym c.at_tag.ensures ∙ c.if-at_tag.false in
    let v = loop-valued _ _ _ p.0.none p.1 _ m u c.if-nameless.false _ (sym c.in_ok-values.was ∙ c.count_values.ensures) in
    (omega arith, upto-more _ limit _ n.3 (omega (arith, n.1, p.0.small)), upto-more _ limit _ v.0 (omega (arith, v.1, p.0.small)))

pub returns : goal.returns
returns c =
    let p = c.requires in
    let u = sym c.at_tag.ensures ∙ c.if-at_tag.false in
    c.rows.ensures ∙ loop-rows _ _ _ p.0.none p.1 _ c.count_names-names.ensures u c.if-nameless.false _ (sym c.in_ok-values.was ∙ c.count_values.ensures)
