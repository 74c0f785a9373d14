-- `deciding::parse_data_item_or_save_frame`: by whether `save_`, or a further heading, stands there. Assumes nothing.
use mathlib.Core.Path.{sym, ◌∙◌}
use Rattle.decisions.specs.Onward.{Framed}
use Rattle.decisions.proofs.Onward.{further-stepped, item-stepped}
use Rattle.deciding.proofs.parse_data_item_or_save_frame.Goals as goal

pub returns-then-at_save : goal.returns-then-at_save
unfolding Framed
returns-then-at_save c = c.parse_save_frame.ensures c.args.reason

pub returns-then-heads_block : goal.returns-then-heads_block
unfolding Framed
returns-then-heads_block c =
    let a = c.args in
    let p = c.requires in
    rw c.parse_heading.ensures (further-stepped a.reading a.s.now a.at p.0.none (sym c.heads_block.ensures ∙ c.if-heads_block.true) a.reason)

pub returns : goal.returns
returns c =
    let p = c.requires in
    rw c.in_block.ensures (item-stepped _ _ _ _ p.1 p.0.none (sym c.at_save.ensures ∙ c.if-at_save.false) (sym c.heads_block.ensures ∙ c.if-heads_block.false))
