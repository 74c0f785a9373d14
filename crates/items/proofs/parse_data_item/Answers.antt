-- `items::parse_data_item`: a tag, a loop, or no item. Assumes nothing.
use mathlib.Core.Path.{sym, ◌∙◌}
use Rattle.items.proofs.Items.{item-none}
use Rattle.items.proofs.parse_data_item.Goals as goal

pub returns : goal.returns
returns c = sym (item-none _ _ _ c.requires.none (sym c.at_loop.ensures ∙ c.if-at_loop.false) (sym c.at_tag.ensures ∙ c.if-at_tag.false))
