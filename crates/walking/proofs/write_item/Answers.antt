-- `walking::write_item`: where no tag stands, an item that is read is a loop. Assumes nothing.
use mathlib.Core.Path.{sym, ◌∙◌}
use Rattle.walking.proofs.Items.{loop-here}
use Rattle.walking.proofs.write_item.Goals as goal

pub write_loop_item-requires : goal.write_loop_item-requires
write_loop_item-requires c =
    let w = c.args.writer.now in
    let h = c.requires in
    (h, loop-here w.reading w.text.now c.args.c.place.offset h.bare (sym c.at_tag.ensures ∙ c.if-at_tag.false) h.read)
