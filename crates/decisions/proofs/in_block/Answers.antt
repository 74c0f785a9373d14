-- `decisions::in_block`: where no item starts lies within the text. Assumes nothing.
use mathlib.Core.Path.{sym, ap, ◌∙◌}
use Rattle.std.specs.Prelude.{Ok}
use Rattle.decisions.proofs.Onward.{absent-within}
use Rattle.decisions.proofs.in_block.Goals as goal

pub absent-requires : goal.absent-requires
absent-requires c =
    let p = c.requires in
    absent-within _ _ _ _ p.within p.none (sym c.parse_data_item.ensures ∙ c.in_ok-next.was ∙ ap Ok c.in-Absent.is)
