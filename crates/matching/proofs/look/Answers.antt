-- `matching::look`: by what the slot says of this column. Assumes nothing.
use mathlib.Core.Path.{sym, ◌∙◌}
use Rattle.matching.proofs.Matching.{finds-behind, finds-gone, spot-reached}
use Rattle.matching.proofs.look.Goals as goal

pub search-requires : goal.search-requires
search-requires c = (c.requires.lies, (spot-reached _ _ _ _ _ _ _ c.requires _ c.in-Some.is).placed)

pub returns-in-Some : goal.returns-in-Some
returns-in-Some c = rw c.told.ensures (finds-behind _ _ _ _ _ _ _ c.requires (sym c.is_for.ensures ∙ c.if-not-is_for.false) _ c.in-Some.is _ c.search.ensures)

pub returns-in-None : goal.returns-in-None
returns-in-None c = finds-gone _ _ _ _ c.args.x _ _ c.requires (sym c.is_for.ensures ∙ c.if-not-is_for.false) c.in-None.is
