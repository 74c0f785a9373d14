-- `walking::trimmed`: only the place moves on. Assumes nothing.
use borrow.Author.Rules.{rules}
use mathlib.Core.Path.{ap}
use Rattle.places.specs.declared.Place.{Place}
use Rattle.trimming.specs.Placed.{placed}
use Rattle.walking.specs.Walk.{behind_gap}
use Rattle.walking.proofs.trimmed.Goals as goal

pub trim_spaces_first-requires : goal.trim_spaces_first-requires
unfolding placed
trim_spaces_first-requires c = search rules

pub returns : goal.returns
unfolding behind_gap
returns c =
    let a = c.args in
    ap (λ (p : Place). record { place = p; at = a.c.at; area = a.c.area }) c.trim_spaces_first.ensures
