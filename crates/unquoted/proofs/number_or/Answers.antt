-- `unquoted::number_or`: by what `parse_numeric` says. Assumes nothing.
use mathlib.Core.Path.{ap, ◌∙◌}
use Rattle.found.specs.Packing.{packed_of}
use Rattle.unquoted.proofs.Pieces.{number_is, number-over, number-not}
use Rattle.unquoted.proofs.number_or.Goals as goal

pub returns-in-Is : goal.returns-in-Is
returns-in-Is c =
    let a = c.args in
    c.packed.ensures ∙ rw c.number_kind.ensures (ap packed_of (number_is _ _ a.s.now a.at a.end _ c.parse_numeric-number.ensures _ c.in-Is.is))

pub returns-in-Over : goal.returns-in-Over
returns-in-Over c =
    let a = c.args in
    ap packed_of (number-over _ _ a.s.now a.at a.end _ c.parse_numeric-number.ensures c.in-Over.is)

pub returns-in-Not : goal.returns-in-Not
returns-in-Not c =
    let a = c.args in
    c.packed-in-Not.ensures ∙ ap packed_of (number-not _ _ a.s.now a.at a.end _ c.parse_numeric-number.ensures c.in-Not.is)
