-- `enclosed::pack_field`: by what `parse_multiline_string` finds. Assumes nothing.
use mathlib.Core.Path.{ap, ◌∙◌}
use native.Mathlib.Omega.{arith}
use Rattle.found.specs.Packing.{packed_of}
use Rattle.enclosed.proofs.Pieces.{field_found, field-none}
use Rattle.enclosed.proofs.pack_field.Goals as goal

pub returns-in_default : goal.returns-in_default
returns-in_default c = ap packed_of (field-none _ _ _ c.parse_multiline_string.ensures c.in_default.is)

pub overflow_sub-end : goal.overflow_sub-end
overflow_sub-end c =
    (field_found _ _ _ c.parse_multiline_string.ensures _ c.in-Some.is c.requires.1).from

pub packed-requires : goal.packed-requires
packed-requires c =
    let p = c.requires in
    omega (arith, (field_found _ _ _ c.parse_multiline_string.ensures _ c.in-Some.is p.1).within, p.0)

pub returns : goal.returns
returns c =
    c.packed.ensures ∙ ap packed_of (field_found _ _ _ c.parse_multiline_string.ensures _ c.in-Some.is c.requires.1).value
