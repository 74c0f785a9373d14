-- `enclosed::pack_quote`: by what `parse_quoted` finds. Assumes nothing.
use mathlib.Core.Path.{ap, ◌∙◌}
use native.Mathlib.Omega.{arith}
use Rattle.found.specs.Packing.{packed_of}
use Rattle.enclosed.proofs.Pieces.{quote-found, quote-none}
use Rattle.enclosed.proofs.pack_quote.Goals as goal

pub returns-in_default : goal.returns-in_default
returns-in_default c = ap packed_of (quote-none _ _ _ _ _ _ c.parse_quoted.ensures c.in_default.is)

pub overflow_sub-end : goal.overflow_sub-end
overflow_sub-end c =
    (quote-found _ _ 0 _ _ _ c.parse_quoted.ensures _ c.in-Some.is c.requires.1).from

pub packed-requires : goal.packed-requires
packed-requires c =
    let p = c.requires in
    omega (arith, (quote-found _ _ 0 _ _ _ c.parse_quoted.ensures _ c.in-Some.is p.1).within, p.0)

pub returns : goal.returns
returns c =
    c.packed.ensures ∙ rw c.quote_kind.ensures (ap packed_of (quote-found _ _ _ _ _ _ c.parse_quoted.ensures _ c.in-Some.is c.requires.1).value)
