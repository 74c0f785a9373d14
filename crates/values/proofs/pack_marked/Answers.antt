-- `values::pack_marked`: by the byte. Assumes nothing.
use mathlib.Core.Path.{refl, sym, ◌∙◌}
use native.Mathlib.Omega.{arith}
use Rattle.text.specs.Bytes.{is_eol}
use Rattle.values.proofs.Pieces.{found-reserved}
use Rattle.values.proofs.First.{tag-here, unknown-here, quote-here, double-here, semicolon-here, point-here, none_here, bare-here}
use Rattle.values.proofs.Packs.{packs}
use Rattle.values.proofs.pack_marked.Goals as goal

pub returns-in-95 : goal.returns-in-95
returns-in-95 c = packs _ _ _ _ (tag-here _ _ _ c.requires.0 _ c.requires.1 c.in-95.is)

pub returns-in-63 : goal.returns-in-63
returns-in-63 c = c.pack_unknown.ensures ∙ packs _ _ _ _ (unknown-here _ _ _ c.requires.0 _ c.requires.1 c.in-63.is)

pub pack_quote-requires : goal.pack_quote-requires
unfolding is_eol
pack_quote-requires c = (c.requires.0.short, c.requires.0.within, refl)

pub returns-in-39 : goal.returns-in-39
returns-in-39 c = c.pack_quote.ensures ∙ packs _ _ _ _ (quote-here _ _ _ c.requires.0 _ c.requires.1 c.in-39.is)

pub pack_quote-requires-in-34 : goal.pack_quote-requires-in-34
unfolding is_eol
pack_quote-requires-in-34 c = (c.requires.0.short, c.requires.0.within, refl)

pub returns-in-34 : goal.returns-in-34
returns-in-34 c = c.pack_quote-in-34.ensures ∙ packs _ _ _ _ (double-here _ _ _ c.requires.0 _ c.requires.1 c.in-34.is)

pub returns-in-59 : goal.returns-in-59
returns-in-59 c = c.pack_semicolon.ensures ∙ packs _ _ _ _ (semicolon-here _ _ _ c.requires.0 _ c.requires.1 c.in-59.is)

pub returns-in-46 : goal.returns-in-46
returns-in-46 c = c.pack_point.ensures ∙ packs _ _ _ _ (point-here _ _ _ c.requires.0 _ c.requires.1 c.in-46.is)

pub returns-in_default : goal.returns-in_default
returns-in_default c =
    packs _ _ _ _ (found-reserved _ _ _ c.requires.0.within c.requires.0.apart (sym c.is_reserved.ensures ∙ c.if-is_reserved.true))

pub returns-in_default-2 : goal.returns-in_default-2
returns-in_default-2 c =
    let p = c.requires in
    let z = sym c.is_reserved.ensures ∙ c.if-is_reserved.false in
    c.pack_bare.ensures
    ∙ packs _ _ _ _
    (bare-here _ _ _ p.0 _ p.1 z (λ e. omega arith) (λ e. omega arith) (λ e. omega arith) (λ e. omega arith) (λ e. omega arith)
    (sym c.is_ordinary.ensures ∙ c.if-is_ordinary.true) p.2)

pub returns-in_default-3 : goal.returns-in_default-3
returns-in_default-3 c =
    let p = c.requires in
    let z = sym c.is_reserved.ensures ∙ c.if-is_reserved.false in
    packs _ _ _ _
    (none_here _ _ _ p.0 _ p.1 z (λ e. omega arith) (λ e. omega arith) (λ e. omega arith) (λ e. omega arith) (λ e. omega arith)
    (sym c.is_ordinary.ensures ∙ c.if-is_ordinary.false))
