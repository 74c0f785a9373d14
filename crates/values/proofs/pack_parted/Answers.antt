-- `values::pack_parted`: by the first byte. Assumes nothing.
use mathlib.Core.Path.{refl, sym, ◌∙◌}
use Rattle.values.specs.Finding.{Start}
use Rattle.values.proofs.Pieces.{found-end}
use Rattle.values.proofs.First.{free-found}
use Rattle.values.proofs.Packs.{packs}
use Rattle.values.proofs.pack_parted.Goals as goal

pub returns-then-s-at : goal.returns-then-s-at
returns-then-s-at c = packs _ _ _ _ (found-end _ _ _ c.if-s-at.true)

pub returns-then-is_free_letter : goal.returns-then-is_free_letter
returns-then-is_free_letter c =
    let ready : Start c.args.reading c.args.s.now c.args.at =
    record { short = c.requires.short; within = c.if-s-at.false; apart = c.requires.apart c.if-s-at.false } in
    c.pack_bare.ensures ∙ packs _ _ _ _ (free-found _ _ _ (ready) (sym c.is_free_letter.ensures ∙ c.if-is_free_letter.true))

pub pack_decimal-requires : goal.pack_decimal-requires
pack_decimal-requires c =
    let ready : Start c.args.reading c.args.s.now c.args.at =
    record { short = c.requires.short; within = c.if-s-at.false; apart = c.requires.apart c.if-s-at.false } in
    (ready, sym c.starts_decimal.ensures ∙ c.if-starts_decimal.true)

pub pack_marked-requires : goal.pack_marked-requires
pack_marked-requires c =
    let ready : Start c.args.reading c.args.s.now c.args.at =
    record { short = c.requires.short; within = c.if-s-at.false; apart = c.requires.apart c.if-s-at.false } in
    (ready, refl, sym c.starts_decimal.ensures ∙ c.if-starts_decimal.false)
