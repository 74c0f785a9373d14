-- `values::pack_strict`: what no space parts from what stands before is no value. Assumes nothing.
use mathlib.Core.Path.{sym, ◌∙◌}
use Rattle.values.proofs.Pieces.{found-end, found-joined}
use Rattle.values.proofs.Packs.{packs}
use Rattle.values.proofs.pack_strict.Goals as goal

pub returns-then-s-at : goal.returns-then-s-at
returns-then-s-at c = packs _ _ _ _ (found-end _ _ _ c.if-s-at.true)

pub returns-then-not-is_parted : goal.returns-then-not-is_parted
returns-then-not-is_parted c = packs _ _ _ _ (found-joined _ _ _ c.if-s-at.false (sym c.is_parted.ensures ∙ c.if-not-is_parted.true))

pub pack_parted-requires : goal.pack_parted-requires
pack_parted-requires c = record { short = c.requires; apart = λ w. sym c.is_parted.ensures ∙ c.if-not-is_parted.false }
