-- `values::pack_decimal`: a plain number, or what its word is. Assumes nothing.
use mathlib.Core.Path.{◌∙◌}
use native.Mathlib.Omega.{arith}
use Rattle.values.proofs.First.{decimal-word, decimal-within, uncertain-found, certain-found}
use Rattle.values.proofs.Packs.{packs}
use Rattle.values.proofs.pack_decimal.Goals as goal
use Rattle.values.proofs.pack_decimal.Goals.{then-s-end-eq41, else-s-end-eq41}

pub returns-then-end-at : goal.returns-then-end-at
returns-then-end-at c = c.pack_word.ensures ∙ packs _ _ _ _ (decimal-word _ _ _ c.requires.0 c.requires.1)

pub bounds-s-end : goal.bounds-s-end
bounds-s-end c =
    omega (arith, decimal-within _ _ _ _ c.requires.0 c.decimal_end-end.ensures (omega (arith, c.if-end-at.false)), c.if-end-at.false)

pub packed-requires : goal.packed-requires
packed-requires c =
    omega (arith, decimal-within _ _ _ _ c.requires.0 c.decimal_end-end.ensures (omega (arith, c.if-end-at.false)), c.requires.0.short)

pub returns : goal.returns
returns c =
    let p = c.requires in
    c.packed.ensures ∙ elim c.if-s-end-eq41.branch [
      | then-s-end-eq41 w ↦ rw w.kind-is (packs _ _ _ _ (uncertain-found _ _ _ _ p.0 c.decimal_end-end.ensures (omega (arith, c.if-end-at.false)) p.1 w.if-s-end-eq41.true))
      | else-s-end-eq41 w ↦ rw w.kind-is (packs _ _ _ _ (certain-found _ _ _ _ p.0 c.decimal_end-end.ensures (omega (arith, c.if-end-at.false)) p.1 w.if-s-end-eq41.false))
    ]
