-- `matching::is_for`. Assumes nothing.
use mathlib.Core.Path.{refl, ◌∙◌}
use mathlib.Core.Logic.{inl, inr}
use borrow.Author.Tests.{eq-eqb, ne_eqb}
use Rattle.matching.specs.Matching.{is_for}
use Rattle.matching.proofs.is_for.Goals as goal
use Rattle.matching.proofs.is_for.Goals.{then-slot-x, else-slot-x}

pub returns-then-slot-x-2 : goal.returns-then-slot-x-2
unfolding is_for
returns-then-slot-x-2 c =
    let e = c.if-slot-x-2.true in
    rw (e.0, e.1, eq-eqb c.args.x.tag _ refl, eq-eqb c.args.x.frame _ refl)

pub returns-else-slot-x-2 : goal.returns-else-slot-x-2
unfolding is_for
returns-else-slot-x-2 c = elim c.if-slot-x.branch [ then-slot-x w ↦ elim c.if-slot-x-2.either [ inl h ↦ w.t-4-is ∙ rw (eq-eqb _ _ h.0, ne_eqb _ _ h.1) | inr h ↦ absurd (h w.if-slot-x.true) ] | else-slot-x w ↦ w.t-4-is ∙ rw (ne_eqb _ _ w.if-slot-x.false) ]
