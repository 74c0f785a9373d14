-- Laws of partners: value by value. Assumes nothing.
use Prim.Native.Nat.{ℕ}
use mathlib.Core.Path.{◌≡◌, refl, ap₂, ◌∙◌}
use mathlib.Core.Bool.{Bool, true, false, ◌&&◌}
use mathlib.Core.Logic.{◌⊎◌, inl, inr}
use mathlib.Core.List.{List}
use borrow.Author.Tests.{ne_eqb}
use lib.Dec.{eqb}
use Rattle.folding.specs.Folding.{same_name}
use Rattle.steps.specs.Steps.{held_at}
use Rattle.cells.specs.declared.Found.{Found}
use Rattle.std.specs.Cmp.{nat_eq_equiv}
use Rattle.cells.specs.Cells.{name_of}
use Rattle.cells.specs.Walk.{IsAt, cell_of, Lies}
use Rattle.cells.proofs.Offsets.{name-at}
use Rattle.partners.specs.Partners.{same_frame, meets}

module _ (st ar st' ar' : List ℕ) where
  -- names by offsets
  names_at : (at n at' m : ℕ) → IsAt st at n → IsAt st' at' m → same_name (held_at st ar at) (held_at st' ar' at') ≡ same_name (name_of st ar n) (name_of st' ar' m)
  names_at at n at' m i j = ap₂ same_name (name-at st ar at n i) (name-at st' ar' at' m j)

  -- the block's own frame is no other's
  pub frame-own : (n m : ℕ) → (n ≡ 0) ⊎ ((n ≡ 0 → ⊥) × (m ≡ 0)) → eqb n m ≡ same_frame st ar st' ar' n m
  unfolding same_frame
  frame-own n m (inl e) = rw (e, nat_eq_equiv.symm 0 m)
  frame-own n m (inr h) = rw (h.1, ne_eqb n 0 h.0)

  pub frame-both : (at n at' m : ℕ) → IsAt st at n → IsAt st' at' m → (n ≡ 0 → ⊥) × (m ≡ 0 → ⊥) → same_name (held_at st ar at) (held_at st' ar' at') ≡ same_frame st ar st' ar' n m
  unfolding same_frame
  frame-both at n at' m i j d = names_at at n at' m i j ∙ rw (ne_eqb n 0 d.0, ne_eqb m 0 d.1)

  -- row and name first, then the scope
  module _ (x y : Found) (l : Lies st x) (k : Lies st' y) (v : Bool) (e : v ≡ (eqb x.row y.row && same_name (held_at st ar x.name) (held_at st' ar' y.name))) where
    named : meets st ar st' ar' (cell_of x) (cell_of y) ≡ (v && same_frame st ar st' ar' x.frame y.frame)
    unfolding meets
    named = rw (← names_at x.name x.tag y.name y.tag l.tag k.tag, e) (by (eqb x.row y.row) _ _)
      where
        by : (p q r : Bool) → (p && (q && r)) ≡ ((p && q) && r)
        by true q r = refl
        by false q r = refl

    pub meet-both : v ≡ true → same_frame st ar st' ar' x.frame y.frame ≡ meets st ar st' ar' (cell_of x) (cell_of y)
    meet-both t = rw (named, t)

    pub meet-other : v ≡ false → v ≡ meets st ar st' ar' (cell_of x) (cell_of y)
    meet-other t = rw (named, t)
