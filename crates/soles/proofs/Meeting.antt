-- MEETING is the same from both sides and goes through; and what a partner is. Assumes nothing.
use Prim.Native.Nat.{ℕ}
use mathlib.Core.Path.{◌≡◌, refl, sym, ap, ◌∙◌}
use mathlib.Core.Bool.{Bool, true, false, cond, true≢false}
use mathlib.Core.List.{List, [], ◌∷◌}
use mathlib.Core.Option.{some}
use native.Mathlib.Omega.{arith}
use borrow.Author.Tests.{eq-eqb, eqb-true, eqb-false, ne_eqb}
use lib.Dec.{eqb}
use Rattle.text.proofs.Bools.{and_l, and_r}
use Rattle.folding.specs.Folding.{folded, same_name}
use Rattle.folding.proofs.Same.{same-folded, folded-same}
use Rattle.cells.specs.Cells.{Cell, name_of}
use Rattle.partners.specs.Partners.{same_frame, meets, partner_in}
use Rattle.soles.specs.Members.{In, here, there}

-- what two scopes that are the same have in common
pub data Frames (st ar st' ar' : List ℕ) (n m : ℕ) : Type 0 where
  own : n ≡ 0 → m ≡ 0 → Frames st ar st' ar' n m
  named : (n ≡ 0 → ⊥) → (m ≡ 0 → ⊥) → folded (name_of st ar n) ≡ folded (name_of st' ar' m) → Frames st ar st' ar' n m

frames-of : (st ar st' ar' : List ℕ) (n m : ℕ) → same_frame st ar st' ar' n m ≡ true → Frames st ar st' ar' n m
unfolding same_frame
frames-of st ar st' ar' n m e = by (eqb n 0) (eqb m 0) refl refl e
  where
    by : (a b : Bool) → eqb n 0 ≡ a → eqb m 0 ≡ b → cond a b (cond b false (same_name (name_of st ar n) (name_of st' ar' m))) ≡ true → Frames st ar st' ar' n m
    by true true p q e = own (eqb-true n 0 p) (eqb-true m 0 q)
    by true false p q e = absurd (true≢false (sym e))
    by false true p q e = absurd (true≢false (sym e))
    by false false p q e = named (eqb-false n 0 p) (eqb-false m 0 q) (same-folded (name_of st ar n) (name_of st' ar' m) e)

pub frames-to : (st ar st' ar' : List ℕ) (n m : ℕ) → Frames st ar st' ar' n m → same_frame st ar st' ar' n m ≡ true
unfolding same_frame
frames-to st ar st' ar' n m (own p q) = rw (eq-eqb n 0 p, eq-eqb m 0 q)
frames-to st ar st' ar' n m (named p q e) = rw (ne_eqb n 0 p, ne_eqb m 0 q) (folded-same (name_of st ar n) (name_of st' ar' m) e)

pub frames-turned : (st ar st' ar' : List ℕ) (n m : ℕ) → Frames st ar st' ar' n m → Frames st' ar' st ar m n
frames-turned st ar st' ar' n m (own p q) = own q p
frames-turned st ar st' ar' n m (named p q e) = named q p (sym e)

pub frames-through : (st ar st' ar' st'' ar'' : List ℕ) (n m l : ℕ) → Frames st ar st' ar' n m → Frames st' ar' st'' ar'' m l → Frames st ar st'' ar'' n l
frames-through st ar st' ar' st'' ar'' n m l (own p q) (own r s) = own p s
frames-through st ar st' ar' st'' ar'' n m l (own p q) (named r s e) = absurd (r q)
frames-through st ar st' ar' st'' ar'' n m l (named p q e) (own r s) = absurd (q r)
frames-through st ar st' ar' st'' ar'' n m l (named p q e) (named r s f) = named p s (e ∙ f)

-- what two values that meet have in common
pub record Common (st ar st' ar' : List ℕ) (x y : Cell) : Type 0 where
  pub row : x.row ≡ y.row
  pub tag : folded (name_of st ar x.tag) ≡ folded (name_of st' ar' y.tag)
  pub frame : Frames st ar st' ar' x.frame y.frame

pub common-of : (st ar st' ar' : List ℕ) (x y : Cell) → meets st ar st' ar' x y ≡ true → Common st ar st' ar' x y
unfolding meets
common-of st ar st' ar' x y e =
    let rest = and_r (eqb x.row y.row) _ e in
    record {
      row = eqb-true x.row y.row (and_l (eqb x.row y.row) _ e);
      tag = same-folded (name_of st ar x.tag) (name_of st' ar' y.tag) (and_l (same_name (name_of st ar x.tag) (name_of st' ar' y.tag)) _ rest);
      frame = frames-of st ar st' ar' x.frame y.frame (and_r (same_name (name_of st ar x.tag) (name_of st' ar' y.tag)) _ rest);
    }

pub common-to : (st ar st' ar' : List ℕ) (x y : Cell) → Common st ar st' ar' x y → meets st ar st' ar' x y ≡ true
unfolding meets
common-to st ar st' ar' x y c =
    rw (eq-eqb x.row y.row c.row, folded-same (name_of st ar x.tag) (name_of st' ar' y.tag) c.tag) (frames-to st ar st' ar' x.frame y.frame c.frame)

pub meets-turned : (st ar st' ar' : List ℕ) (x y : Cell) → meets st ar st' ar' x y ≡ true → meets st' ar' st ar y x ≡ true
meets-turned st ar st' ar' x y e =
    let c = common-of st ar st' ar' x y e in
    common-to st' ar' st ar y x (record { row = sym c.row; tag = sym c.tag; frame = frames-turned st ar st' ar' x.frame y.frame c.frame })

pub meets-through : (st ar st' ar' st'' ar'' : List ℕ) (x y z : Cell) → meets st ar st' ar' x y ≡ true → meets st' ar' st'' ar'' y z ≡ true → meets st ar st'' ar'' x z ≡ true
meets-through st ar st' ar' st'' ar'' x y z e f =
    let c = common-of st ar st' ar' x y e in
    let d = common-of st' ar' st'' ar'' y z f in
    common-to st ar st'' ar'' x z (record { row = c.row ∙ d.row; tag = c.tag ∙ d.tag; frame = frames-through st ar st' ar' st'' ar'' x.frame y.frame z.frame c.frame d.frame })

-- partners are found, and the one that meets x is its partner if there is no other
pub record Found (st ar st' ar' : List ℕ) (ys : List Cell) (x y : Cell) : Type 0 where
  pub among : In y ys
  pub meet : meets st ar st' ar' x y ≡ true

module _ (st ar st' ar' : List ℕ) (x : Cell) where
  pub partner-some : (ys : List Cell) (y : Cell) → partner_in st ar st' ar' ys x ≡ some y → Found st ar st' ar' ys x y
  unfolding partner_in
  partner-some [] y e =
      let z : ◌≡◌ {A = ℕ} 0 1 = cc in
      absurd (omega arith)
  partner-some (z ∷ ys) y e = by (meets st ar st' ar' x z) refl e (λ q. partner-some ys y q)
    where
      by : (t : Bool) → meets st ar st' ar' x z ≡ t → cond t (some z) (partner_in st ar st' ar' ys x) ≡ some y → (partner_in st ar st' ar' ys x ≡ some y → Found st ar st' ar' ys x y) → Found st ar st' ar' (z ∷ ys) x y
      by true q e again =
          let same : z ≡ y = cc in
          record { among = here same; meet = ap (meets st ar st' ar' x) (sym same) ∙ q }
      by false q e again =
          let f = again e in
          record { among = there f.among; meet = f.meet }

  pub partner-is : (ys : List Cell) (y : Cell) → In y ys → meets st ar st' ar' x y ≡ true → ((z : Cell) → In z ys → meets st ar st' ar' x z ≡ true → y ≡ z) → partner_in st ar st' ar' ys x ≡ some y
  unfolding partner_in
  partner-is (z ∷ ys) y m e only = by (meets st ar st' ar' x z) refl m (λ q. partner-is ys y q e (λ w p s. only w (there p) s))
    where
      by : (t : Bool) → meets st ar st' ar' x z ≡ t → In y (z ∷ ys) → (In y ys → partner_in st ar st' ar' ys x ≡ some y) → cond t (some z) (partner_in st ar st' ar' ys x) ≡ some y
      by true q m again = ap some (sym (only z (here refl) q))
      by false q (here p) again = absurd (true≢false (sym e ∙ ap (meets st ar st' ar' x) (sym p) ∙ q))
      by false q (there p) again = again p
  partner-is [] y m e only = elim m [ ]
