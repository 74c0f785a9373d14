-- A COLUMN of one store in another that may be compared: what meets one of its values has one tag, and stands in the order of the rows, without gaps. So a search for a
-- later row may go on behind the partner of an earlier one, and where a row has no partner no later one has. Assumes nothing.
use Prim.Native.Nat.{ℕ, zero, suc, ◌+◌, ◌-◌, ◌*◌, ◌≤◌, ◌<◌}
use mathlib.Core.Path.{◌≡◌, refl, sym, ap, subst, ◌∙◌}
use mathlib.Core.Bool.{Bool, true, false, cond, true≢false}
use mathlib.Core.List.{List, [], ◌∷◌, ◌++◌}
use mathlib.Core.Option.{Option, none, some}
use native.Mathlib.Omega.{arith}
use native.Mathlib.Nat.{mul-le-mul_right}
use Rattle.folding.specs.Folding.{folded}
use Rattle.folding.proofs.Same.{folded-same}
use Rattle.kinds.specs.Kinds.{number_of, is_value_kind}
use Rattle.entries.specs.declared.Entry.{Entry}
use Rattle.entries.specs.Walk.{entries}
use Rattle.cells.specs.Cells.{Cell, Under, outset, under, cell, cells_from, cells, name_of}
use Rattle.partners.specs.Partners.{meets, partner_in, partner}
use Rattle.soles.specs.Members.{In, here, there, Sole}
use Rattle.soles.specs.Singular.{Singular}
use Rattle.soles.proofs.Soles.{tags_at, place_of, Told, told-all, frames-one, tags-one, sole}
use Rattle.soles.proofs.Meeting.{Frames, frames-to, frames-turned, frames-through, Common, common-of, common-to, meets-turned, meets-through, partner-some, partner-is}
use Rattle.std.specs.Prelude.{Option as Maybe, Some, None}

-- lists in a row
in_left : {c : Cell} {xs : List Cell} (ys : List Cell) → In c xs → In c (xs ++ ys)
in_left ys (here e) = here e
in_left ys (there m) = there (in_left ys m)

pub in-mid : (xs : List Cell) (c : Cell) (ys : List Cell) → In c (xs ++ (c ∷ ys))
in-mid [] c ys = here refl
in-mid (x ∷ xs) c ys = there (in-mid xs c ys)

-- numbers ascend
from_on : (es : List (Maybe Entry)) (i : ℕ) (u : Under) (z : Cell) → In z (cells_from es i u) → i ≤ z.number
unfolding cells_from cell
from_on (Some x ∷ es) i u z m = by (is_value_kind (number_of x.kind)) m (λ q. from_on es (suc i) (under (number_of x.kind) x.fields.number i u) z q)
  where
    more : List Cell
    more = cells_from es (suc i) (under (number_of x.kind) x.fields.number i u)

    by : (t : Bool) → In z (cond t (cell i u ∷ more) more) → (In z more → suc i ≤ z.number) → i ≤ z.number
    by true (here e) again =
        let a : i ≡ z.number = ap (λ (c : Cell). c.number) e in
        omega arith
    by true (there q) again = omega (arith, again q)
    by false q again = omega (arith, again q)
from_on [] i u z m = elim m [ ]
from_on (None ∷ es) i u z m = elim m [ ]

ascending : (es : List (Maybe Entry)) (i : ℕ) (u : Under) (pre : List Cell) (y : Cell) (post : List Cell) → cells_from es i u ≡ pre ++ (y ∷ post) → (c : Cell) → In c pre → c.number < y.number
unfolding cells_from cell
ascending [] i u (p ∷ pre) y post e c m =
    let z : ◌≡◌ {A = ℕ} 0 1 = cc in
    absurd (omega arith)
ascending (None ∷ es) i u (p ∷ pre) y post e c m =
    let z : ◌≡◌ {A = ℕ} 0 1 = cc in
    absurd (omega arith)
ascending (Some x ∷ es) i u (p ∷ pre) y post e c m = by (is_value_kind (number_of x.kind)) e m (λ q d w. ascending es (suc i) (under (number_of x.kind) x.fields.number i u) q y post d c w)
  where
    more : List Cell
    more = cells_from es (suc i) (under (number_of x.kind) x.fields.number i u)

    by :
        (t : Bool) → cond t (cell i u ∷ more) more ≡ p ∷ (pre ++ (y ∷ post)) → In c (p ∷ pre) → ((q : List Cell) → more ≡ q ++ (y ∷ post) → In c q → c.number < y.number) → c.number < y.number
    by false e m again = again (p ∷ pre) e m
    by true e (there w) again =
        let rest : more ≡ pre ++ (y ∷ post) = cc in
        again pre rest w
    by true e (here w) again =
        let first : cell i u ≡ p = cc in
        let rest : more ≡ pre ++ (y ∷ post) = cc in
        let number : i ≡ c.number = ap (λ (z : Cell). z.number) (first ∙ w) in
        let later : suc i ≤ y.number = from_on es (suc i) (under (number_of x.kind) x.fields.number i u) y (subst (λ (l : List Cell). In y l) (sym rest) (in-mid pre y post)) in
        omega arith
ascending [] i u [] y post e c m = elim m [ ]
ascending (Some x ∷ es) i u [] y post e c m = elim m [ ]
ascending (None ∷ es) i u [] y post e c m = elim m [ ]

module _ (st ar : List ℕ) (g : Singular st ar) where
  told : (y : Cell) → In y (cells st) → Told st ar y
  told y m = told-all st ar g.reading g.whole g.single y m

  pub singular-sole : Sole st ar
  singular-sole = sole st ar g.reading g.whole g.single g.tags g.opens

  -- values of one name and scope have one tag
  one_tag : (y c : Cell) → In y (cells st) → In c (cells st) → folded (name_of st ar y.tag) ≡ folded (name_of st ar c.tag) → Frames st ar st ar y.frame c.frame → y.tag ≡ c.tag
  one_tag y c p q e s =
      let a = told y p in
      let b = told c q in
      let outer : y.frame ≡ c.frame = frames-one st ar g.opens y.frame c.frame a.framed b.framed (frames-to st ar st ar y.frame c.frame s) in
      tags-one st ar g.tags y.tag c.tag y.frame c.frame a.tagged b.tagged outer (folded-same (name_of st ar y.tag) (name_of st ar c.tag) e)

  -- and stand in the order of their rows
  in_order : (y c : Cell) → In y (cells st) → In c (cells st) → y.tag ≡ c.tag → y.row ≤ c.row → y.number ≤ c.number
  unfolding place_of
  in_order y c p q e l =
      let a : y.number ≡ place_of st ar c.tag y.row = (told y p).placed ∙ ap (λ (n : ℕ). place_of st ar n y.row) e in
      let b : c.number ≡ place_of st ar c.tag c.row = (told c q).placed in
      let m : y.row * tags_at st ar c.tag ≤ c.row * tags_at st ar c.tag = mul-le-mul_right (tags_at st ar c.tag) l in
      omega arith

  numbers-ascend : (pre : List Cell) (y : Cell) (post : List Cell) → cells st ≡ pre ++ (y ∷ post) → (c : Cell) → In c pre → c.number < y.number
  unfolding cells
  numbers-ascend pre y post e c m = ascending (entries st) 0 outset pre y post e c m

-- of a search
module _ (st ar st' ar' : List ℕ) (x : Cell) where
  -- what meets nothing may be passed over
  pub partner-past : (pre l : List Cell) → ((c : Cell) → In c pre → meets st ar st' ar' x c ≡ true → ⊥) → partner_in st ar st' ar' (pre ++ l) x ≡ partner_in st ar st' ar' l x
  unfolding partner_in
  partner-past [] l h = refl
  partner-past (y ∷ pre) l h = by (meets st ar st' ar' x y) refl (partner-past pre l (λ c m. h c (there m)))
    where
      by :
          (t : Bool) → meets st ar st' ar' x y ≡ t → partner_in st ar st' ar' (pre ++ l) x ≡ partner_in st ar st' ar' l x →
          cond t (some y) (partner_in st ar st' ar' (pre ++ l) x) ≡ partner_in st ar st' ar' l x
      by true e again = absurd (h y (here refl) e)
      by false e again = again

  none_never : (ys : List Cell) → partner_in st ar st' ar' ys x ≡ none → (y : Cell) → In y ys → meets st ar st' ar' x y ≡ true → ⊥
  unfolding partner_in
  none_never (z ∷ ys) e y m s = by (meets st ar st' ar' x z) refl e m (λ q w. none_never ys q y w s)
    where
      by : (t : Bool) → meets st ar st' ar' x z ≡ t → cond t (some z) (partner_in st ar st' ar' ys x) ≡ none → In y (z ∷ ys) → (partner_in st ar st' ar' ys x ≡ none → In y ys → ⊥) → ⊥
      by true q e m again =
          let z : ◌≡◌ {A = ℕ} 0 1 = cc in
          omega arith
      by false q e (here w) again = true≢false (sym s ∙ ap (meets st ar st' ar' x) (sym w) ∙ q)
      by false q e (there w) again = again e w
  none_never [] e y m s = elim m [ ]

module _ (st ar st' ar' : List ℕ) (g : Singular st' ar') where
  -- WHAT MEETS A VALUE IS ITS PARTNER
  pub met-partner : (x y : Cell) → In y (cells st') → meets st ar st' ar' x y ≡ true → partner st ar st' ar' x ≡ some y
  unfolding partner Sole
  met-partner x y m e =
      partner-is st ar st' ar' x (cells st') y m e
      (λ z p q. singular-sole st' ar' g y z m p (meets-through st' ar' st ar st' ar' y x z (meets-turned st ar st' ar' x y e) q))

  module _ (x x' : Cell) (tag : x'.tag ≡ x.tag) (frame : x'.frame ≡ x.frame) where
    -- what meets x and what meets x' have one tag
    same-column : (y c : Cell) → In y (cells st') → In c (cells st') → meets st ar st' ar' x y ≡ true → meets st ar st' ar' x' c ≡ true → y.tag ≡ c.tag
    same-column y c p q e e' =
        let a = common-of st ar st' ar' x y e in
        let b = common-of st ar st' ar' x' c e' in
        let names : folded (name_of st' ar' y.tag) ≡ folded (name_of st' ar' c.tag) = sym a.tag ∙ ap (λ (n : ℕ). folded (name_of st ar n)) (sym tag) ∙ b.tag in
        let second : Frames st ar st' ar' x.frame c.frame = subst (λ (n : ℕ). Frames st ar st' ar' n c.frame) frame b.frame in
        one_tag st' ar' g y c p q names
        (frames-through st' ar' st ar st' ar' y.frame x.frame c.frame (frames-turned st ar st' ar' x.frame y.frame a.frame) second)

    -- A LATER ROW IS LOOKED FOR BEHIND AN EARLIER ONE'S PARTNER
    pub later-behind :
        (y : Cell) (pre post : List Cell) → cells st' ≡ pre ++ (y ∷ post) → meets st ar st' ar' x y ≡ true → x.row < x'.row → partner st ar st' ar' x' ≡ partner_in st ar st' ar' post x'
    unfolding partner
    later-behind y pre post e s l =
        ap (λ (ys : List Cell). partner_in st ar st' ar' ys x') e
        ∙ partner-past st ar st' ar' x' pre (y ∷ post) before
        ∙ partner-past st ar st' ar' x' (y ∷ []) post itself
      where
        among : In y (cells st')
        among = subst (λ (ys : List Cell). In y ys) (sym e) (in-mid pre y post)

        row : x.row ≡ y.row
        row = (common-of st ar st' ar' x y s).row

        before : (c : Cell) → In c pre → meets st ar st' ar' x' c ≡ true → ⊥
        before c m q =
            let there : In c (cells st') = subst (λ (ys : List Cell). In c ys) (sym e) (in_left (y ∷ post) m) in
            let its : x'.row ≡ c.row = (common-of st ar st' ar' x' c q).row in
            let up : y.number ≤ c.number = in_order st' ar' g y c among there (same-column y c among there s q) (omega (arith, row)) in
            let down : c.number < y.number = numbers-ascend st' ar' g pre y post e c m in
            omega arith

        itself : (c : Cell) → In c (y ∷ []) → meets st ar st' ar' x' c ≡ true → ⊥
        itself c (here w) q =
            let its : x'.row ≡ c.row = (common-of st ar st' ar' x' c q).row in
            let one : y.row ≡ c.row = ap (λ (z : Cell). z.row) w in
            omega (arith, row)
        itself c (Rattle.soles.specs.Members.there x6) q = elim x6 [ ]

    -- WHERE A ROW HAS NO PARTNER, NO LATER ONE HAS
    descend : (d : ℕ) (y : Cell) → In y (cells st') → Common st ar st' ar' (record { number = 0; frame = x.frame; tag = x.tag; row = y.row }) y → y.row ≡ x.row + d → partner st ar st' ar' x ≡ none → ⊥
    unfolding partner
    descend zero y m s e n = none_never st ar st' ar' x (cells st') n y m (common-to st ar st' ar' x y (record { row = omega arith; tag = s.tag; frame = s.frame }))
    descend (suc d) y m s e n =
        let h = (told st' ar' g y m).before (x.row + d) (omega arith) in
        descend d (record { number = h.number; frame = y.frame; tag = y.tag; row = x.row + d }) h.among (record { row = refl; tag = s.tag; frame = s.frame }) refl n

    pub none-later : x.row ≤ x'.row → partner st ar st' ar' x ≡ none → partner st ar st' ar' x' ≡ none
    unfolding partner
    none-later l n = by (partner st ar st' ar' x') refl
      where
        by : (o : Option Cell) → partner st ar st' ar' x' ≡ o → o ≡ none
        by none e = refl
        by (some y) e =
            let f = partner-some st ar st' ar' x' (cells st') y e in
            let c = common-of st ar st' ar' x' y f.meet in
            let like : Common st ar st' ar' (record { number = 0; frame = x.frame; tag = x.tag; row = y.row }) y =
            record {
              row = refl;
              tag = ap (λ (k : ℕ). folded (name_of st ar k)) (sym tag) ∙ c.tag;
              frame = subst (λ (k : ℕ). Frames st ar st' ar' k y.frame) frame c.frame;
            } in
            absurd (descend (x'.row - x.row) y f.among like (omega (arith, c.row)) n)
