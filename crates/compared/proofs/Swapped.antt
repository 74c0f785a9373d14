-- OLD AND NEW SWAPPED (document 02, Four): each entry of the list stands, turned, in the list of the two stores the other way round. As turning twice changes nothing,
-- the two lists have the same entries but for that. Assumes nothing.
use Prim.Native.Nat.{ℕ}
use mathlib.Core.Path.{◌≡◌, refl, sym, ap, subst, ◌∙◌}
use mathlib.Core.Bool.{Bool, true, false, cond}
use mathlib.Core.List.{List, [], ◌∷◌, ◌++◌}
use mathlib.Core.Option.{Option, none, some}
use borrow.Author.Tests.{eqb-false}
use lib.Dec.{eqb}
use Rattle.std.specs.Prelude.{Ok}
use Rattle.rules.specs.declared.Reading.{Reading}
use Rattle.entries.specs.Walk.{entries}
use Rattle.stores.specs.Content.{nth}
use Rattle.cells.specs.Cells.{Cell, cells}
use Rattle.cases.specs.Cases.{case_of}
use Rattle.partners.specs.Partners.{partner}
use Rattle.number_cases.specs.declared.Case.{Case}
use Rattle.number_cases.specs.declared.Case.TheVariants.{Same, OnlyOld, OnlyNew, Different, OldLarger, NewLarger, Uncertainty, Rewritten}
use Rattle.number_cases.specs.Numbers.{case_number}
use Rattle.changes.proofs.Changes.{other-same, same-number}
use Rattle.changes.specs.declared.Change.{Change}
use Rattle.changes.specs.Changes.{change, of_old, of_new, of_side, of_all, side_of, changes}
use Rattle.comparing.specs.Comparing.{judged}
use Rattle.soles.specs.Members.{In, here, there, Sole}
use Rattle.compared.specs.Turned.{turned_case, turned}
use Rattle.soles.proofs.Meeting.{meets-turned, meets-through, partner-some, partner-is}
use Rattle.compared.proofs.Turned.{case-turned}
use Rattle.compared.proofs.Itself.{judged-sole}

-- lists in a row
in_left : {c : Change} {xs : List Change} (ys : List Change) → In c xs → In c (xs ++ ys)
in_left ys (here e) = here e
in_left ys (there m) = there (in_left ys m)

in_right : {c : Change} (xs : List Change) {ys : List Change} → In c ys → In c (xs ++ ys)
in_right [] m = m
in_right (x ∷ xs) m = there (in_right xs m)

data Either (c : Change) (xs ys : List Change) : Type 0 where
  left : In c xs → Either c xs ys
  right : In c ys → Either c xs ys

one_more : {c : Change} {xs ys : List Change} (x : Change) → Either c xs ys → Either c (x ∷ xs) ys
one_more x (left q) = left (there q)
one_more x (right q) = right q

in_parts : {c : Change} (xs ys : List Change) → In c (xs ++ ys) → Either c xs ys
in_parts [] ys m = right m
in_parts (x ∷ xs) ys (here e) = left (here e)
in_parts (x ∷ xs) ys (there m) = one_more x (in_parts xs ys m)

-- an entry is that of a value
record From (old : Bool) (st ar st' ar' : List ℕ) (xs : List Cell) (c : Change) : Type 0 where
  value : Cell
  among : In value xs
  entry : In c (of_side old st ar st' ar' value)

module _ (old : Bool) (st ar st' ar' : List ℕ) (c : Change) where
  from_all : (xs : List Cell) → In c (of_all old st ar st' ar' xs) → From old st ar st' ar' xs c
  unfolding of_all
  from_all (x ∷ xs) m = by (in_parts (of_side old st ar st' ar' x) (of_all old st ar st' ar' xs) m) (λ q. from_all xs q)
    where
      by : Either c (of_side old st ar st' ar' x) (of_all old st ar st' ar' xs) → (In c (of_all old st ar st' ar' xs) → From old st ar st' ar' xs c) → From old st ar st' ar' (x ∷ xs) c
      by (left q) again = record { value = x; among = here refl; entry = q }
      by (right q) again =
          let f = again q in
          record { value = f.value; among = there f.among; entry = f.entry }
  from_all [] m = elim m [ ]

  to-all : (xs : List Cell) (x : Cell) → In x xs → In c (of_side old st ar st' ar' x) → In c (of_all old st ar st' ar' xs)
  unfolding of_all
  to-all (z ∷ xs) x (here e) m = in_left (of_all old st ar st' ar' xs) (subst (λ (v : Cell). In c (of_side old st ar st' ar' v)) (sym e) m)
  to-all (z ∷ xs) x (there q) m = in_right (of_side old st ar st' ar' z) (to-all xs x q m)
  to-all [] x x4 m = elim x4 [ ]

-- the one entry of a case
record One (n : Case) (i j : ℕ) (c : Change) : Type 0 where
  some : n ≡ Same → ⊥
  is : record { case = n; old = i; new = j } ≡ c

one_of : (n : Case) (i j : ℕ) (c : Change) → In c (change n i j) → One n i j c
unfolding change
one_of n i j c m = by (eqb (case_number n) 0) refl m
  where
    it : Change
    it = record { case = n; old = i; new = j }

    by : (t : Bool) → eqb (case_number n) 0 ≡ t → In c (cond t [] (it ∷ [])) → One n i j c
    by false q (here e) = record { some = λ z. eqb-false (case_number n) 0 q (same-number n z); is = e }
    by false q (there x5) = elim x5 [ ]
    by true q x3 = elim x3 [ ]

one-to : (n : Case) (i j : ℕ) (c : Change) → One n i j c → In c (change n i j)
unfolding change
one-to n i j c o = rw (other-same n o.some) (here o.is)

-- turning twice changes nothing, so a case that is an entry's stays one
twice-case : (n : Case) → turned_case (turned_case n) ≡ n
unfolding turned_case
twice-case Same = refl
twice-case OnlyOld = refl
twice-case OnlyNew = refl
twice-case Different = refl
twice-case OldLarger = refl
twice-case NewLarger = refl
twice-case Uncertainty = refl
twice-case Rewritten = refl

turned-some : (n : Case) → (n ≡ Same → ⊥) → turned_case n ≡ Same → ⊥
unfolding turned_case
turned-some n d e = d (sym (twice-case n) ∙ ap turned_case e)

module _ (st ar st' ar' : List ℕ) (s : Sole st ar) where
  -- the partner of x has x for its own
  partner-back : (x y : Cell) → In x (cells st) → partner st ar st' ar' x ≡ some y → partner st' ar' st ar y ≡ some x
  unfolding partner Sole
  partner-back x y m e =
      let f = partner-some st ar st' ar' x (cells st') y e in
      let back = meets-turned st ar st' ar' x y f.meet in
      partner-is st' ar' st ar y (cells st) x m back (λ z p q. s x z m p (meets-through st ar st' ar' st ar x y z f.meet q))

  partner-among : (x y : Cell) → partner st ar st' ar' x ≡ some y → In y (cells st')
  unfolding partner
  partner-among x y e = (partner-some st ar st' ar' x (cells st') y e).among

  -- the entry of a value that the old store alone has
  lone : (x : Cell) → partner st ar st' ar' x ≡ none → (c : Change) → In c (change OnlyOld x.number 0) → In (turned c) (of_side false st ar st' ar' x)
  unfolding of_side of_new turned turned_case
  lone x e c q =
      let o = one_of OnlyOld x.number 0 c q in
      rw e (one-to OnlyNew 0 x.number (turned c) (record { some = λ (z : OnlyNew ≡ Same). cc; is = ap turned o.is }))

  -- of one that both have
  paired :
      (x y : Cell) → In x (cells st) → partner st ar st' ar' x ≡ some y → (c : Change) →
      In c (change (case_of ar ar' (nth (entries st) x.number) (nth (entries st') y.number)) x.number y.number) → In (turned c) (of_side true st' ar' st ar y)
  unfolding of_side of_old turned
  paired x y m e c q =
      let n : Case = case_of ar ar' (nth (entries st) x.number) (nth (entries st') y.number) in
      let n' : Case = case_of ar' ar (nth (entries st') y.number) (nth (entries st) x.number) in
      let o = one_of n x.number y.number c q in
      let t : n' ≡ turned_case n = case-turned ar ar' (nth (entries st) x.number) (nth (entries st') y.number) in
      let back : partner st' ar' st ar y ≡ some x = partner-back x y m e in
      rw back
      (one-to n' y.number x.number (turned c)
      (record {
        some = λ (z : n' ≡ Same). turned-some n o.some (sym t ∙ z);
        is = ap (λ (i : Case). record { case = i; old = y.number; new = x.number }) t ∙ ap turned o.is;
      }))

  old-turned : (x : Cell) (o : Option Cell) → partner st ar st' ar' x ≡ o → In x (cells st) → (c : Change) → In c (of_old st ar st' ar' x o) → In (turned c) (changes st' ar' st ar)
  unfolding of_old changes side_of
  old-turned x none e m c q = in_right (of_all true st' ar' st ar (cells st')) (to-all false st ar st' ar' (turned c) (cells st) x m (lone x e c q))
  old-turned x (some y) e m c q = in_left (of_all false st ar st' ar' (cells st)) (to-all true st' ar' st ar (turned c) (cells st') y (partner-among x y e) (paired x y m e c q))

  -- of one that the new store alone has
  fresh-turned : (y : Cell) → partner st' ar' st ar y ≡ none → (c : Change) → In c (change OnlyNew 0 y.number) → In (turned c) (of_side true st' ar' st ar y)
  unfolding of_side of_old turned turned_case
  fresh-turned y e c q =
      let o = one_of OnlyNew 0 y.number c q in
      rw e (one-to OnlyOld y.number 0 (turned c) (record { some = λ (z : OnlyOld ≡ Same). cc; is = ap turned o.is }))

  new-turned : (y : Cell) (o : Option Cell) → partner st' ar' st ar y ≡ o → In y (cells st') → (c : Change) → In c (of_new y o) → In (turned c) (changes st' ar' st ar)
  unfolding of_new changes side_of
  new-turned y none e m c q = in_left (of_all false st ar st' ar' (cells st)) (to-all true st' ar' st ar (turned c) (cells st') y m (fresh-turned y e c q))
  new-turned y (some _) e m c q = elim q [ ]

  old-side : (c : Change) → From true st ar st' ar' (cells st) c → In (turned c) (changes st' ar' st ar)
  unfolding of_side
  old-side c f = old-turned f.value (partner st ar st' ar' f.value) refl f.among c f.entry

  new-side : (c : Change) → From false st' ar' st ar (cells st') c → In (turned c) (changes st' ar' st ar)
  unfolding of_side
  new-side c f = new-turned f.value (partner st' ar' st ar f.value) refl f.among c f.entry

  either_side : (c : Change) → Either c (of_all true st ar st' ar' (cells st)) (of_all false st' ar' st ar (cells st')) → In (turned c) (changes st' ar' st ar)
  either_side c (left q) = old-side c (from_all true st ar st' ar' c (cells st) q)
  either_side c (right q) = new-side c (from_all false st' ar' st ar c (cells st') q)

  swap-sole : (c : Change) → In c (changes st ar st' ar') → In (turned c) (changes st' ar' st ar)
  unfolding changes side_of
  swap-sole c m = either_side c (in_parts (of_all true st ar st' ar' (cells st)) (of_all false st' ar' st ar (cells st')) m)

-- THE ENTRIES OF TWO STORES, THE OTHER WAY ROUND, ARE THE SAME, TURNED
pub swapped : (r : Reading) (st ar st' ar' : List ℕ) → judged r st ar ≡ Ok tt → (c : Change) → In c (changes st ar st' ar') → In (turned c) (changes st' ar' st ar)
swapped r st ar st' ar' e = swap-sole st ar st' ar' (judged-sole r st ar e)

-- and turning twice changes nothing
pub turned-twice : (c : Change) → turned (turned c) ≡ c
unfolding turned
turned-twice c = ap (λ (n : Case). record { case = n; old = c.old; new = c.new }) (twice-case c.case)
