-- A STORE COMPARED WITH ITSELF (document 02, Four): where no two of its values meet, the list is empty. Assumes nothing.
use Prim.Native.Nat.{ℕ, suc, ◌-◌, ◌≤◌}
use mathlib.Core.Path.{◌≡◌, refl, sym, ap, ap₂, ◌∙◌}
use mathlib.Core.Bool.{Bool, true, false, cond, ◌&&◌, true≢false}
use mathlib.Core.List.{List, [], ◌∷◌, ◌++◌}
use mathlib.Core.Option.{some}
use native.Mathlib.Omega.{arith}
use borrow.Author.Tests.{eq-eqb}
use lib.Dec.{eqb}
use Rattle.folding.specs.Folding.{same_name}
use Rattle.folding.proofs.Same.{folded-same}
use Rattle.equal.proofs.Bytes.{bytes_same}
use Rattle.kinds.specs.declared.Kind.{Kind}
use Rattle.kinds.specs.Kinds.{number_of}
use Rattle.entries.specs.declared.Parts.{Parts}
use Rattle.entries.specs.declared.Fields.{Fields}
use Rattle.entries.specs.declared.Entry.{Entry}
use Rattle.entries.specs.Walk.{entries}
use Rattle.kinds.specs.Kinds.{is_value_kind}
use Rattle.stores.specs.Content.{nth}
use Rattle.number_cases.specs.declared.Case.TheVariants.{Same}
use Rattle.number_cases.specs.Numbers.{case_number, same_parts, numbers_case}
use Rattle.number_cases.proofs.Cases.{same_none}
use Rattle.cells.specs.Cells.{Cell, Under, outset, under, cell, cells_from, cells, name_of}
use Rattle.cases.specs.Cases.{is_number, is_text, unmarked, agree, others_case, case_of}
use Rattle.partners.specs.Partners.{same_frame, meets, partner_in, partner}
use Rattle.changes.specs.declared.Change.{Change}
use Rattle.changes.specs.Changes.{change, of_old, of_new, of_side, of_all, side_of, changes}
use Rattle.soles.specs.Members.{In, here, there, Sole}
use Rattle.std.specs.Prelude.{Option as Maybe, Some, None}
use Rattle.entries.specs.Entries.{whole}

-- a record is the same as itself
parts_self : (p : Parts) → same_parts p p ≡ true
unfolding same_parts
parts_self p =
    rw (eq-eqb p.sign p.sign refl, eq-eqb p.integer p.integer refl, eq-eqb p.fraction p.fraction refl, eq-eqb p.places p.places refl, eq-eqb p.exponent p.exponent refl)
    (eq-eqb p.uncertainty p.uncertainty refl)

pub numbers-self : (k : ℕ) (p : Parts) → numbers_case k k p p ≡ Same
numbers-self k p = sym (same_none k k p p (ap₂ (λ (a b : Bool). a && b) (eq-eqb k k refl) (parts_self p)))

either : (t : Bool) → cond t true true ≡ true
either true = refl
either false = refl

pub others-self : (k : ℕ) (c : List ℕ) → others_case k k c c ≡ Same
unfolding others_case agree
others-self k c = rw (bytes_same (unmarked k c), eq-eqb k k refl, either (is_text k && is_text k))

pub case-self : (ar : List ℕ) (k : Kind) (f : Fields) (n : ℕ) → case_of ar ar (whole k f n) (whole k f n) ≡ Same
unfolding case_of
case-self ar k f n = rw (numbers-self (number_of k) f.parts, others-self (number_of k) _) (by (is_number (number_of k) && is_number (number_of k)))
  where
    by : (t : Bool) → cond t Same Same ≡ Same
    by true = refl
    by false = refl

-- a value's number is that of a record
pub data IsRecord : Maybe Entry → Type 0 where
  met : {e : Entry} → IsRecord (Some e)

record Stands (es : List (Maybe Entry)) (i : ℕ) (x : Cell) : Type 0 where
  from : i ≤ x.number
  whole : IsRecord (nth es (x.number - i))

stands-in : (es : List (Maybe Entry)) (i : ℕ) (u : Under) (x : Cell) → In x (cells_from es i u) → Stands es i x
unfolding cells_from nth cell
stands-in (Some r ∷ es) i u x m = by (is_value_kind (number_of r.kind)) m (λ q. stands-in es (suc i) (under (number_of r.kind) r.fields.number i u) x q)
  where
    later : Stands es (suc i) x → Stands (Some r ∷ es) i x
    later s =
        let e : x.number - i ≡ suc (x.number - suc i) = omega (arith, s.from) in
        record { from = omega (arith, s.from); whole = rw e s.whole }

    by : (t : Bool) → In x (cond t (cell i u ∷ cells_from es (suc i) (under (number_of r.kind) r.fields.number i u)) (cells_from es (suc i) (under (number_of r.kind) r.fields.number i u))) → (In x (cells_from es (suc i) (under (number_of r.kind) r.fields.number i u)) → Stands es (suc i) x) → Stands (Some r ∷ es) i x
    by true (here e) again =
        let a : i ≡ x.number = ap (λ (c : Cell). c.number) e in
        let z : x.number - i ≡ 0 = omega arith in
        record { from = omega arith; whole = rw z met }
    by true (there q) again = later (again q)
    by false q again = later (again q)
stands-in [] i u x m = elim m [ ]
stands-in (None ∷ es) i u x m = elim m [ ]

pub value-record : (st : List ℕ) (x : Cell) → In x (cells st) → IsRecord (nth (entries st) x.number)
unfolding cells
value-record st x m =
    let s = stands-in (entries st) 0 outset x m in
    let z : x.number - 0 ≡ x.number = omega arith in
    rw z at s.whole

case-record : (ar : List ℕ) (e : Maybe Entry) → IsRecord e → case_of ar ar e e ≡ Same
case-record ar (Some e) met = case-self ar e.kind e.fields e.next
case-record ar None x' = elim x' [ ]

-- a value meets itself
frame_self : (st ar : List ℕ) (n : ℕ) → same_frame st ar st ar n n ≡ true
unfolding same_frame
frame_self st ar n = by (eqb n 0) (same_name (name_of st ar n) (name_of st ar n)) (folded-same (name_of st ar n) (name_of st ar n) refl)
  where
    by : (t s : Bool) → s ≡ true → cond t t (cond t false s) ≡ true
    by true s e = refl
    by false s e = e

pub meets-self : (st ar : List ℕ) (x : Cell) → meets st ar st ar x x ≡ true
unfolding meets
meets-self st ar x = rw (eq-eqb x.row x.row refl, folded-same (name_of st ar x.tag) (name_of st ar x.tag) refl) (frame_self st ar x.frame)

-- so it is its own partner
partner-in : (st ar : List ℕ) (x : Cell) (ys : List Cell) → In x ys → ((y : Cell) → In y ys → meets st ar st ar x y ≡ true → x ≡ y) → partner_in st ar st ar ys x ≡ some x
unfolding partner_in
partner-in st ar x (y ∷ ys) m only = by (meets st ar st ar x y) refl m (λ q. partner-in st ar x ys q (λ z w e. only z (there w) e))
  where
    by : (t : Bool) → meets st ar st ar x y ≡ t → In x (y ∷ ys) → (In x ys → partner_in st ar st ar ys x ≡ some x) → cond t (some y) (partner_in st ar st ar ys x) ≡ some x
    by true e q again = ap some (sym (only y (here refl) e))
    by false e (here q) again = absurd (true≢false (sym (meets-self st ar x) ∙ ap (meets st ar st ar x) (sym q) ∙ e))
    by false e (there q) again = again q
partner-in st ar x [] m only = elim m [ ]

pub partner-self : (st ar : List ℕ) → Sole st ar → (x : Cell) → In x (cells st) → partner st ar st ar x ≡ some x
unfolding partner Sole
partner-self st ar s x m = partner-in st ar x (cells st) m (λ y q e. s x y m q e)

-- and gives no entry
module _ (st ar : List ℕ) (s : Sole st ar) where
  side-self : (old : Bool) (x : Cell) → In x (cells st) → of_side old st ar st ar x ≡ []
  unfolding of_side of_old of_new change case_number
  side-self true x m = rw (partner-self st ar s x m, case-record ar (nth (entries st) x.number) (value-record st x m))
  side-self false x m = rw (partner-self st ar s x m)

  all-self : (old : Bool) (xs : List Cell) → ((x : Cell) → In x xs → In x (cells st)) → of_all old st ar st ar xs ≡ []
  unfolding of_all
  all-self old [] sub = refl
  all-self old (x ∷ xs) sub = ap₂ (λ (a b : List Change). a ++ b) (side-self old x (sub x (here refl))) (all-self old xs (λ y q. sub y (there q)))

  -- THE LIST OF A STORE COMPARED WITH ITSELF IS EMPTY
  pub self-empty : changes st ar st ar ≡ []
  unfolding changes side_of
  self-empty = ap₂ (λ (a b : List Change). a ++ b) (all-self true (cells st) (λ x q. q)) (all-self false (cells st) (λ x q. q))
