-- THE LIST OF CHANGES (document 02, Four): "for each scope and name, every value only in the old, only in the new, or in both and different, in the order of the old store
-- and then the new". An entry has 17 bytes: the case, then the record's number in the old and in the new store, 8 bytes each, 0 where there is none. Cases: 1 only in the
-- old, 2 only in the new, 3 different, 4 both numbers and the old larger, 5 the new larger, 6 only the uncertainty differs, 7 rewritten. Assumes nothing.
use Rattle.std.specs.Prelude.{ℕ, Bool, true, false, cond, List, [], ◌∷◌, ◌++◌, eqb, Option as Maybe, Some, None}
use Rattle.std.proofs.Math.Option.{Option, none, some}
use Rattle.records.specs.Bytes.{le64}
use Rattle.entries.specs.Walk.{entries}
use Rattle.stores.specs.Content.{nth}
use Rattle.number_cases.specs.declared.Case.{Case}
use Rattle.number_cases.specs.declared.Case.TheVariants.{OnlyOld, OnlyNew}
use Rattle.number_cases.specs.Numbers.{case_number}
use Rattle.cells.specs.Cells.{Cell, cells}
use Rattle.cases.specs.Cases.{case_of}
use Rattle.cells.specs.declared.Found.{Found}
use Rattle.cells.specs.Walk.{cell_of}
use Rattle.partners.specs.Partners.{partner, Matched}
use Rattle.changes.specs.declared.Change.{Change}

-- an entry, unless the case is 0
unfoldable pub change : Case → ℕ → ℕ → List Change
change n i j = cond (eqb (case_number n) 0) [] (record { case = n; old = i; new = j } ∷ [])

-- of a value x of a store, with its partner in the other: where the store is the old one, only here, or in both and different
unfoldable pub of_old : List ℕ → List ℕ → List ℕ → List ℕ → Cell → Option Cell → List Change
of_old st ar st' ar' x none = change OnlyOld x.number 0
of_old st ar st' ar' x (some y) = change (case_of ar ar' (nth (entries st) x.number) (nth (entries st') y.number)) x.number y.number

-- where it is the new one, only here
unfoldable pub of_new : Cell → Option Cell → List Change
of_new x none = change OnlyNew 0 x.number
of_new x (some y) = []

-- by which of the two it is
unfoldable pub of_side : Bool → List ℕ → List ℕ → List ℕ → List ℕ → Cell → List Change
of_side true st ar st' ar' x = of_old st ar st' ar' x (partner st ar st' ar' x)
of_side false st ar st' ar' x = of_new x (partner st ar st' ar' x)

-- of some values of the store, in their order
unfoldable pub of_all : Bool → List ℕ → List ℕ → List ℕ → List ℕ → List Cell → List Change
of_all old st ar st' ar' [] = []
of_all old st ar st' ar' (x ∷ xs) = of_side old st ar st' ar' x ++ of_all old st ar st' ar' xs

-- of all
unfoldable pub side_of : Bool → List ℕ → List ℕ → List ℕ → List ℕ → List Change
side_of old st ar st' ar' = of_all old st ar st' ar' (cells st)

-- THE LIST: the old store first, then the new
unfoldable pub changes : List ℕ → List ℕ → List ℕ → List ℕ → List Change
changes st ar st' ar' = side_of true st ar st' ar' ++ side_of false st' ar' st ar

-- an entry's bytes
unfoldable pub change_bytes : Change → List ℕ
change_bytes c = case_number c.case ∷ (le64 c.old ++ le64 c.new)

unfoldable pub changes_bytes : List Change → List ℕ
changes_bytes [] = []
changes_bytes (c ∷ cs) = change_bytes c ++ changes_bytes cs

-- what one call answers: an entry, or none
unfoldable pub listed : Maybe Change → List Change
listed (Some c) = c ∷ []
listed None = []

-- what a search for the partner of a value answered
abbrev pub Partnered : List ℕ → List ℕ → List ℕ → List ℕ → Found → Maybe Found → Type 0
Partnered st ar st' ar' x p = Matched st' p (partner st ar st' ar' (cell_of x))
