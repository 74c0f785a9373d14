-- HOW A PARTNER IS LOOKED FOR: what is remembered of a column, and when that is true. A search may start at a remembered spot only where no value before it can be the
-- partner; that is what is claimed of each, so that the answer is the one that a search from the start would give. Assumes nothing.
use Rattle.std.specs.Prelude.{ℕ, ◌≡◌, Bool, true, ◌&&◌, List, ◌∷◌, ◌++◌, eqb, ltb, get_or, Option as Maybe, Some, None}
use Rattle.std.proofs.Math.Option.{Option, none}
use Rattle.cells.specs.declared.Here.{Here}
use Rattle.cells.specs.declared.Found.{Found}
use Rattle.cells.specs.declared.Met.{Met}
use Rattle.cells.specs.Cells.{Cell, cells}
use Rattle.cells.specs.Walk.{cells_at, first, Placed, cell_of, Lies}
use Rattle.partners.specs.Partners.{meets, partner_in, partner, Matched}
use Rattle.soles.specs.Singular.{Singular}
use Rattle.matching.specs.declared.Slot.{Slot}
use Rattle.matching.specs.declared.Sought.{Sought}

-- a spot that a walk from the first record comes to
pub record Reached (st : List ℕ) (h : Here) : Type 0 where
  pub placed : Placed st h
  pub before : List Cell
  pub values : cells st ≡ before ++ cells_at st h

-- a slot is of a value's column and of an earlier row
unfoldable pub is_for : Slot → Cell → Bool
is_for s x = eqb s.tag x.tag && (eqb s.frame x.frame && ltb s.row x.row)

-- the partner of x from a spot on; where there is no spot, none
unfoldable pub partner_from : List ℕ → List ℕ → List ℕ → List ℕ → Maybe Here → Cell → Option Cell
partner_from st ar st' ar' (Some h) x = partner_in st ar st' ar' (cells_at st' h) x
partner_from st ar st' ar' None x = none

unfoldable pub ReachedIf : List ℕ → Maybe Here → Type 0
ReachedIf st (Some h) = Reached st h
ReachedIf st None = Unit

-- what a slot says is true of every later row of its column: it has no partner, or one behind the spot if any
pub record Claim (st ar st' ar' : List ℕ) (s : Slot) : Type 0 where
  pub reached : ReachedIf st' s.spot
  pub later : (x : Cell) → is_for s x ≡ true → partner st ar st' ar' x ≡ partner_from st ar st' ar' s.spot x

-- nothing is remembered
abbrev pub blank : Slot
blank = record { tag = 0; frame = 0; row = 0; spot = Some first }

-- what a search asks: a value of the one store, no two values of the other that meet, and that what is remembered is true
pub record Asks (st ar st' ar' : List ℕ) (x : Found) (s : Slot) (last : Here) : Type 0 where
  pub lies : Lies st x
  pub singular : Singular st' ar'
  pub claim : Claim st ar st' ar' s
  pub reached : Reached st' last

-- from a spot on, y is the first value that x meets, and behind it the walk stands at another spot
pub record Behind (st ar st' ar' : List ℕ) (x : Cell) (from : Here) (y : Found) (after : Here) : Type 0 where
  pub before : List Cell
  pub values : cells_at st' from ≡ before ++ (cell_of y ∷ cells_at st' after)
  pub meet : meets st ar st' ar' x (cell_of y) ≡ true
  pub lies : Lies st' y
  pub placed : Placed st' after

-- a search from a spot on
unfoldable pub Searched : List ℕ → List ℕ → List ℕ → List ℕ → Cell → Here → Maybe Met → Type 0
Searched st ar st' ar' x from (Some m) = Behind st ar st' ar' x from m.value m.after
Searched st ar st' ar' x from None = partner_in st ar st' ar' (cells_at st' from) x ≡ none

-- what is remembered of x behind a search, where the last partner stood before that spot
unfoldable pub told_of : Found → Here → Maybe Met → Sought
told_of x last (Some m) = record { partner = Some m.value; slot = record { tag = x.tag; frame = x.frame; row = x.row; spot = Some m.after }; last = m.after }
told_of x last None = record { partner = None; slot = record { tag = x.tag; frame = x.frame; row = x.row; spot = None }; last = last }

-- a partner, and what is remembered
pub record Finds (st ar st' ar' : List ℕ) (x : Cell) (r : Sought) : Type 0 where
  pub partner : Matched st' r.partner (partner st ar st' ar' x)
  pub claim : Claim st ar st' ar' r.slot
  pub last : Reached st' r.last

-- what is remembered of some columns, and the spot behind the last partner
pub record Remembers (st ar st' ar' : List ℕ) (slots : List Slot) (last : Here) : Type 0 where
  pub claims : (j : ℕ) → Claim st ar st' ar' (get_or slots j blank)
  pub reached : Reached st' last
