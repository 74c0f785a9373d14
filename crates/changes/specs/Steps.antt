-- HOW THE LIST IS MADE: a walk from entry to entry, over the values of one store, with what is remembered of the other. Assumes nothing.
use Rattle.std.specs.Prelude.{ℕ, ◌≡◌, Bool, true, List, [], ◌++◌, length, Option, Some, None}
use Rattle.std.specs.Borrow.{MutBor}
use Rattle.rules.specs.declared.Reading.{Reading}
use Rattle.stores.specs.Soundness.{sound}
use Rattle.cells.specs.declared.Here.{Here}
use Rattle.cells.specs.Walk.{cells_at, first, Placed}
use Rattle.soles.specs.Singular.{Singular}
use Rattle.matching.specs.declared.Slot.{Slot}
use Rattle.matching.specs.Matching.{Remembers}
use Rattle.changes.specs.declared.Change.{Change}
use Rattle.changes.specs.declared.Walk.{Walk}
use Rattle.changes.specs.Changes.{of_all, change_bytes, changes_bytes}

-- what is asked of two stores: both are sound, and in the other one no two values meet
pub record Comparable (st ar st' ar' : List ℕ) : Type 0 where
  pub reading : Reading
  pub here : sound reading st ar ≡ true
  pub there : sound reading st' ar' ≡ true
  pub singular : Singular st' ar'

-- the bytes of the entries of the values from a spot on
unfoldable pub bytes_at : Bool → List ℕ → List ℕ → List ℕ → List ℕ → Here → List ℕ
bytes_at old st ar st' ar' h = changes_bytes (of_all old st ar st' ar' (cells_at st h))

-- where a walk begins, with what is lent to it
abbrev pub outset : MutBor (List Slot) → Walk
outset s = record { here = first; last = first; slots = s }

-- a walk that may go on
pub record Walks (st ar st' ar' : List ℕ) (w : Walk) : Type 0 where
  pub placed : Placed st w.here
  pub remembers : Remembers st ar st' ar' w.slots.now w.last
  pub sized : length w.slots.now ≡ 128

-- a step: to the next entry, or to the end where there is none
unfoldable pub Stepped : Bool → List ℕ → List ℕ → List ℕ → List ℕ → Walk → Option Change → Walk → Type 0
Stepped old st ar st' ar' w (Some c) w' = Walks st ar st' ar' w' × (bytes_at old st ar st' ar' w.here ≡ change_bytes c ++ bytes_at old st ar st' ar' w'.here)
Stepped old st ar st' ar' w None w' = bytes_at old st ar st' ar' w.here ≡ []
