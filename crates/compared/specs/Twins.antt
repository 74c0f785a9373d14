-- Stores that say the same, places aside: the same values by number, and of each the same name, frame's name and value. So a store stands to what Read gives of its
-- rendering. Assumes nothing.
use Rattle.std.specs.Prelude.{ℕ, ◌≡◌, List}
use Rattle.entries.specs.Walk.{entries}
use Rattle.stores.specs.Content.{nth}
use Rattle.cells.specs.Cells.{Cell, cells, name_of}
use Rattle.number_cases.specs.declared.Case.TheVariants.{Same}
use Rattle.cases.specs.Cases.{case_of}
use Rattle.soles.specs.Members.{In}

pub record Twins (st ar st' ar' : List ℕ) : Type 0 where
  pub same : cells st ≡ cells st'
  pub tags : (x : Cell) → In x (cells st) → name_of st ar x.tag ≡ name_of st' ar' x.tag
  pub opens : (x : Cell) → In x (cells st) → (x.frame ≡ 0 → ⊥) → name_of st ar x.frame ≡ name_of st' ar' x.frame
  pub values : (x : Cell) → In x (cells st) → case_of ar ar' (nth (entries st) x.number) (nth (entries st') x.number) ≡ Same
