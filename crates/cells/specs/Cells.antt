-- THE VALUES OF A STORE (document 02, Four): each has its record's number, its frame, its tag and its row; "loop values match by name and row, a single value being row
-- 0". Frame and tag are named by the numbers of their records, which count from 0; a value that stands in no frame has frame 0, the block's record. Only kinds and
-- numbers of tags decide this, never the area. Assumes nothing.
use Rattle.std.specs.Prelude.{ℕ, suc, ◌+◌, ◌/◌, ◌%◌, cond, List, [], ◌∷◌, eqb, Option, Some, None}
use Rattle.kinds.specs.Kinds.{number_of}
use Rattle.entries.specs.declared.Entry.{Entry}
use Rattle.entries.specs.Walk.{entries}
use Rattle.kinds.specs.Kinds.{is_value_kind}
use Rattle.stores.specs.Content.{nth}
use Rattle.steps.specs.Steps.{held_by}

-- a value
pub record Cell : Type 0 where
  pub number : ℕ
  pub frame : ℕ
  pub tag : ℕ
  pub row : ℕ

-- what a record stands under: its frame, the first tag of its item, how many tags that has, and how many values of it stand before
pub record Under : Type 0 where
  pub frame : ℕ
  pub header : ℕ
  pub tags : ℕ
  pub count : ℕ

abbrev pub outset : Under
outset = record { frame = 0; header = 0; tags = 0; count = 0 }

-- behind record number i, of kind k and, if it is a loop's, with n tags
unfoldable pub under : ℕ → ℕ → ℕ → Under → Under
under k n i u =
    cond (eqb k 2) (record { frame = i; header = u.header; tags = u.tags; count = u.count })
    (cond (eqb k 3) (record { frame = 0; header = u.header; tags = u.tags; count = u.count })
    (cond (eqb k 4) (record { frame = u.frame; header = i; tags = 1; count = 0 })
    (cond (eqb k 5) (record { frame = u.frame; header = suc i; tags = n; count = 0 })
    (cond (is_value_kind k) (record { frame = u.frame; header = u.header; tags = u.tags; count = suc u.count }) u))))

-- the value that is record number i: the tags of a loop follow one another, and its values fill row by row
unfoldable pub cell : ℕ → Under → Cell
cell i u = record { number = i; frame = u.frame; tag = u.header + u.count % u.tags; row = u.count / u.tags }

-- the values among entries, the first of which has the number i
unfoldable pub cells_from : List (Option Entry) → ℕ → Under → List Cell
cells_from [] i u = []
cells_from (None ∷ es) i u = []
cells_from (Some e ∷ es) i u =
    let more = cells_from es (suc i) (under (number_of e.kind) e.fields.number i u) in
    cond (is_value_kind (number_of e.kind)) (cell i u ∷ more) more

unfoldable pub cells : List ℕ → List Cell
cells st = cells_from (entries st) 0 outset

-- the name that record number n holds
unfoldable pub name_of : List ℕ → List ℕ → ℕ → List ℕ
name_of st ar n = held_by ar (nth (entries st) n)
