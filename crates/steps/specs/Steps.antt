-- How names are found in a store: from name to name, each with its record's number, its scope and its bytes. Assumes nothing.
use Rattle.std.specs.Prelude.{ℕ, ◌+◌, ◌≤◌, ◌<◌, ◌≡◌, List, [], ◌∷◌, drop, Option, Some, None}
use Rattle.kinds.specs.Kinds.{number_of}
use Rattle.entries.specs.declared.Entry.{Entry}
use Rattle.entries.specs.Entries.{entry_at}
use Rattle.entries.specs.Walk.{entries_from}
use Rattle.contents.specs.Contents.{content_bytes}
use Rattle.names.specs.Names.{Name, names, names_from, block_after, scope_after}
use Rattle.names.specs.Parts.{name_of}
use Rattle.steps.specs.declared.Spot.{Spot}
use Rattle.steps.specs.declared.Met.{Met}

-- the name of the record that stands at a spot
abbrev pub name_in : List ℕ → Entry → Spot → Name
name_in ar e s = record { number = s.number; scope = s.scope; bytes = content_bytes ar e.kind e.fields }

-- the names from a spot on
unfoldable pub names_at : List ℕ → List ℕ → Spot → List Name
names_at st ar s = names_from (entries_from (drop s.at st) 0) ar s.number s.block s.scope

-- the spot of the store's first record
abbrev pub first : Spot
first = record { at = 0; number = 0; block = 0; scope = 0; count = 0 }

-- the spot behind a record that is no name
abbrev pub behind : Entry → Spot → Spot
behind e s =
    record {
      at = e.next;
      number = s.number + 1;
      block = block_after (number_of e.kind) s.number s.block;
      scope = scope_after (number_of e.kind) s.number s.block s.scope;
      count = s.count;
    }

-- a spot's numbers: no more names than records, no more records than bytes
unfoldable pub Counted : Spot → Type 0
Counted s = (s.count ≤ s.number) × (s.number ≤ s.at)

-- the names that a step tells: the one met and those behind it, or none
unfoldable pub listed : List ℕ → List ℕ → Option Met → List Name
listed st ar (Some m) = name_of m.name ∷ names_at st ar m.after
listed st ar None = []

-- what a step from a spot with so many names before it keeps
unfoldable pub Kept : ℕ → Option Met → Type 0
Kept n (Some m) = (m.after.count ≡ n + 1) × Counted m.after
Kept n None = Unit

-- a step from a spot to the next name
pub record Ahead (st ar : List ℕ) (s : Spot) (r : Option Met) : Type 0 where
  pub names : names_at st ar s ≡ listed st ar r
  pub kept : Kept s.count r

-- a step from a spot with fewer than so many names before it; from any other there is none
pub record Before (st ar : List ℕ) (end : ℕ) (s : Spot) (r : Option Met) : Type 0 where
  pub ahead : s.count < end → Ahead st ar s r
  pub over : end ≤ s.count → r ≡ None

-- a spot that the walk from the store's first record reaches
pub record Reached (st ar : List ℕ) (s : Spot) : Type 0 where
  pub names : names_at st ar s ≡ drop s.count (names st ar)
  pub counted : Counted s

-- the bytes of the name at an offset, none where no record stands
unfoldable pub held_by : List ℕ → Option Entry → List ℕ
held_by ar (Some e) = content_bytes ar e.kind e.fields
held_by ar None = []

unfoldable pub held_at : List ℕ → List ℕ → ℕ → List ℕ
held_at st ar at = held_by ar (entry_at st at)
