-- How the values of a store are walked: a spot and a value found have numbers of records and, beside each, the offset where that record stands. Assumes nothing.
use Rattle.std.specs.Prelude.{ℕ, ◌+◌, ◌%◌, ◌≤◌, ◌≡◌, cond, List, [], ◌∷◌, eqb, drop, Option, Some, None}
use Rattle.entries.specs.declared.Entry.{Entry}
use Rattle.entries.specs.Walk.{entries_from, entries}
use Rattle.cells.specs.declared.Here.{Here}
use Rattle.cells.specs.declared.Found.{Found}
use Rattle.cells.specs.declared.Leap.{Leap}
use Rattle.cells.specs.declared.Met.{Met}
use Rattle.cells.specs.Cells.{Cell, Under, cell, cells_from}

-- the entries from an offset on
unfoldable pub entries_at : List ℕ → ℕ → List (Option Entry)
entries_at st at = entries_from (drop at st) 0

-- record number n stands at an offset
unfoldable pub IsAt : List ℕ → ℕ → ℕ → Type 0
IsAt st at n = entries_at st at ≡ drop n (entries st)

-- what the record at a spot stands under
unfoldable pub under_of : Here → Under
under_of h = record { frame = h.frame; header = h.header; tags = h.tags; count = h.count }

-- the values from a spot on
unfoldable pub cells_at : List ℕ → Here → List Cell
cells_at st h = cells_from (entries_at st h.at) h.number (under_of h)

-- the spot of the first record
abbrev pub first : Here
first = record { at = 0; number = 0; frame = 0; outer = 0; header = 0; from = 0; tags = 0; count = 0; name = 0 }

-- a spot's offsets are those of its records, the next value's tag among them; no more values of an item than records behind its first tag, no more records than bytes
pub record Placed (st : List ℕ) (h : Here) : Type 0 where
  pub here : IsAt st h.at h.number
  pub frame : IsAt st h.outer h.frame
  pub header : IsAt st h.from h.header
  pub column : entries_at st h.name ≡ drop (h.count % h.tags) (entries_at st h.from)
  pub counted : h.header + h.count ≤ h.number
  pub within : h.number ≤ h.at

-- the next spot, by what stands between: a frame opens, a frame closes, a single tag, a loop of n tags, a value with the offset of the next one's tag, or any other record
abbrev pub opened : ℕ → Here → Here
opened next h = record { at = next; number = h.number + 1; frame = h.number; outer = h.at; header = h.header; from = h.from; tags = h.tags; count = h.count; name = h.name }

abbrev pub closed : ℕ → Here → Here
closed next h = record { at = next; number = h.number + 1; frame = 0; outer = 0; header = h.header; from = h.from; tags = h.tags; count = h.count; name = h.name }

abbrev pub tagged : ℕ → Here → Here
tagged next h = record { at = next; number = h.number + 1; frame = h.frame; outer = h.outer; header = h.number; from = h.at; tags = 1; count = 0; name = h.at }

abbrev pub looped : ℕ → ℕ → Here → Here
looped n next h = record { at = next; number = h.number + 1; frame = h.frame; outer = h.outer; header = h.number + 1; from = next; tags = n; count = 0; name = next }

abbrev pub counted : ℕ → ℕ → Here → Here
counted next name h = record { at = next; number = h.number + 1; frame = h.frame; outer = h.outer; header = h.header; from = h.from; tags = h.tags; count = h.count + 1; name = name }

abbrev pub passed : ℕ → Here → Here
passed next h = record { at = next; number = h.number + 1; frame = h.frame; outer = h.outer; header = h.header; from = h.from; tags = h.tags; count = h.count; name = h.name }

-- behind a record that is no value, of kind k and, if it is a loop's, with n tags
unfoldable pub here_after : ℕ → ℕ → ℕ → Here → Here
here_after k n next h =
    cond (eqb k 2) (opened next h)
    (cond (eqb k 3) (closed next h) (cond (eqb k 4) (tagged next h) (cond (eqb k 5) (looped n next h) (passed next h))))

-- the value that was found
abbrev pub cell_of : Found → Cell
cell_of x = record { number = x.number; frame = x.frame; tag = x.tag; row = x.row }

-- its offsets are those of its records
pub record Lies (st : List ℕ) (x : Found) : Type 0 where
  pub here : IsAt st x.at x.number
  pub frame : IsAt st x.outer x.frame
  pub tag : IsAt st x.name x.tag

-- the value at a spot
pub record Finds (st : List ℕ) (h : Here) (x : Found) : Type 0 where
  pub value : cell_of x ≡ cell h.number (under_of h)
  pub lies : Lies st x

-- the values that a step tells: the one met and those behind it, or none
unfoldable pub listed : List ℕ → Option Met → List Cell
listed st (Some m) = cell_of m.value ∷ cells_at st m.after
listed st None = []

unfoldable pub Kept : List ℕ → Option Met → Type 0
Kept st (Some m) = Lies st m.value × Placed st m.after
Kept st None = Unit

-- a step from a spot to the next value
pub record Ahead (st : List ℕ) (h : Here) (r : Option Met) : Type 0 where
  pub values : cells_at st h ≡ listed st r
  pub kept : Kept st r

-- what is read of a record that is passed over
unfoldable pub leap_of : Option Entry → Option Leap
leap_of (Some e) = Some (record { kind = e.kind; next = e.next })
leap_of None = None

-- how many tags a record counts, if it is a loop's
unfoldable pub count_of : Option Entry → ℕ
count_of (Some e) = e.fields.number
count_of None = 0
