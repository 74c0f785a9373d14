-- Places (document 01): line is 1 plus the line ends before, column 1 plus the bytes since the last. CR LF and LF CR
-- each make one line end, a lone CR or LF one, taken greedily from the left: a fold over the bytes before, which knows
-- whether the last byte may be the first half of a pair. Assumes nothing.
use Rattle.std.specs.Prelude.{ℕ, ◌+◌, ◌≤◌, ◌≡◌, Bool, true, false, cond, ◌&&◌, ◌||◌, List, [], ◌∷◌, eqb, length, take, get_or}
use Rattle.text.specs.Bytes.{is_eol, line_feed, carriage_return}
use Rattle.places.specs.declared.Place.{Place}
use Rattle.places.specs.declared.Scan.{Scan}

-- line 1, column 1, and no line end begun
abbrev pub start : Scan
start = record { line = 1; column = 1; half = 0 }

-- b closes the line end that the byte before began: CR LF or LF CR
abbrev pub closes : ℕ → ℕ → Bool
closes half b = (eqb half carriage_return && eqb b line_feed) || (eqb half line_feed && eqb b carriage_return)

-- over a byte of a line end: one that closes a line end belongs to it, any other begins one
abbrev pub over : Bool → ℕ → ℕ → Scan
over true line b = record { line = line; column = 1; half = 0 }
over false line b = record { line = line + 1; column = 1; half = b }

-- over one byte
unfoldable pub step : Scan → ℕ → Scan
step c b =
    let next : Scan = record { line = c.line; column = c.column + 1; half = 0 } in
    cond (is_eol b) (over (closes c.half b) c.line b) next

-- over n bytes that end no line
unfoldable pub along : Scan → ℕ → Scan
along c n = record { line = c.line; column = c.column + n; half = 0 }

unfoldable pub scan : Scan → List ℕ → Scan
scan c [] = c
scan c (b ∷ s) = scan (step c b) s

-- over the first o bytes of s
unfoldable pub scan_at : List ℕ → ℕ → Scan
scan_at s o = scan start (take o s)

-- the place of offset o
unfoldable pub place_at : List ℕ → ℕ → Place
place_at s o = record { offset = o; line = (scan_at s o).line; column = (scan_at s o).column }

-- o does not part a line end of two bytes
unfoldable pub Whole : List ℕ → ℕ → Type 0
Whole s o = closes (scan_at s o).half (get_or s o 0) ≡ false

-- p is a place of s from which a reader may go on
pub record IsPlace (s : List ℕ) (p : Place) : Type 0 where
  pub at : p ≡ place_at s p.offset
  pub whole : Whole s p.offset
  pub within : p.offset ≤ length s
