-- Space and comments (document 01: a comment runs from `#`, where space may stand, to the line end). Assumes nothing.
use Rattle.std.specs.Prelude.{ℕ, suc, ◌+◌, Bool, true, false, not, cond, ◌||◌, List, [], ◌∷◌, leb, ltb, length, drop, get_or}
use Rattle.text.specs.Bytes.{is, is_eol, is_space, hash}

-- is the byte skipped; the flag says that it stands in a comment
unfoldable pub gap_byte : Bool → ℕ → Bool
gap_byte true b = true
gap_byte false b = is_space b || is hash b

-- does what follows a skipped byte stand in a comment
unfoldable pub gap_then : Bool → ℕ → Bool
gap_then true b = not (is_eol b)
gap_then false b = is hash b

-- how many bytes are skipped
unfoldable pub gap_in : Bool → List ℕ → ℕ
gap_in c [] = 0
gap_in c (b ∷ s) = let more = suc (gap_in (gap_then c b) s) in cond (gap_byte c b) more 0

-- the length of the space and comments that a text starts with
unfoldable pub gap : List ℕ → ℕ
gap s = gap_in false s

-- where the space and comments that start at offset o end
unfoldable pub gap_end : List ℕ → ℕ → ℕ
gap_end s o = o + gap (drop o s)

-- one look shows that none starts at offset o: the text's end, or a byte above `#`
unfoldable pub shows_no_gap : List ℕ → ℕ → Bool
shows_no_gap s o = leb (length s) o || ltb hash (get_or s o 0)
