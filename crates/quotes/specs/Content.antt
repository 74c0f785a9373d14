-- What may stand between marks: in quotes neither their mark nor a byte of a line end; in the strict reading their mark too, but never before space. proofs/Content.antt
-- has that such a content, its mark behind it, is just what a quote reads to. Assumes nothing.
use Rattle.std.specs.Prelude.{ℕ, Bool, true, false, not, ◌&&◌, ◌||◌, List, [], ◌∷◌, eqb}
use Rattle.std.proofs.Math.Option.{Option, none, some}
use Rattle.text.specs.Bytes.{is, is_eol, is_space}

-- a byte that may stand in quotes: neither their mark nor one of a line end
unfoldable pub in_quotes : ℕ → ℕ → Bool
in_quotes m b = not (is m b || is_eol b)

-- a content of such bytes
unfoldable pub plain : ℕ → List ℕ → Bool
plain m [] = true
plain m (b ∷ c) = in_quotes m b && plain m c

-- a content of the strict reading: no byte of a line end, and none of space behind the mark. The flag: the mark stands before
unfoldable pub strict_plain : Bool → ℕ → List ℕ → Bool
strict_plain e m [] = true
strict_plain e m (b ∷ c) = not ((e && is_space b) || is_eol b) && strict_plain (is m b) m c

-- the last byte is one of a line end; the flag: so is the byte before
unfoldable pub last_eol : Bool → List ℕ → Bool
last_eol e [] = e
last_eol e (b ∷ c) = last_eol (is_eol b) c

-- a search for a closing mark answers the length n
abbrev pub ends_at : ℕ → Option ℕ → Bool
ends_at n none = false
ends_at n (some m) = eqb m n

-- it finds none
abbrev pub is_none : Option ℕ → Bool
is_none none = true
is_none (some n) = false
