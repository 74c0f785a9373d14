-- The byte before an offset (document 02, Three): a token stands in column 1 where it is LF or CR, and apart from the token before where it is space. Assumes nothing.
use Rattle.std.specs.Prelude.{ℕ, zero, suc, List, [], ◌∷◌, Bool, true, get_or}
use Rattle.rules.specs.declared.Reading.{Reading}
use Rattle.rules.specs.declared.Reading.TheVariants.{First, Strict}
use Rattle.text.specs.Bytes.{line_feed, is_space}

-- a text starts as behind an LF
unfoldable pub byte_before : List ℕ → ℕ → ℕ
byte_before s zero = line_feed
byte_before s (suc o) = get_or s o line_feed

-- the same k bytes on, where p stands before s
unfoldable pub passed : ℕ → List ℕ → ℕ → ℕ
passed p s zero = p
passed p [] (suc k) = p
passed p (b ∷ s) (suc k) = passed b s k

-- space parts what stands behind the byte p from what stands before, where the reading asks for it
abbrev pub is_parted : Reading → ℕ → Bool
is_parted First p = true
is_parted Strict p = is_space p
