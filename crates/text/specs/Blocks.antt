-- Bytes that a search for an end passes over many at once. Assumes nothing.
use Rattle.std.specs.Prelude.{ℕ, Bool, not, ◌&&◌, leb}
use Rattle.text.specs.Bytes.{is}

-- a byte that is not the mark and not below the least
unfoldable pub clear : ℕ → ℕ → ℕ → Bool
clear least mark b = leb least b && not (is mark b)
