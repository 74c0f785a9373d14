-- The last line end of a part of a text. Assumes nothing.
use Rattle.std.specs.Prelude.{ℕ, zero, suc, ◌+◌, cond, List, get_or}
use Rattle.text.specs.Bytes.{is_eol}

-- behind the last line end of the n bytes at offset o, or o where they have none
unfoldable pub behind_last : List ℕ → ℕ → ℕ → ℕ
behind_last s o zero = o
behind_last s o (suc n) = let before = behind_last s o n in cond (is_eol (get_or s (o + n) 0)) (suc (o + n)) before
