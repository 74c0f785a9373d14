-- Lines (document 01): a line runs to the next LF or CR, or to the text's end. Assumes nothing.
use Rattle.std.specs.Prelude.{ℕ, zero, suc, ◌+◌, Bool, not, cond, List, eqb, get_or}
use Rattle.text.specs.Bytes.{is_eol, line_feed, carriage_return}
use Rattle.text.specs.Runs.{span_end, runs}

-- a byte that ends no line
unfoldable pub in_line : ℕ → Bool
in_line b = not (is_eol b)

-- where the line that goes on at offset o ends; behind the text's end, o itself
unfoldable pub line_end : List ℕ → ℕ → ℕ
line_end s o = span_end in_line s o

-- 1 for LF, 0 for any other byte
unfoldable pub feed : ℕ → ℕ
feed b = cond (eqb b line_feed) 1 0

-- how many of the n bytes at offset o are LF
unfoldable pub feeds : ℕ → List ℕ → ℕ → ℕ
feeds zero s o = 0
feeds (suc n) s o = feeds n s o + feed (get_or s (o + n) 0)

-- any byte but CR
unfoldable pub no_carriage : ℕ → Bool
no_carriage b = not (eqb b carriage_return)

-- how many of the n bytes at offset o are LF, or a given number where one of them is CR
unfoldable pub feeds_or : ℕ → ℕ → List ℕ → ℕ → ℕ
feeds_or other n s o = cond (runs no_carriage n s o) (feeds n s o) other

-- where the last line of the n bytes at offset o begins: behind their last LF, or at o
unfoldable pub last_start : ℕ → List ℕ → ℕ → ℕ
last_start zero s o = o
last_start (suc n) s o = let before = last_start n s o in cond (eqb (get_or s (o + n) 0) line_feed) (o + n + 1) before
