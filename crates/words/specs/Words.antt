-- Words (document 01): a word runs to the next space, tab, LF, CR or form feed or the end; a bare value starts with an
-- ordinary byte. Assumes nothing.
use Rattle.std.specs.Prelude.{ℕ, ◌+◌, Bool, not, ◌&&◌, ◌||◌, List, leb, eqb, drop}
use Prim.Native.Char.{code}
use Rattle.text.specs.Bytes.{ends_word, double_quote, hash, dollar, single_quote, semicolon}
use Rattle.text.specs.Bytes.{open_square, close_square, underscore}
use Rattle.text.specs.Runs.{span}

-- a byte of a word
unfoldable pub in_word : ℕ → Bool
in_word b = not (ends_word b)

-- the length of the word that a text starts with
unfoldable pub word : List ℕ → ℕ
word s = span in_word s

-- where the word that starts at offset o ends
unfoldable pub end_of_word : List ℕ → ℕ → ℕ
end_of_word s o = o + word (drop o s)

-- a printable byte (33 to 126) other than # $ ' " _ [ ] ;
unfoldable pub is_ordinary : ℕ → Bool
is_ordinary b =
    leb (code "!") b && leb b (code "~")
    && not
    (eqb b hash || eqb b dollar || eqb b single_quote || eqb b double_quote || eqb b underscore
    || eqb b open_square || eqb b close_square || eqb b semicolon)
