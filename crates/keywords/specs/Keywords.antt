-- Keywords (document 01): they match in any letter case, as prefixes; in the strict reading `loop_`, `global_` and `stop_` match as whole words alone (document 02,
-- Three). Assumes nothing.
use Rattle.std.specs.Prelude.{ℕ, Bool, true, false, not, ◌&&◌, ◌||◌, List, [], ◌∷◌, leb, eqb, length, drop}
use Prim.Native.Char.{code}
use Rattle.rules.specs.declared.Reading.{Reading}
use Rattle.rules.specs.declared.Reading.TheVariants.{First, Strict}
use Rattle.text.specs.Bytes.{bytes, is}
use Rattle.words.specs.Words.{word}
use Rattle.folding.specs.Folding.{lower}

-- s starts with the keyword k, which is written in lower case, in any letter case
unfoldable pub starts : List ℕ → List ℕ → Bool
starts [] s = true
starts (c ∷ k) [] = false
starts (c ∷ k) (b ∷ s) = is c (lower b) && starts k s

unfoldable pub starts_at : List ℕ → List ℕ → ℕ → Bool
starts_at k s o = starts k (drop o s)

-- the five keywords
unfoldable pub key_data : List ℕ
key_data = bytes "data_"

unfoldable pub key_global : List ℕ
key_global = bytes "global_"

unfoldable pub key_loop : List ℕ
key_loop = bytes "loop_"

unfoldable pub key_save : List ℕ
key_save = bytes "save_"

unfoldable pub key_stop : List ℕ
key_stop = bytes "stop_"

-- s starts with a word that is the keyword k
unfoldable pub is_word : List ℕ → List ℕ → Bool
is_word k s = starts k s && eqb (word s) (length k)

-- the keyword k stands at the start of s; in the strict reading as a whole word, so that `loop_x` is a word like any other.
-- Asked for `loop_`, `global_` and `stop_`, and for a `save_` that closes a frame
abbrev pub stands : Reading → List ℕ → List ℕ → Bool
stands First k s = starts k s
stands Strict k s = is_word k s

-- no value starts with one of the five
unfoldable pub reserved : Reading → List ℕ → Bool
reserved r s = starts key_data s || stands r key_global s || stands r key_loop s || starts key_save s || stands r key_stop s

-- a letter that none of the five starts with: not d, g, l, s in either case
unfoldable pub is_free_letter : ℕ → Bool
is_free_letter b = let c = lower b in leb 97 c && (leb c 122 && not (is (code "d") c || (is (code "g") c || (is (code "l") c || is (code "s") c))))
