-- A word is the same whether the text ends behind it or an LF and more text follow. Assumes nothing.
use Prim.Native.Nat.{ℕ}
use mathlib.Core.Bool.{true, false}
use mathlib.Core.Path.{◌≡◌, refl}
use mathlib.Core.List.{List, ◌∷◌, ◌++◌}
use lib.ListN.{take}
use lib.Seq.{take-append-le}
use Rattle.text.specs.Bytes.{ends_word}
use Rattle.text.proofs.Ended.{span-ended}
use Rattle.words.specs.Words.{in_word, word}
use Rattle.words.proofs.Words.{word_fits}

-- a byte that ends no word is part of one
pub in-word : (b : ℕ) → ends_word b ≡ false → in_word b ≡ true
unfolding in_word
in-word b e = rw e

-- an LF and what follows it leave the length of a word as it is
pub word-ended : (w t : List ℕ) → word (w ++ 10 ∷ t) ≡ word w
unfolding word in_word ends_word
word-ended w t = span-ended in_word 10 refl w t

-- what follows a text changes no byte of the word that the text starts with
pub word-taken : (w t : List ℕ) → take (word w) (w ++ t) ≡ take (word w) w
word-taken w t = take-append-le (word w) w t (word_fits w)
