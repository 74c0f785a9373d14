-- No digit shows in where a word ends, or in which bytes start a bare value: both are the same in a text and in its shape (text/Shape). Assumes nothing.
use Prim.Native.Nat.{ℕ}
use mathlib.Core.Path.{◌≡◌, refl}
use mathlib.Core.List.{List, map}
use Rattle.text.specs.Bytes.{ends_word}
use Rattle.text.proofs.Shape.{σ, blind, span-σ}
use Rattle.words.specs.Words.{is_ordinary, in_word, word}

pub in_word-σ : (b : ℕ) → in_word (σ b) ≡ in_word b
unfolding in_word ends_word
in_word-σ = blind in_word refl

pub ordinary-σ : (b : ℕ) → is_ordinary (σ b) ≡ is_ordinary b
unfolding is_ordinary
ordinary-σ = blind is_ordinary refl

pub word-σ : (s : List ℕ) → word (map σ s) ≡ word s
unfolding word
word-σ s = span-σ in_word in_word-σ s
