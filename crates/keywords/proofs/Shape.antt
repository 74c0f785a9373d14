-- No digit shows in whether a keyword stands somewhere, in either reading: it is the same in a text and in its
-- shape (text/Shape). Assumes nothing.
use Prim.Native.Nat.{ℕ}
use mathlib.Core.Bool.{Bool, true, ◌&&◌}
use mathlib.Core.Path.{◌≡◌, refl, ap₂}
use mathlib.Core.List.{List, [], ◌∷◌, map}
use Rattle.rules.specs.declared.Reading.{Reading}
use Rattle.rules.specs.declared.Reading.TheVariants.{First, Strict}
use Rattle.text.specs.Bytes.{is}
use Rattle.text.proofs.Bools.{and_l, and_r}
use Rattle.text.proofs.Shape.{σ, flat, blind}
use Rattle.words.proofs.Shape.{word-σ}
use Rattle.folding.specs.Folding.{lower}
use Rattle.keywords.specs.Keywords.{starts, key_data, key_global, key_loop, key_save, key_stop, is_word, stands}

-- a keyword without digits
no_digit : List ℕ → Bool
no_digit [] = true
no_digit (c ∷ k) = flat (λ b. is c (lower b)) && no_digit k

starts-σ : (k s : List ℕ) → no_digit k ≡ true → starts k (map σ s) ≡ starts k s
unfolding starts no_digit
starts-σ [] s e = refl
starts-σ (c ∷ k) [] e = refl
starts-σ (c ∷ k) (b ∷ s) e = ap₂ ◌&&◌ (blind (λ x. is c (lower x)) (and_l _ (no_digit k) e) b) (starts-σ k s (and_r (flat (λ b. is c (lower b))) _ e))

stands-σ : (r : Reading) (k s : List ℕ) → no_digit k ≡ true → stands r k (map σ s) ≡ stands r k s
unfolding is_word
stands-σ First k s e = starts-σ k s e
stands-σ Strict k s e = rw (starts-σ k s e, word-σ s)

-- the five keywords
pub data-σ : (s : List ℕ) → starts key_data (map σ s) ≡ starts key_data s
unfolding key_data no_digit is lower
data-σ s = starts-σ key_data s refl

pub save-σ : (s : List ℕ) → starts key_save (map σ s) ≡ starts key_save s
unfolding key_save no_digit is lower
save-σ s = starts-σ key_save s refl

pub loop-σ : (r : Reading) (s : List ℕ) → stands r key_loop (map σ s) ≡ stands r key_loop s
unfolding key_loop no_digit is lower
loop-σ r s = stands-σ r key_loop s refl

pub global-σ : (r : Reading) (s : List ℕ) → stands r key_global (map σ s) ≡ stands r key_global s
unfolding key_global no_digit is lower
global-σ r s = stands-σ r key_global s refl

pub stop-σ : (r : Reading) (s : List ℕ) → stands r key_stop (map σ s) ≡ stands r key_stop s
unfolding key_stop no_digit is lower
stop-σ r s = stands-σ r key_stop s refl
