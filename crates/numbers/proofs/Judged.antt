-- What a reader of values needs to know of numbers: how a word is judged, and first bytes by which it is no number. Assumes nothing.
use Prim.Native.Nat.{ℕ, zero, suc}
use mathlib.Core.Path.{◌≡◌, refl}
use mathlib.Core.Bool.{false, cond}
use mathlib.Core.List.{List, [], ◌∷◌}
use borrow.Author.Tests.{ne_eqb}
use lib.ListN.{take, get_or}
use Rattle.rules.specs.declared.Reading.{Reading}
use Rattle.text.specs.Bytes.{is, is_digit}
use Rattle.numbers.specs.declared.Number.TheVariants.{Not, Is, Over}
use Rattle.numbers.specs.Parts.{Parts, parts, counts_as, within}
use Rattle.numbers.specs.Meaning.{meaning, judged, number_of}
use Rattle.numbers.specs.Pieces.{starts_number}
use Rattle.numbers.proofs.Facts.{not-number, no-number-by-first-byte, dot-alone}

-- a word is judged by its parts: is it a number, and does it keep the limits
pub number-judged : (r : Reading) (w : List ℕ) → number_of r w ≡ cond (counts_as r (parts w)) (cond (within (parts w)) (Is (meaning (parts w))) Over) Not
unfolding number_of judged
number-judged r w = refl

-- a number means something uncertain where it has a bracket
pub meaning-uncertain : (p : Parts) → (meaning p).uncertain ≡ p.unc.here
unfolding meaning
meaning-uncertain p = refl

-- Words that are no numbers

-- a number starts with a digit, a sign or the point
pub starts_none : (b : ℕ) → is_digit b ≡ false → (b ≡ 43 → ⊥) → (b ≡ 45 → ⊥) → (b ≡ 46 → ⊥) → starts_number b ≡ false
unfolding starts_number is
starts_none b d p m t = rw (d, ne_eqb b 43 p, ne_eqb b 45 m, ne_eqb b 46 t)

first_byte : (n : ℕ) (l : List ℕ) → starts_number (get_or l 0 0) ≡ false → starts_number (get_or (take n l) 0 0) ≡ false
unfolding starts_number is_digit is
first_byte zero l e = refl
first_byte (suc n) [] e = refl
first_byte (suc n) (b ∷ l) e = e

-- a word whose first byte starts no number is none
pub none-by-first-byte : (r : Reading) (n : ℕ) (l : List ℕ) → starts_number (get_or l 0 0) ≡ false → number_of r (take n l) ≡ Not
none-by-first-byte r n l e = not-number r (take n l) (no-number-by-first-byte (take n l) (first_byte n l e))

first-digit : (n : ℕ) (l : List ℕ) → is_digit (get_or l 0 0) ≡ false → is_digit (get_or (take n l) 0 0) ≡ false
unfolding is_digit
first-digit zero l e = refl
first-digit (suc n) [] e = refl
first-digit (suc n) (b ∷ l) e = e

-- nor is one that starts with the point and has no digit behind it
pub none-by-point : (r : Reading) (n : ℕ) (l : List ℕ) → is_digit (get_or l 0 0) ≡ false → number_of r (take n (46 ∷ l)) ≡ Not
unfolding starts_number is_digit is
none-by-point r zero l e = not-number r [] (no-number-by-first-byte [] refl)
none-by-point r (suc n) l e = not-number r (46 ∷ take n l) (dot-alone (take n l) (first-digit n l e))
