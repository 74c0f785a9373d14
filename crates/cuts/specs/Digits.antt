-- Pieces of a word, the digits in it and the numbers that they write. Past the word's end a byte reads as 0, which is
-- in no class. Assumes nothing.
use Rattle.std.specs.Prelude.{ℕ, ◌+◌, ◌*◌, ◌-◌, ◌≤◌, ◌<◌, ◌≡◌, true, cond, ◌||◌, List, [], ◌∷◌, length, get_or, take, drop}
use Rattle.text.specs.Bytes.{is_digit, is, digit_zero}
use Rattle.text.specs.Runs.{span_end}
use Rattle.cuts.specs.declared.Digits.{Digits}

-- the bytes from i up to j
unfoldable pub piece : List ℕ → ℕ → ℕ → List ℕ
piece w i j = take (j - i) (drop i w)

-- behind the byte at i if it is x or y, else i
unfoldable pub after : ℕ → ℕ → List ℕ → ℕ → ℕ
after x y w i = cond (is x (get_or w i 0) || is y (get_or w i 0)) (i + 1) i

-- the number that digits write, behind those that write a
unfoldable pub value_from : ℕ → List ℕ → ℕ
value_from a [] = a
value_from a (d ∷ ds) = value_from (a * 10 + (d - digit_zero)) ds

-- the number that digits write; none write 0
unfoldable pub value : List ℕ → ℕ
value ds = value_from 0 ds

-- behind the digits at i
unfoldable pub digits_end : List ℕ → ℕ → ℕ
digits_end w i = span_end is_digit w i

-- the digits at i: where they end, and the number that they write
unfoldable pub digits_at : List ℕ → ℕ → Digits
digits_at w i = record { end = digits_end w i; value = value (piece w i (digits_end w i)) }

-- digits stand from i up to j, inside the word
pub record Run (w : List ℕ) (i j : ℕ) : Type 0 where
  pub from : i ≤ j
  pub to : j ≤ length w
  pub all : (k : ℕ) → i ≤ k → k < j → is_digit (get_or w k 0) ≡ true
