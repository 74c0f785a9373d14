-- Pieces of a word that are empty, and signs. Assumes nothing.
use Prim.Native.Nat.{ℕ, suc, ◌-◌, ◌≤◌, ◌<◌}
use mathlib.Core.Path.{◌≡◌, refl, sym, ◌∙◌}
use mathlib.Core.Bool.{not, ◌&&◌}
use mathlib.Core.List.{List, [], ◌∷◌}
use native.Mathlib.Decide.{dec_lt}
use native.Mathlib.Omega.{arith}
use lib.Dec.{leb, ltb, eqb}
use lib.ListN.{length, take, drop, get_or, length-drop, drop_of_length-le}
use lib.Seq.{take-nil, drop-cons}
use borrow.Author.Tests.{lt-ltb, le-ltb, le-leb, lt-leb}
use Rattle.text.specs.Bytes.{is}
use Rattle.text.proofs.Runs.{past_end}
use Rattle.cuts.specs.Digits.{piece}
use Rattle.cuts.proofs.DigitRuns.{piece-length, piece-over}
use Rattle.numbers.specs.Parts.{is_empty, minus}

empty-length : (s : List ℕ) → is_empty s ≡ leb (length s) 0
unfolding is_empty
empty-length [] = refl
empty-length (b ∷ s) = sym (lt-leb (suc (length s)) 0 (omega arith))

pub piece-empty : (w : List ℕ) (i j : ℕ) → j ≤ length w → is_empty (piece w i j) ≡ not (ltb i j)
piece-empty w i j h = empty-length (piece w i j) ∙ rw (piece-length w i j h) (by (dec_lt i j))
  where
    by : Dec (i < j) → leb (j - i) 0 ≡ not (ltb i j)
    by (yes l) = rw (lt-leb (j - i) 0 (omega arith), lt-ltb i j l)
    by (no l) = rw (le-leb (j - i) 0 (omega arith), le-ltb i j (omega arith))

pub rest-empty : (w : List ℕ) (i : ℕ) → is_empty (drop i w) ≡ not (ltb i (length w))
rest-empty w i = empty-length (drop i w) ∙ rw (length-drop i w) (by (dec_lt i (length w)))
  where
    by : Dec (i < length w) → leb (length w - i) 0 ≡ not (ltb i (length w))
    by (yes l) = rw (lt-leb (length w - i) 0 (omega arith), lt-ltb i (length w) l)
    by (no l) = rw (le-leb (length w - i) 0 (omega arith), le-ltb i (length w) (omega arith))

pub rest_test : (w : List ℕ) (i : ℕ) → is_empty (drop i w) ≡ leb (length w) i
rest_test w i = rest-empty w i ∙ by (dec_lt i (length w))
  where
    by : Dec (i < length w) → not (ltb i (length w)) ≡ leb (length w) i
    by (yes l) = rw (lt-ltb i (length w) l, lt-leb (length w) i l)
    by (no l) = rw (le-ltb i (length w) (omega arith), le-leb (length w) i (omega arith))

-- a sign's first byte says whether it is a minus
pub piece-minus : (w : List ℕ) (i j : ℕ) → i < j → minus (piece w i j) ≡ eqb (get_or w i 0) 45
unfolding minus piece is
piece-minus w i j h = by (dec_lt i (length w))
  where
    n : j - i ≡ suc (j - i - 1)
    n = omega arith

    by : Dec (i < length w) → minus (take (j - i) (drop i w)) ≡ eqb (get_or w i 0) 45
    by (yes l) = rw (n, drop-cons w i 0 l)
    by (no l) =
        let o : length w ≤ i = omega arith in
        rw (drop_of_length-le w o, take-nil (j - i), past_end w i o)

-- and one that is empty is none
pub sign_test : (w : List ℕ) (i j : ℕ) → minus (piece w i j) ≡ (ltb i j && eqb (get_or w i 0) 45)
unfolding minus
sign_test w i j = by (dec_lt i j)
  where
    by : Dec (i < j) → minus (piece w i j) ≡ (ltb i j && eqb (get_or w i 0) 45)
    by (yes l) = rw (lt-ltb i j l) (piece-minus w i j l)
    by (no l) = rw (le-ltb i j (omega arith), piece-over w i j (omega arith))
