-- Laws of pieces of a word, of runs of digits in it and of the numbers that they write. Assumes nothing.
use Prim.Native.Nat.{ℕ, zero, suc, ◌+◌, ◌-◌, ◌*◌, ◌^◌, ◌≤◌, ◌<◌}
use mathlib.Core.Path.{◌≡◌, refl}
use mathlib.Core.Bool.{true}
use mathlib.Core.List.{List, [], ◌∷◌, ◌++◌}
use native.Mathlib.Numerals.{add-one}
use native.Mathlib.Nat.{add-zero, pow-suc, pow-le-pow_right, lt_of_lt_of_le}
use native.Mathlib.Omega.{arith}
use lib.Dec.{leb, lit<}
use lib.ListN.{length, drop, get_or, length-take, length-drop}
use lib.Seq.{take-suc, take-add, drop-cons, drop-drop, get_or-drop, get_or-take}
use borrow.Author.Tests.{leb-true}
use Rattle.text.specs.Bytes.{is_digit}
use Rattle.text.proofs.Bools.{and_l, and_r}
use Rattle.text.proofs.Runs.{span-from, span-within, span-all, span-twice}
use Rattle.cuts.specs.Digits.{value_from, value, piece, digits_end, Run}

-- pieces

pub piece-over : (w : List ℕ) (i j : ℕ) → j ≤ i → piece w i j ≡ []
unfolding piece
piece-over w i j h =
    let e : j - i ≡ 0 = omega arith in
    rw e

pub piece-none : (w : List ℕ) (i : ℕ) → piece w i i ≡ []
piece-none w i = piece-over w i i (omega arith)

pub piece-length : (w : List ℕ) (i j : ℕ) → j ≤ length w → length (piece w i j) ≡ j - i
unfolding piece
piece-length w i j h = omega (arith, length-take (j - i) (drop i w), length-drop i w)

pub piece-at : (w : List ℕ) (i j k : ℕ) → k < j - i → get_or (piece w i j) k 0 ≡ get_or w (i + k) 0
unfolding piece
piece-at w i j k h = rw (get_or-take, get_or-drop)

-- pieces that follow each other are one; the first byte of a piece, and the last
pub piece-join : (w : List ℕ) (i j k : ℕ) → i ≤ j → j ≤ k → piece w i k ≡ piece w i j ++ piece w j k
unfolding piece
piece-join w i j k h l =
    let e : k - i ≡ (j - i) + (k - j) = omega arith in
    let f : i + (j - i) ≡ j = omega arith in
    rw (e, take-add (j - i) (k - j) (drop i w), drop-drop (j - i) i w, f)

pub piece-first : (w : List ℕ) (i j : ℕ) → i < j → i < length w → piece w i j ≡ get_or w i 0 ∷ piece w (i + 1) j
unfolding piece
piece-first w i j h l =
    let e : j - i ≡ suc (j - (i + 1)) = omega arith in
    rw (e, drop-cons w i 0 l, add-one i)

pub piece-last : (w : List ℕ) (i j : ℕ) → i ≤ j → j < length w → piece w i (j + 1) ≡ piece w i j ++ get_or w j 0 ∷ []
unfolding piece
piece-last w i j h l =
    let e : j + 1 - i ≡ suc (j - i) = omega arith in
    let f : i + (j - i) ≡ j = omega arith in
    let n : j - i < length (drop i w) = omega (arith, length-drop i w) in
    rw (e, take-suc (drop i w) (j - i) 0 n, get_or-drop i w (j - i) 0, f)

-- runs of digits

pub digit-range : (b : ℕ) → is_digit b ≡ true → (48 ≤ b) × (b ≤ 57)
unfolding is_digit
digit-range b e = (leb-true 48 b (and_l (leb 48 b) (leb b 57) e), leb-true b 57 (and_r (leb 48 b) (leb b 57) e))

pub run-digit : {w : List ℕ} {i j : ℕ} → Run w i j → (k : ℕ) → i ≤ k → k < j → (48 ≤ get_or w k 0) × (get_or w k 0 ≤ 57)
run-digit {w} r k h l = digit-range (get_or w k 0) (r.all k h l)

pub run-first : {w : List ℕ} {i j : ℕ} → Run w i j → (k : ℕ) → i ≤ k → k ≤ j → Run w i k
run-first r k h l = record { from = h; to = omega (arith, r.to); all = λ n a b. r.all n a (omega arith) }

pub run-here : (w : List ℕ) (i : ℕ) → i ≤ length w → Run w i (digits_end w i)
unfolding digits_end
run-here w i h = record { from = span-from is_digit w i; to = span-within is_digit w i h; all = λ k a b. span-all is_digit w i k a b }

-- digits stand up to j, where those from i on end where those from j on end
pub run-so-far : (w : List ℕ) (i j : ℕ) → i ≤ j → j ≤ length w → digits_end w i ≡ digits_end w j → Run w i j
unfolding digits_end
run-so-far w i j h l e = record { from = h; to = l; all = λ k a b. span-all is_digit w i k a (omega (arith, e, span-from is_digit w j)) }

pub digits_from : (w : List ℕ) (i : ℕ) → i ≤ digits_end w i
unfolding digits_end
digits_from w i = span-from is_digit w i

pub run_none : (w : List ℕ) (i : ℕ) → i ≤ length w → Run w i i
run_none w i h = record { from = omega arith; to = h; all = λ k a b. absurd (omega arith) }

-- behind digits no more digits stand
pub digits-end-twice : (w : List ℕ) (i : ℕ) → digits_end w (digits_end w i) ≡ digits_end w i
unfolding digits_end
digits-end-twice w i = span-twice is_digit w i

-- the numbers that they write

value-snoc : (a : ℕ) (ds : List ℕ) (d : ℕ) → value_from a (ds ++ d ∷ []) ≡ value_from a ds * 10 + (d - 48)
unfolding value_from
value-snoc a [] d = refl
value-snoc a (x ∷ ds) d = value-snoc (a * 10 + (x - 48)) ds d

pub value_none : (w : List ℕ) (i : ℕ) → value (piece w i i) ≡ 0
unfolding value value_from
value_none w i = rw (piece-none w i)

pub value-more : (w : List ℕ) (i j : ℕ) → i ≤ j → j < length w → value (piece w i (j + 1)) ≡ value (piece w i j) * 10 + (get_or w j 0 - 48)
unfolding value piece
value-more w i j h l =
    let e : j + 1 - i ≡ suc (j - i) = omega arith in
    let f : i + (j - i) ≡ j = omega arith in
    let n : j - i < length (drop i w) = omega (arith, length-drop i w) in
    rw (e, take-suc (drop i w) (j - i) 0 n, value-snoc, get_or-drop, f)

digit-more : (v n d : ℕ) → v < 10 ^ n → d ≤ 9 → v * 10 + d < 10 ^ suc n
digit-more v n d h l = rw pow-suc (omega arith)

value-below : (w : List ℕ) (i n : ℕ) → Run w i (i + n) → value (piece w i (i + n)) < 10 ^ n
value-below w i zero r = rw (add-zero i, value_none w i) (lit< tt)
value-below w i (suc n) r =
    let e : i + suc n ≡ i + n + 1 = omega arith in
    let d = run-digit r (i + n) (omega arith) (omega arith) in
    rw (e, value-more w i (i + n) (omega arith) (omega (arith, r.to)))
    (digit-more _ _ _ (value-below w i n (run-first r (i + n) (omega arith) (omega arith))) (omega arith))

-- n digits write a number below 10 to the power of n
pub run-below : {w : List ℕ} {i j : ℕ} → Run w i j → value (piece w i j) < 10 ^ (j - i)
run-below {w} {i} {j} r =
    let e : i + (j - i) ≡ j = omega (arith, r.from) in
    rw e at (value-below w i (j - i) (rw e r))

pub run_fits : {w : List ℕ} {i j : ℕ} (m : ℕ) → Run w i j → j - i ≤ m → value (piece w i j) < 10 ^ m
run_fits m r h = lt_of_lt_of_le (run-below r) (pow-le-pow_right (lit< tt) h)

-- the digits so far, of at most 18
pub so-far-fits : (w : List ℕ) (i j : ℕ) → i ≤ j → j ≤ length w → digits_end w i ≡ digits_end w j → digits_end w i - i ≤ 18 → value (piece w i j) < 10 ^ 18
so-far-fits w i j h l e m = run_fits 18 (run-so-far w i j h l e) (omega (arith, e, digits_from w j))
