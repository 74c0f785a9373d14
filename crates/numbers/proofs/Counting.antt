-- Laws of digits: how many a number has without leading zeros, and how they follow one another from the right. Assumes nothing.
use Prim.Native.Nat.{ℕ, zero, suc, ◌+◌, ◌-◌, ◌/◌, ◌%◌, ◌^◌, ◌≤◌, ◌<◌}
use mathlib.Core.Path.{◌≡◌, refl, sym, ap, ◌∙◌}
use mathlib.Core.Bool.{Bool, true, false, cond, ◌&&◌}
use mathlib.Core.List.{List, [], ◌∷◌, ◌++◌, append_assoc}
use native.Mathlib.Omega.{arith}
use borrow.Author.Tests.{eqb-true}
use lib.ListN.{length, drop, length-append}
use lib.Seq.{drop_at, drop-append-le, drop-length}
use Rattle.text.specs.Bytes.{is}
use Rattle.text.proofs.Bools.{and_l, and_r}
use Rattle.cuts.specs.Digits.{value, value_from}
use Rattle.numbers.specs.Spelling.{padded, trim, plain}
use Rattle.numbers.proofs.Spelled.{value-padded, length-padded, length-trim}

-- a number's digits are the last nine, less the zeros before them
pub plain-digits : (n : ℕ) → plain n ≡ trim (padded 9 n)
unfolding plain
plain-digits n = refl

-- a list of zeros
all_zero : List ℕ → Bool
all_zero [] = true
all_zero (c ∷ ds) = is 48 c && all_zero ds

trim-snoc : (c : ℕ) (ds : List ℕ) (d : ℕ) → trim (c ∷ (ds ++ (d ∷ []))) ≡ cond (all_zero (c ∷ ds)) (d ∷ []) (trim (c ∷ ds) ++ (d ∷ []))
unfolding trim all_zero
trim-snoc c [] d = go (is 48 c)
  where
    go : (t : Bool) → cond t (d ∷ []) (c ∷ d ∷ []) ≡ cond (t && true) (d ∷ []) (c ∷ d ∷ [])
    go true = refl
    go false = refl
trim-snoc c (e ∷ ds) d = go (is 48 c) (trim-snoc e ds d)
  where
    go : (t : Bool) → trim (e ∷ (ds ++ (d ∷ []))) ≡ cond (all_zero (e ∷ ds)) (d ∷ []) (trim (e ∷ ds) ++ (d ∷ [])) →
        cond t (trim (e ∷ (ds ++ (d ∷ [])))) (c ∷ e ∷ (ds ++ (d ∷ []))) ≡ cond (t && all_zero (e ∷ ds)) (d ∷ []) (cond t (trim (e ∷ ds)) (c ∷ e ∷ ds) ++ (d ∷ []))
    go true h = h
    go false h = refl

zero-value : (ds : List ℕ) → all_zero ds ≡ true → value ds ≡ 0
unfolding value value_from is all_zero
zero-value [] h = refl
zero-value (c ∷ ds) h = rw (eqb-true c 48 (and_l (is 48 c) (all_zero ds) h)) (zero-value ds (and_r (is 48 c) (all_zero ds) h))

zero-append : (xs ys : List ℕ) → all_zero xs ≡ true → all_zero ys ≡ true → all_zero (xs ++ ys) ≡ true
unfolding all_zero
zero-append [] ys h k = k
zero-append (x ∷ xs) ys h k = rw (and_l (is 48 x) (all_zero xs) h) (zero-append xs ys (and_r (is 48 x) (all_zero xs) h) k)

zero-padded : (k : ℕ) → all_zero (padded k 0) ≡ true
unfolding padded is all_zero
zero-padded zero = refl
zero-padded (suc k) = zero-append (padded k 0) (48 ∷ []) (zero-padded k) refl

some-padded : (k n : ℕ) → 0 < n → n < 10 ^ k → all_zero (padded k n) ≡ false
some-padded k n h b = go (all_zero (padded k n)) refl
  where
    go : (t : Bool) → all_zero (padded k n) ≡ t → t ≡ false
    go true e = absurd (omega (arith, zero-value (padded k n) e, value-padded k n b))
    go false e = refl

trim-more : (ds : List ℕ) (d : ℕ) → 0 < length ds → all_zero ds ≡ false → trim (ds ++ (d ∷ [])) ≡ trim ds ++ (d ∷ [])
trim-more [] d h e = absurd (omega arith)
trim-more (c ∷ ds) d h e = trim-snoc c ds d ∙ rw e

trim-last : (ds : List ℕ) (d : ℕ) → all_zero ds ≡ true → trim (ds ++ (d ∷ [])) ≡ d ∷ []
unfolding trim
trim-last [] d e = refl
trim-last (c ∷ ds) d e = trim-snoc c ds d ∙ rw e

-- a number of several digits has one more than its tenth
pub count-more : (k n : ℕ) → 10 ≤ n → n < 10 ^ suc k → length (trim (padded (suc k) n)) ≡ 1 + length (trim (padded k (n / 10)))
unfolding padded
count-more zero n h b = absurd (omega arith)
count-more (suc k) n h b =
    let tens = padded (suc k) (n / 10) in
    let some : 0 < length tens = omega (arith, length-padded (suc k) (n / 10)) in
    ap length (trim-more tens (48 + n % 10) some (some-padded (suc k) (n / 10) (omega arith) (omega arith)))
    ∙ omega (arith, length-append (trim tens) ((48 + n % 10) ∷ []))

-- one digit
pub count-last : (k n : ℕ) → n < 10 → length (trim (padded (suc k) n)) ≡ 1
unfolding padded
count-last k n h =
    let none : n / 10 ≡ 0 = omega arith in
    ap length (trim-last (padded k (n / 10)) (48 + n % 10) (rw none (zero-padded k)))

-- what is trimmed away stands before what is left
trim-drop : (ds : List ℕ) → trim ds ≡ drop (length ds - length (trim ds)) ds
unfolding trim
trim-drop [] = refl
trim-drop (c ∷ []) = refl
trim-drop (c ∷ e ∷ ds) = go (is 48 c) (trim-drop (e ∷ ds)) (length-trim (e ∷ ds))
  where
    go : (t : Bool) → trim (e ∷ ds) ≡ drop (length (e ∷ ds) - length (trim (e ∷ ds))) (e ∷ ds) → length (trim (e ∷ ds)) ≤ length (e ∷ ds) →
        cond t (trim (e ∷ ds)) (c ∷ e ∷ ds) ≡ drop (suc (length (e ∷ ds)) - length (cond t (trim (e ∷ ds)) (c ∷ e ∷ ds))) (c ∷ e ∷ ds)
    go true h b =
        let n : suc (length (e ∷ ds)) - length (trim (e ∷ ds)) ≡ suc (length (e ∷ ds) - length (trim (e ∷ ds))) = omega arith in
        h ∙ rw n
    go false h b =
        let n : suc (length (e ∷ ds)) - length (c ∷ e ∷ ds) ≡ 0 = omega arith in
        rw n

-- the last digits of several are those of the number
last_digits : (i k n : ℕ) → drop i (padded (i + k) n) ≡ padded k n
unfolding padded
last_digits i zero n =
    let m : i + 0 ≡ i = omega arith in
    ap (λ (j : ℕ). drop i (padded j n)) m ∙ drop-whole (padded i n) i (length-padded i n)
  where
    drop-whole : (l : List ℕ) (j : ℕ) → length l ≡ j → drop j l ≡ []
    drop-whole l j e = rw (← e) (drop-length l)
last_digits i (suc k) n =
    let m : i + suc k ≡ suc (i + k) = omega arith in
    let within : i ≤ length (padded (i + k) (n / 10)) = omega (arith, length-padded (i + k) (n / 10)) in
    ap (λ (j : ℕ). drop i (padded j n)) m
    ∙ (drop-append-le i (padded (i + k) (n / 10)) ((48 + n % 10) ∷ []) within ∙ rw (last_digits i k (n / 10)))

trim-padded : (k n : ℕ) → trim (padded k n) ≡ padded (length (trim (padded k n))) n
trim-padded k n =
    let size = length (trim (padded k n)) in
    let b : size ≤ k = omega (arith, length-trim (padded k n), length-padded k n) in
    let e : padded k n ≡ padded (k - size + size) n = ap (λ (j : ℕ). padded j n) (omega arith) in
    trim-drop (padded k n)
    ∙ (ap (λ (j : ℕ). drop (j - size) (padded k n)) (length-padded k n)
    ∙ (ap (drop (k - size)) e ∙ last_digits (k - size) size n))

-- a number without leading zeros is that many of its last digits
pub plain-padded : (n : ℕ) → plain n ≡ padded (length (plain n)) n
unfolding plain
plain-padded n = trim-padded 9 n

-- from the right, one digit more
pub digits_more : (whole : List ℕ) (left rest : ℕ) → 0 < left → whole ≡ padded left rest ++ drop left whole →
    (whole ≡ padded (left - 1) (rest / 10) ++ drop (left - 1) whole) × (drop (left - 1) whole ≡ (48 + rest % 10) ∷ drop left whole)
unfolding padded
digits_more whole zero rest h e = absurd (omega arith)
digits_more whole (suc left) rest h e =
    let joined : whole ≡ padded left (rest / 10) ++ ((48 + rest % 10) ∷ drop (suc left) whole) = e ∙ append_assoc (padded left (rest / 10)) ((48 + rest % 10) ∷ []) (drop (suc left) whole) in
    let behind : drop left whole ≡ (48 + rest % 10) ∷ drop (suc left) whole =
    ap (drop left) joined ∙ drop_at (padded left (rest / 10)) ((48 + rest % 10) ∷ drop (suc left) whole) left (length-padded left (rest / 10)) in
    let m : suc left - 1 ≡ left = omega arith in
    rw m (joined ∙ ap (λ (z : List ℕ). padded left (rest / 10) ++ z) (sym behind), behind)
