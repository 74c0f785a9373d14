-- Laws of writing digits, the last one first. Assumes nothing.
use Prim.Native.Nat.{ℕ, zero, suc, ◌+◌, ◌-◌, ◌*◌, ◌/◌, ◌^◌, ◌≤◌, ◌<◌}
use mathlib.Core.Path.{◌≡◌, refl, sym, ◌∙◌}
use mathlib.Core.List.{List, [], ◌∷◌, ◌++◌, append-nil}
use native.Mathlib.Omega.{arith}
use native.Mathlib.Nat.{add-zero, zero-add}
use lib.ListN.{length, drop, set, drop_of_length-le}
use Rattle.numbers.specs.Spelling.{padded, trim, plain}
use Rattle.numbers.proofs.Spelled.{length-padded}
use Rattle.numbers.proofs.Counting.{plain-digits, count-more, count-last}
use Rattle.records.specs.Put.{put}
use Rattle.numerals.proofs.Wrote.{put-none, set_before}

-- at the start none of the digits is written
pub digits-none : (k n : ℕ) → (padded k n ≡ padded k n ++ drop k (padded k n)) × ((at : ℕ) (l : List ℕ) → l ≡ put (at + k) (drop k (padded k n)) l)
digits-none k n =
    let none : drop k (padded k n) ≡ [] = drop_of_length-le (padded k n) {i = k} (omega (arith, length-padded k n)) in
    (rw none (sym (append-nil (padded k n))), λ at l. rw none (sym (put-none (at + k) l)))

-- the digit before those that are written
pub digits-put : (at left : ℕ) (ds es l : List ℕ) (v : ℕ) → 0 < left → at + left ≤ length l → es ≡ v ∷ ds → set (put (at + left) ds l) (at + (left - 1)) v ≡ put (at + (left - 1)) es l
digits-put at left ds es l v h k e =
    let m : at + left ≡ suc (at + (left - 1)) = omega arith in
    rw (m, e) (set_before (at + (left - 1)) v ds l (omega arith))

-- at the end all are
pub digits-all : (at left : ℕ) (ds l m : List ℕ) → left ≡ 0 → m ≡ put (at + left) (drop left ds) l → m ≡ put at ds l
digits-all at left ds l m e w = w ∙ rw (e, add-zero)

ten-pos : (k : ℕ) → 0 < 10 ^ k
ten-pos zero = omega arith
ten-pos (suc k) = omega (arith, ten-pos k)

-- a number has a digit for each power of ten that it reaches
counted : (k j n : ℕ) → 10 ^ k ≤ n → n < 10 * 10 ^ k → n < 10 ^ suc (k + j) → length (trim (padded (suc (k + j)) n)) ≡ k + 1
counted zero j n a b c = rw (zero-add j) (count-last j n (omega arith))
counted (suc k) j n a b c =
    let m : suc k + j ≡ suc (k + j) = omega arith in
    let d : n < 10 ^ suc (suc (k + j)) = rw m at c in
    rw m (omega (arith, count-more (suc (k + j)) n (omega (arith, ten-pos k)) d, counted k j (n / 10) (omega arith) (omega arith) (omega arith)))

pub counted-plain : (k n : ℕ) → k < 10 → 10 ^ k ≤ n → n < 10 * 10 ^ k → n < 10 ^ 9 → k + 1 ≡ length (plain n)
counted-plain k n f a b c = rw (plain-digits n) (go (9 - k) refl)
  where
    go : (j : ℕ) → 9 - k ≡ j → k + 1 ≡ length (trim (padded 9 n))
    go zero e =
        let m : k ≡ 9 = omega arith in
        let d : 10 ^ 9 ≤ n = rw m at a in
        absurd (omega arith)
    go (suc j) e =
        let m : suc (k + j) ≡ 9 = omega arith in
        let s : length (trim (padded (suc (k + j)) n)) ≡ k + 1 = counted k j n a b (rw m c) in
        sym (rw m at s)

-- nothing has one
pub none-plain : (n : ℕ) → n ≡ 0 → 1 ≡ length (plain n)
none-plain n e = rw (plain-digits n) (sym (count-last 8 n (omega arith)))
