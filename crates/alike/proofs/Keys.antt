-- Where none of the five keywords stands: at a byte below `D`, at a number, at a bare value that starts with none. Assumes nothing.
use Prim.Native.Nat.{ℕ, zero, suc, ◌≤◌, ◌<◌}
use mathlib.Core.Path.{◌≡◌, refl, sym, ◌∙◌}
use mathlib.Core.Bool.{Bool, true, false, ◌&&◌, true≢false, false≢true}
use mathlib.Core.List.{List, [], ◌∷◌}
use native.Mathlib.Omega.{arith}
use borrow.Author.Tests.{eqb-true, leb-true}
use lib.Dec.{eqb, leb}
use lib.ListN.{length, take}
use Rattle.rules.specs.declared.Reading.TheVariants.{First}
use Rattle.text.specs.Bytes.{is, is_digit, ends_word}
use Rattle.text.proofs.Bools.{and_l, and_r, or_cases, never_true}
use Rattle.words.specs.Words.{word, in_word}
use Rattle.folding.specs.Folding.{lower}
use Rattle.keywords.specs.Keywords.{starts, key_data, key_global, key_loop, key_save, key_stop}
use Rattle.keywords.proofs.Keywords.{all_word, starts-word, reserved-low}
use Rattle.keywords.proofs.Starts.{NoKeyword, not-reserved}
use Rattle.numbers.specs.Parts.{parts, is_number}
use Rattle.numbers.specs.Pieces.{starts_number}
use Rattle.numbers.proofs.Facts.{no-number-by-first-byte}
use Rattle.alike.specs.Plain.{starts_keyword}

-- no letter stands there
pub low-no-keyword : (b : ℕ) (s : List ℕ) → b < 68 → NoKeyword (b ∷ s)
low-no-keyword b s h = not-reserved (b ∷ s) (reserved-low First (b ∷ s) 0 (omega arith) h)

number-low : (b : ℕ) → starts_number b ≡ true → b < 68
unfolding starts_number is_digit is
number-low b e = or_cases _ _ digit (or_cases _ _ (at 43 (omega arith)) (or_cases _ _ (at 45 (omega arith)) (at 46 (omega arith)))) e
  where
    digit : (leb 48 b && leb b 57) ≡ true → b < 68
    digit q = let h : b ≤ 57 = leb-true b 57 (and_r (leb 48 b) (leb b 57) q) in omega arith

    at : (c : ℕ) → c < 68 → eqb b c ≡ true → b < 68
    at c h q = omega (arith, eqb-true b c q)

-- a number starts with no letter
pub number-no-keyword : (b : ℕ) (s : List ℕ) (n : ℕ) → 0 < n → is_number (parts (take n (b ∷ s))) ≡ true → NoKeyword (b ∷ s)
number-no-keyword b s zero h e = absurd (omega arith)
number-no-keyword b s (suc n) h e = low-no-keyword b s (number-low b (by (starts_number b) refl))
  where
    by : (t : Bool) → starts_number b ≡ t → t ≡ true
    by true q = refl
    by false q = absurd (true≢false (sym e ∙ no-number-by-first-byte (b ∷ take n s) q))

-- a keyword at the start of a text stands at the start of its word
starts-take : (k s : List ℕ) (n : ℕ) → length k ≤ n → starts k s ≡ true → starts k (take n s) ≡ true
unfolding starts
starts-take [] s n h e = refl
starts-take (c ∷ k) [] n h e = absurd (false≢true e)
starts-take (c ∷ k) (b ∷ s) zero h e = absurd (omega arith)
starts-take (c ∷ k) (b ∷ s) (suc n) h e =
    rw (and_l (is c (lower b)) (starts k s) e) (starts-take k s n (omega arith) (and_r (is c (lower b)) (starts k s) e))

not-in-word : (k s : List ℕ) → all_word k ≡ true → starts k (take (word s) s) ≡ false → starts k s ≡ false
not-in-word k s a h = never_true (starts k s) (λ e. true≢false (sym (starts-take k s (word s) (starts-word k s a e) e) ∙ h))

-- so a bare value that starts with none of three stands where none of the five does, given that the other two do not
pub word-no-keyword : (s : List ℕ) → starts key_data s ≡ false → starts key_save s ≡ false → starts_keyword (take (word s) s) ≡ false → NoKeyword s
unfolding starts_keyword key_loop key_global key_stop all_word in_word ends_word
word-no-keyword s d v e = by (starts key_loop w) (starts key_global w) (starts key_stop w) refl refl refl
  where
    w : List ℕ
    w = take (word s) s

    by : (l g t : Bool) → starts key_loop w ≡ l → starts key_global w ≡ g → starts key_stop w ≡ t → NoKeyword s
    by true g t p q r = absurd (true≢false (rw p at e))
    by false true t p q r = absurd (true≢false (rw (p, q) at e))
    by false false true p q r = absurd (true≢false (rw (p, q, r) at e))
    by false false false p q r =
        record {
          no-data = d;
          no-global = not-in-word key_global s refl q;
          no_loop = not-in-word key_loop s refl p;
          no-save = v;
          no_stop = not-in-word key_stop s refl r;
        }
