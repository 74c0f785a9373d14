-- Laws of keywords. Assumes nothing.
use Prim.Native.Nat.{ℕ, suc, ◌+◌, ◌≤◌, ◌<◌}
use Prim.Native.Char.{code}
use mathlib.Core.Path.{◌≡◌, refl, sym, ap, ap₂, ◌∙◌}
use mathlib.Core.Bool.{Bool, true, false, cond, not, ◌&&◌, ◌||◌, or-false, true≢false}
use mathlib.Core.List.{List, [], ◌∷◌}
use native.Mathlib.Numerals.{add-one}
use native.Mathlib.Omega.{arith}
use borrow.Author.Tests.{eq-eqb, ne_eqb, eqb-true, leb-true}
use lib.Dec.{leb, eqb}
use lib.ListN.{length, drop, get_or, drop_of_length-le}
use lib.Seq.{drop-cons}
use Rattle.rules.specs.declared.Reading.{Reading}
use Rattle.rules.specs.declared.Reading.TheVariants.{First, Strict}
use Rattle.text.specs.Bytes.{bytes, is, ends_word}
use Rattle.text.proofs.Bools.{and_l, and_r, never_true}
use Rattle.text.proofs.Ranges.{all_below, passes, fails}
use Rattle.words.specs.Words.{in_word, word}
use Rattle.words.proofs.Words.{word_next}
use Rattle.folding.specs.Folding.{lower}
use Rattle.keywords.specs.Keywords.{starts, starts_at, key_data, key_global, key_loop, key_save, key_stop, is_word, stands, reserved}

-- letter by letter: what is left to compare from letter i on
unfoldable pub rest : List ℕ → List ℕ → ℕ → Bool
rest k s i = starts (drop i k) (drop i s)

pub rest_all : (k s : List ℕ) (o : ℕ) → starts_at k s o ≡ rest k (drop o s) 0
unfolding rest starts_at
rest_all k s o = refl

module _ (k s : List ℕ) (i : ℕ) where
  pub rest-go : i < length k → i < length s → lower (get_or s i 0) ≡ get_or k i 0 → rest k s i ≡ rest k s (i + 1)
  unfolding rest starts is
  rest-go hk hs e = rw (drop-cons k i 0, drop-cons s i 0, eq-eqb _ _ e, add-one i)

  pub rest-no : i < length k → i < length s → (lower (get_or s i 0) ≡ get_or k i 0 → ⊥) → rest k s i ≡ false
  unfolding rest starts is
  rest-no hk hs e = rw (drop-cons k i 0, drop-cons s i 0, ne_eqb _ _ e)

  pub rest-done : length k ≤ i → rest k s i ≡ true
  unfolding rest starts
  rest-done h = rw (drop_of_length-le k h)

-- a keyword fits where it stands
pub starts-fits : (k s : List ℕ) → starts k s ≡ true → length k ≤ length s
unfolding starts
starts-fits [] s e = omega arith
starts-fits (c ∷ k) [] e = absurd (true≢false (sym e))
starts-fits (c ∷ k) (b ∷ s) e =
    let h : length k ≤ length s = starts-fits k s (and_r (is c (lower b)) (starts k s) e) in
    omega arith

pub starts-short : (k s : List ℕ) → length s < length k → starts k s ≡ false
starts-short k s h = never_true _ (λ e. let f : length k ≤ length s = starts-fits k s e in omega arith)

-- letter case does not tell the bytes of a word from others
lower-in-word : (b : ℕ) → in_word (lower b) ≡ in_word b
unfolding lower in_word ends_word
lower-in-word b = by (leb 65 b && leb b 90) refl
  where
    by : (t : Bool) → (leb 65 b && leb b 90) ≡ t → in_word (cond t (b + 32) b) ≡ in_word b
    by false e = refl
    by true e =
        let low : 65 ≤ b = leb-true 65 b (and_l (leb 65 b) (leb b 90) e) in
        let high : b ≤ 90 = leb-true b 90 (and_r (leb 65 b) (leb b 90) e) in
        passes in_word 65 58 refl (b + 32) (omega arith) (omega arith) ∙ sym (passes in_word 65 58 refl b low (omega arith))

-- k is made of bytes of words
unfoldable pub all_word : List ℕ → Bool
all_word [] = true
all_word (c ∷ k) = in_word c && all_word k

-- a keyword lies within the word that it starts, so that none of its bytes ends a line
pub starts-word : (k s : List ℕ) → all_word k ≡ true → starts k s ≡ true → length k ≤ word s
unfolding starts all_word is
starts-word [] s a e = omega arith
starts-word (c ∷ k) [] a e = absurd (true≢false (sym e))
starts-word (c ∷ k) (b ∷ s) a e =
    let f : lower b ≡ c = eqb-true (lower b) c (and_l (is c (lower b)) (starts k s) e) in
    let w : in_word b ≡ true = sym (lower-in-word b) ∙ ap in_word f ∙ and_l (in_word c) (all_word k) a in
    let h : length k ≤ word s = starts-word k s (and_r (in_word c) (all_word k) a) (and_r (is c (lower b)) (starts k s) e) in
    omega (arith, word_next b s w)

pub data-word : (s : List ℕ) (o : ℕ) → starts_at key_data s o ≡ true → 5 ≤ word (drop o s)
unfolding starts_at all_word in_word ends_word key_data
data-word s o e = starts-word key_data (drop o s) refl e

pub loop-word : (s : List ℕ) (o : ℕ) → starts_at key_loop s o ≡ true → 5 ≤ word (drop o s)
unfolding starts_at all_word in_word ends_word key_loop
loop-word s o e = starts-word key_loop (drop o s) refl e

pub save-word : (s : List ℕ) (o : ℕ) → starts_at key_save s o ≡ true → 5 ≤ word (drop o s)
unfolding starts_at all_word in_word ends_word key_save
save-word s o e = starts-word key_save (drop o s) refl e

-- the first byte tells which reserved word can stand here

first : (c : ℕ) (k s : List ℕ) (o x : ℕ) → o < length s → lower (get_or s o 0) ≡ x → starts (c ∷ k) (drop o s) ≡ (eqb x c && starts (c ∷ k) (drop o s))
unfolding starts is
first c k s o x h e = rw (drop-cons s o 0, e) (twice (eqb x c) (starts k (drop (suc o) s)))
  where
    twice : (a b : Bool) → (a && b) ≡ (a && (a && b))
    twice true b = refl
    twice false b = refl

-- the same of one that the strict reading knows as a whole word
first_by : (r : Reading) (c : ℕ) (k s : List ℕ) (o x : ℕ) → o < length s → lower (get_or s o 0) ≡ x → stands r (c ∷ k) (drop o s) ≡ (eqb x c && stands r (c ∷ k) (drop o s))
unfolding is_word
first_by First c k s o x h e = first c k s o x h e
first_by Strict c k s o x h e = by (eqb x c) (starts (c ∷ k) (drop o s)) (eqb (word (drop o s)) (length (c ∷ k))) (first c k s o x h e)
  where
    by : (a b d : Bool) → b ≡ (a && b) → (b && d) ≡ (a && (b && d))
    by true b d q = refl
    by false b d q = rw q

module _ (r : Reading) where
  -- each of the five, behind the test of its first letter
  reserved-first : (s : List ℕ) (o x : ℕ) → o < length s → lower (get_or s o 0) ≡ x → reserved r (drop o s) ≡ ((eqb x 100 && starts_at key_data s o) || (eqb x 103 && stands r key_global (drop o s)) || (eqb x 108 && stands r key_loop (drop o s)) || (eqb x 115 && starts_at key_save s o) || (eqb x 115 && stands r key_stop (drop o s)))
  unfolding reserved starts_at key_data key_global key_loop key_save key_stop
  reserved-first s o x h e =
      ap₂ ◌||◌
      (ap₂ ◌||◌ (ap₂ ◌||◌ (ap₂ ◌||◌ (first 100 _ s o x h e) (first_by r 103 _ s o x h e)) (first_by r 108 _ s o x h e)) (first 115 _ s o x h e))
      (first_by r 115 _ s o x h e)

  module _ (s : List ℕ) (o : ℕ) (h : o < length s) where
    pub reserved-d : lower (get_or s o 0) ≡ 100 → reserved r (drop o s) ≡ starts_at key_data s o
    reserved-d e = reserved-first s o 100 h e ∙ simp or-false

    pub reserved-g : lower (get_or s o 0) ≡ 103 → reserved r (drop o s) ≡ stands r key_global (drop o s)
    reserved-g e = reserved-first s o 103 h e ∙ simp or-false

    pub reserved-l : lower (get_or s o 0) ≡ 108 → reserved r (drop o s) ≡ stands r key_loop (drop o s)
    reserved-l e = reserved-first s o 108 h e ∙ simp or-false

    pub reserved-s : lower (get_or s o 0) ≡ 115 → reserved r (drop o s) ≡ (starts_at key_save s o || stands r key_stop (drop o s))
    reserved-s e = reserved-first s o 115 h e

    pub reserved-none : (x : ℕ) → lower (get_or s o 0) ≡ x → (x ≡ 100 → ⊥) → (x ≡ 103 → ⊥) → (x ≡ 108 → ⊥) → (x ≡ 115 → ⊥) → reserved r (drop o s) ≡ false
    reserved-none x e d g l t = reserved-first s o x h e ∙ rw (ne_eqb x 100 d, ne_eqb x 103 g, ne_eqb x 108 l, ne_eqb x 115 t)

-- none at the end, nor where the byte is below `D`
no_bytes : (r : Reading) (c : ℕ) (k : List ℕ) → stands r (c ∷ k) [] ≡ false
unfolding is_word starts
no_bytes First c k = refl
no_bytes Strict c k = refl

pub reserved-over : (r : Reading) (s : List ℕ) (o : ℕ) → length s ≤ o → reserved r (drop o s) ≡ false
unfolding reserved starts key_data key_global key_loop key_save key_stop
reserved-over r s o h = rw (drop_of_length-le s h, no_bytes r (code "g") (bytes "lobal_"), no_bytes r (code "l") (bytes "oop_"), no_bytes r (code "s") (bytes "top_"))

pub reserved-low : (r : Reading) (s : List ℕ) (o : ℕ) → o < length s → get_or s o 0 < 68 → reserved r (drop o s) ≡ false
unfolding lower
reserved-low r s o h l =
    let b = get_or s o 0 in
    let no : (c : ℕ) → all_below (λ k. not (eqb (lower (0 + k)) c)) 68 ≡ true → eqb (lower b) c ≡ false = λ c t. fails (λ x. eqb (lower x) c) 0 68 t b (omega arith) (omega arith) in
    reserved-first r s o (lower b) h refl ∙ rw (no 100 refl, no 103 refl, no 108 refl, no 115 refl)

-- the five reserved words, one by one
pub reserved-words : (r : Reading) (s : List ℕ) → reserved r s ≡ (starts key_data s || stands r key_global s || stands r key_loop s || starts key_save s || stands r key_stop s)
unfolding reserved
reserved-words r s = refl
