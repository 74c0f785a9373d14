-- Laws of words and ordinary bytes. Assumes nothing.
use Prim.Native.Nat.{ℕ, suc, ◌+◌, ◌-◌, ◌≤◌, ◌<◌}
use mathlib.Core.Path.{◌≡◌, refl, sym, ap, ◌∙◌}
use mathlib.Core.Bool.{Bool, true, false, not, ◌&&◌, true≢false, cond}
use mathlib.Core.List.{List, ◌∷◌, []}
use native.Mathlib.Omega.{arith}
use borrow.Author.Tests.{eqb-true, leb-true, ne_eqb}
use lib.Dec.{leb, eqb}
use lib.ListN.{length, drop, get_or}
use Rattle.text.specs.Bytes.{is_eol, ends_word}
use Rattle.text.specs.Runs.{span_end, Within}
use Rattle.text.proofs.Bools.{and_l, and_r, or_cases}
use Rattle.text.proofs.Ranges.{passes}
use Rattle.text.proofs.Runs.{span-end, span_none, span-by, span-next, span-other, span-from, span-within, span-all, span-over}
use Rattle.text.specs.Blocks.{clear}
use Rattle.words.specs.Words.{in_word, word, end_of_word, is_ordinary}
use Rattle.text.proofs.Blocks.{clear-least}

-- a word is the run of its bytes
pub word-run : (s : List ℕ) (o : ℕ) → end_of_word s o ≡ span_end in_word s o
unfolding end_of_word word
word-run s o = sym (span-end in_word s o)

-- a byte of at least 33 ends no word, so that a block of such bytes may be skipped
high-in-word : (b : ℕ) → 33 ≤ b → in_word b ≡ true
unfolding in_word ends_word
high-in-word b h =
    let no : (k : ℕ) → k < 33 → eqb b k ≡ false = λ k l. ne_eqb b k (λ e. omega arith) in
    rw (no 32 (omega arith), no 9 (omega arith), no 10 (omega arith), no 13 (omega arith), no 12 (omega arith))

pub clear-in-word : (mark : ℕ) → Within (clear 33 mark) in_word
unfolding Within
clear-in-word mark b e = high-in-word b (clear-least 33 mark b e)

-- and its end is its start and its length
pub word_end : (s : List ℕ) (o : ℕ) → end_of_word s o ≡ o + word (drop o s)
unfolding end_of_word
word_end s o = refl

pub word_size : (s : List ℕ) (o : ℕ) → end_of_word s o - o ≡ word (drop o s)
word_size s o = omega (arith, word_end s o)

-- a word lies within the text
pub word-from : (s : List ℕ) (o : ℕ) → o ≤ end_of_word s o
word-from s o = rw (word-run s o) (span-from in_word s o)

pub word-within : (s : List ℕ) (o : ℕ) → o ≤ length s → end_of_word s o ≤ length s
word-within s o h = rw (word-run s o) (span-within in_word s o h)

pub word-past : (s : List ℕ) (o : ℕ) → length s ≤ o → end_of_word s o ≡ o
word-past s o h = rw (word-run s o) (span-over in_word s o h)

pub word_fits : (s : List ℕ) → word s ≤ length s
word_fits s = omega (arith, word_end s 0, word-within s 0 (omega arith))

-- no byte of a word ends a line
pub in-word-plain : (b : ℕ) → in_word b ≡ true → is_eol b ≡ false
unfolding in_word ends_word is_eol
in-word-plain b e = by (is_eol b) refl
  where
    by : (t : Bool) → is_eol b ≡ t → is_eol b ≡ false
    by false q = q
    by true q =
        absurd (or_cases (eqb b 10) (eqb b 13) (λ t. true≢false (sym e ∙ ap in_word (eqb-true b 10 t))) (λ t. true≢false (sym e ∙ ap in_word (eqb-true b 13 t))) q)

pub word-plain : (s : List ℕ) (o k : ℕ) → o ≤ k → k < end_of_word s o → is_eol (get_or s k 0) ≡ false
word-plain s o k h l = in-word-plain (get_or s k 0) (span-all in_word s o k h (rw (word-run s o) at l))

-- the word by the first byte: none, one of a word, one that ends it
pub word_none : word [] ≡ 0
unfolding word
word_none = span_none in_word

pub word-by : (b : ℕ) (s : List ℕ) → word (b ∷ s) ≡ cond (in_word b) (suc (word s)) 0
unfolding word
word-by b s = span-by in_word b s

pub word_next : (b : ℕ) (s : List ℕ) → in_word b ≡ true → word (b ∷ s) ≡ suc (word s)
unfolding word
word_next b s e = span-next in_word b s e

pub word-other : (b : ℕ) (s : List ℕ) → in_word b ≡ false → word (b ∷ s) ≡ 0
unfolding word
word-other b s e = span-other in_word b s e

-- a word has a byte where one of its bytes stands, and an ordinary byte is one
pub word-pos : (b : ℕ) (s : List ℕ) → in_word b ≡ true → 0 < word (b ∷ s)
word-pos b s e = omega (arith, word_next b s e)

-- a byte that ends no word starts one
pub word-starts : (b : ℕ) (s : List ℕ) → ends_word b ≡ false → 0 < word (b ∷ s)
unfolding in_word
word-starts b s e = word-pos b s (rw e)

pub ordinary-in-word : (b : ℕ) → is_ordinary b ≡ true → in_word b ≡ true
unfolding is_ordinary in_word ends_word
ordinary-in-word b e =
    let r = and_l (leb 33 b && leb b 126) _ e in
    let low : 33 ≤ b = leb-true 33 b (and_l (leb 33 b) (leb b 126) r) in
    let high : b ≤ 126 = leb-true b 126 (and_r (leb 33 b) (leb b 126) r) in
    passes in_word 33 94 refl b low (omega arith)

-- a word is the run of bytes that don't end one
pub word-span : (s : List ℕ) (o : ℕ) → end_of_word s o ≡ span_end (λ b. not (ends_word b)) s o
unfolding in_word
word-span s o = word-run s o
