-- Tokens and line ends: a word, a keyword and a value are tokens as the write pass wants them (part-token, value-token). Assumes nothing.
use Prim.Native.Nat.{ℕ, suc, ◌+◌, ◌-◌, ◌≤◌, ◌<◌}
use mathlib.Core.Path.{◌≡◌, refl}
use mathlib.Core.Bool.{Bool, true, false}
use mathlib.Core.List.{List}
use native.Mathlib.Omega.{arith}
use borrow.Author.Tests.{eqb-true, eqb-false}
use lib.Dec.{eqb}
use lib.ListN.{length, drop, get_or, length-drop}
use Rattle.rules.specs.declared.Reading.{Reading}
use Rattle.text.specs.Bytes.{is_eol}
use Rattle.words.specs.Words.{word, end_of_word}
use Rattle.words.proofs.Words.{word_end, word-plain, word_fits}
use Rattle.values.proofs.Laws.{lies_within, lies-plain, lies-last, found-lies, found-marks}
use Rattle.kinds.specs.Kinds.{kind_of, marks_of}
use Rattle.found.specs.declared.Found.TheVariants.{Value}
use Rattle.values.specs.Finding.{found_at}
use Rattle.desk.specs.Desk.{IsToken}

-- the first bytes of a word
pub part-token : (s : List ℕ) (k o n : ℕ) → o ≤ length s → 0 < n → n ≤ word (drop o s) → marks_of (kind_of k) ≤ n → IsToken s k o n
part-token s k o n h p l m =
    let e : end_of_word s o ≡ o + word (drop o s) = word_end s o in
    record {
      some = p;
      within = omega (arith, word_fits (drop o s), length-drop o s);
      marks = m;
      line = λ q j a b. word-plain s o j a (omega arith);
      last = λ j q. word-plain s o j (omega arith) (omega arith);
    }

-- `;` ends no line
semicolon-plain : (b : ℕ) → b ≡ 59 → is_eol b ≡ false
unfolding is_eol
semicolon-plain b e = rw e

-- a value that is found
pub value-token : (r : Reading) (s : List ℕ) (o k n : ℕ) → found_at r s o ≡ Value k n → IsToken s k o n
value-token r s o k n f =
    let i = found-lies r s o k n f in
    record {
      some = i.pos;
      within = lies_within r s o k n i;
      marks = found-marks r s o k n f;
      line = λ q. lies-plain r s o k n i (eqb-false k 13 q);
      last = λ j e. ends j e (eqb k 13) refl;
    }
  where
    ends : (j : ℕ) → suc j ≡ o + n → (t : Bool) → eqb k 13 ≡ t → is_eol (get_or s j 0) ≡ false
    ends j e true q =
        let z : j ≡ o + n - 1 = omega arith in
        semicolon-plain (get_or s j 0) (rw z (lies-last r s o k n (found-lies r s o k n f) (eqb-true k 13 q)))
    ends j e false q =
        let i = found-lies r s o k n f in
        lies-plain r s o k n i (eqb-false k 13 q) j (omega (arith, i.pos)) (omega arith)
