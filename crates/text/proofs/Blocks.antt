-- Laws of bytes that are passed over many at once. Assumes nothing.
use Prim.Native.Nat.{ℕ, zero, suc, ◌+◌, ◌≤◌, ◌<◌}
use mathlib.Core.Path.{◌≡◌, refl, sym, ap, ◌∙◌}
use mathlib.Core.Bool.{Bool, true, false, not, ◌&&◌, ◌||◌}
use mathlib.Core.List.{List}
use native.Mathlib.Nat.{add-zero}
use native.Mathlib.Numerals.{add-one}
use native.Mathlib.Omega.{arith}
use borrow.Author.Tests.{ltb-true, ltb-false, leb-true, lt-leb, le-leb, not-true}
use lib.Dec.{leb, ltb, eqb, leb-zero}
use lib.ListN.{length, drop, get_or}
use Rattle.text.specs.Bytes.{is}
use Rattle.text.specs.Runs.{span, span_end, runs, Within}
use Rattle.text.proofs.Bools.{and_l, and_r, not-not}
use Rattle.text.proofs.Runs.{span-go, runs-more, runs-met, runs-fits}
use Rattle.text.specs.Blocks.{clear}

-- as a scan keeps it: has a byte been met that is the mark or below the least

clear-byte : (least mark b : ℕ) → (ltb b least || eqb b mark) ≡ not (clear least mark b)
unfolding clear is
clear-byte least mark b = by (ltb b least) refl
  where
    by : (t : Bool) → ltb b least ≡ t → (t || eqb b mark) ≡ not (leb least b && not (eqb b mark))
    by true e = rw (lt-leb least b (ltb-true b least e))
    by false e = rw (le-leb least b (ltb-false b least e), not-not)

or_assoc : (a b c : Bool) → ((a || b) || c) ≡ (a || (b || c))
or_assoc true b c = refl
or_assoc false b c = refl

pub clear-met : (least mark : ℕ) (s : List ℕ) (o n : ℕ) → o + n < length s → ((not (runs (clear least mark) n s o) || ltb (get_or s (o + n) 0) least) || eqb (get_or s (o + n) 0) mark) ≡ not (runs (clear least mark) (n + 1) s o)
clear-met least mark s o n h =
    let b = get_or s (o + n) 0 in
    or_assoc (not (runs (clear least mark) n s o)) (ltb b least) (eqb b mark) ∙ runs-met (clear least mark) s o n _ h (clear-byte least mark b)

-- what is clear is not below the least, and not the mark
pub clear-least : (least mark b : ℕ) → clear least mark b ≡ true → least ≤ b
unfolding clear
clear-least least mark b e = leb-true least b (and_l (leb least b) (not (is mark b)) e)

pub clear-other : (least mark b : ℕ) → clear least mark b ≡ true → is mark b ≡ false
unfolding clear
clear-other least mark b e = not-true (is mark b) (and_r (leb least b) (not (is mark b)) e)

-- where the least is 0, only the mark is not clear
pub clear-mark : (mark b : ℕ) → clear 0 mark b ≡ not (is mark b)
unfolding clear
clear-mark mark b = rw (leb-zero b)

-- what no byte of the class changes from o on, a block of them does not change, nor does their run
pub block-keeps : {A : Type 0} (f : ℕ → A) (p : ℕ → Bool) (s : List ℕ) (o : ℕ) → ((k : ℕ) → o ≤ k → k < length s → p (get_or s k 0) ≡ true → f k ≡ f (k + 1)) → (n : ℕ) → runs p n s o ≡ true → f o ≡ f (o + n)
block-keeps f p s o g zero e = rw (add-zero)
block-keeps f p s o g (suc n) e =
    let h : o + suc n ≤ length s = runs-fits p s o (suc n) e (omega arith) in
    let both : (runs p n s o && p (get_or s (o + n) 0)) ≡ true = sym (runs-more p s o n (omega arith)) ∙ rw (add-one n) e in
    let next : o + n + 1 ≡ o + suc n = omega arith in
    block-keeps f p s o g n (and_l (runs p n s o) (p (get_or s (o + n) 0)) both) ∙ g (o + n) (omega arith) (omega arith) (and_r (runs p n s o) (p (get_or s (o + n) 0)) both) ∙ ap f next

-- what passes a narrower test leaves a run's end as it is
pub block-within : (q p : ℕ → Bool) → Within q p → (s : List ℕ) (o n : ℕ) → runs q n s o ≡ true → span_end p s o ≡ span_end p s (o + n)
unfolding Within
block-within q p w s o n e = block-keeps (span_end p s) q s o (λ k l h t. span-go p s k h (w (get_or s k 0) t)) n e

pub span-keeps : {A : Type 0} (f : ℕ → A) (p : ℕ → Bool) (s : List ℕ) (o : ℕ) → ((k : ℕ) → o ≤ k → k < length s → p (get_or s k 0) ≡ true → f k ≡ f (k + 1)) → f o ≡ f (span_end p s o)
unfolding runs span_end
span-keeps f p s o g = block-keeps f p s o g (span p (drop o s)) (le-leb (span p (drop o s)) (span p (drop o s)) (omega arith))
