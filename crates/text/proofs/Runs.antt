-- Laws of `span` and `span_end`, for any class. Assumes nothing.
use Prim.Native.Nat.{ℕ, zero, suc, ◌+◌, ◌-◌, ◌≤◌, ◌<◌}
use mathlib.Core.Path.{◌≡◌, refl, sym, ◌∙◌}
use mathlib.Core.Bool.{Bool, true, false, cond, not, ◌&&◌, ◌||◌}
use mathlib.Core.List.{List, [], ◌∷◌}
use native.Mathlib.Numerals.{add-one}
use native.Mathlib.Nat.{add-suc, add-zero, suc-add, zero-add}
use native.Mathlib.Decide.{dec_lt}
use native.Mathlib.Omega.{arith}
use borrow.Author.Tests.{lt-leb, le-leb, leb-true, leb-false}
use lib.Dec.{leb, leb-zero, leb-suc-zero, leb-suc-suc}
use lib.ListN.{length, drop, get_or, length-drop, drop_of_length-le, get_or-eq_default}
use lib.Seq.{drop-cons, drop-drop, get_or-drop}
use Rattle.text.specs.Runs.{span, span_end, runs}
use Rattle.text.proofs.Bools.{not-and}

module _ (p : ℕ → Bool) (s : List ℕ) (o : ℕ) where
  -- one byte more, the run's end, the text's end
  pub span-go : o < length s → p (get_or s o 0) ≡ true → span_end p s o ≡ span_end p s (o + 1)
  unfolding span span_end
  span-go h g = rw (drop-cons s o 0, g, add-one, add-suc, suc-add)

  pub span-stop : o < length s → p (get_or s o 0) ≡ false → span_end p s o ≡ o
  unfolding span span_end
  span-stop h g = rw (drop-cons s o 0, g, add-zero)

  pub span-over : length s ≤ o → span_end p s o ≡ o
  unfolding span span_end
  span-over h = rw (drop_of_length-le s h, add-zero)

  pub span-from : o ≤ span_end p s o
  unfolding span_end
  span-from = omega arith

-- a run's end is its start and its length
pub span-end : (p : ℕ → Bool) (s : List ℕ) (o : ℕ) → span_end p s o ≡ o + span p (drop o s)
unfolding span_end
span-end p s o = refl

-- the run by the first byte: none, one of the class, another
pub span_none : (p : ℕ → Bool) → span p [] ≡ 0
unfolding span
span_none p = refl

pub span-by : (p : ℕ → Bool) (b : ℕ) (s : List ℕ) → span p (b ∷ s) ≡ cond (p b) (suc (span p s)) 0
unfolding span
span-by p b s = refl

pub span-next : (p : ℕ → Bool) (b : ℕ) (s : List ℕ) → p b ≡ true → span p (b ∷ s) ≡ suc (span p s)
unfolding span
span-next p b s e = rw e

pub span-other : (p : ℕ → Bool) (b : ℕ) (s : List ℕ) → p b ≡ false → span p (b ∷ s) ≡ 0
unfolding span
span-other p b s e = rw e

pub span-le : (p : ℕ → Bool) (s : List ℕ) → span p s ≤ length s
unfolding span
span-le p [] = omega arith
span-le p (b ∷ s) = by (p b) (span-le p s)
  where
    by : (t : Bool) → span p s ≤ length s → cond t (suc (span p s)) 0 ≤ suc (length s)
    by true h = omega arith
    by false h = omega arith

pub span-within : (p : ℕ → Bool) (s : List ℕ) (o : ℕ) → o ≤ length s → span_end p s o ≤ length s
unfolding span_end
span-within p s o h = omega (arith, span-le p (drop o s), length-drop o s)

-- past the end a byte reads as 0
pub past_end : (s : List ℕ) (o : ℕ) → length s ≤ o → get_or s o 0 ≡ 0
past_end s o h = get_or-eq_default s 0 h

span-at : (p : ℕ → Bool) (s : List ℕ) (k : ℕ) → k < span p s → p (get_or s k 0) ≡ true
unfolding span
span-at p [] k h = absurd (omega arith)
span-at p (b ∷ s) k h = by k (p b) refl h (span-at p s)
  where
    by : (k : ℕ) (t : Bool) → p b ≡ t → k < cond t (suc (span p s)) 0 → ((j : ℕ) → j < span p s → p (get_or s j 0) ≡ true) → p (get_or (b ∷ s) k 0) ≡ true
    by zero true e h f = e
    by (suc k) true e h f = f k (omega arith)
    by k false e h f = absurd (omega arith)

-- each byte of the run is of the class
pub span-all : (p : ℕ → Bool) (s : List ℕ) (i k : ℕ) → i ≤ k → k < span_end p s i → p (get_or s k 0) ≡ true
unfolding span_end
span-all p s i k h l =
    let e : i + (k - i) ≡ k = omega arith in
    rw (← e, ← get_or-drop i s (k - i) 0) (span-at p (drop i s) (k - i) (omega arith))

span_rest : (p : ℕ → Bool) (s : List ℕ) → span p s < length s → p (get_or s (span p s) 0) ≡ false
unfolding span
span_rest p [] h = absurd (omega arith)
span_rest p (b ∷ s) h = by (p b) refl h (span_rest p s)
  where
    by : (t : Bool) → p b ≡ t → cond t (suc (span p s)) 0 < suc (length s) → (span p s < length s → p (get_or s (span p s) 0) ≡ false) → p (get_or (b ∷ s) (cond t (suc (span p s)) 0) 0) ≡ false
    by true e h f = f (omega arith)
    by false e h f = e

-- and the byte behind it is not
pub span-ends : (p : ℕ → Bool) (s : List ℕ) (o : ℕ) → span_end p s o < length s → p (get_or s (span_end p s o) 0) ≡ false
unfolding span_end
span-ends p s o h = rw (← get_or-drop o s (span p (drop o s)) 0) (span_rest p (drop o s) (omega (arith, length-drop o s)))

-- so behind a run there is no more of it
pub span-twice : (p : ℕ → Bool) (s : List ℕ) (o : ℕ) → span_end p s (span_end p s o) ≡ span_end p s o
span-twice p s o = by (dec_lt (span_end p s o) (length s))
  where
    by : Dec (span_end p s o < length s) → span_end p s (span_end p s o) ≡ span_end p s o
    by (yes l) = span-stop p s (span_end p s o) l (span-ends p s o l)
    by (no l) = span-over p s (span_end p s o) (omega arith)

-- blocks: one byte more, and over n bytes of the class at once

span_more : (p : ℕ → Bool) (s : List ℕ) (n : ℕ) → n < length s → leb (suc n) (span p s) ≡ (leb n (span p s) && p (get_or s n 0))
unfolding span
span_more p [] n h = absurd (omega arith)
span_more p (b ∷ s) n h = by n (p b) refl h (span_more p s)
  where
    by : (n : ℕ) (t : Bool) → p b ≡ t → n < suc (length s) → ((j : ℕ) → j < length s → leb (suc j) (span p s) ≡ (leb j (span p s) && p (get_or s j 0))) → leb (suc n) (cond t (suc (span p s)) 0) ≡ (leb n (cond t (suc (span p s)) 0) && p (get_or (b ∷ s) n 0))
    by zero true e h f = rw (e, leb-suc-suc, leb-zero, leb-zero)
    by zero false e h f = rw (e, leb-suc-zero)
    by (suc n) true e h f = rw (leb-suc-suc, leb-suc-suc) (f n (omega arith))
    by (suc n) false e h f = rw (leb-suc-zero, leb-suc-zero)

module _ (p : ℕ → Bool) (s : List ℕ) (o : ℕ) where
  pub runs_none : runs p 0 s o ≡ true
  unfolding runs
  runs_none = leb-zero (span p (drop o s))

  pub runs-more : (n : ℕ) → o + n < length s → runs p (n + 1) s o ≡ (runs p n s o && p (get_or s (o + n) 0))
  unfolding runs
  runs-more n h = rw (add-one, ← get_or-drop o s n 0) (span_more p (drop o s) n (omega (arith, length-drop o s)))

  pub runs-short : (n : ℕ) → length s < o + n → 0 < n → runs p n s o ≡ false
  unfolding runs
  runs-short n h i = lt-leb n (span p (drop o s)) (omega (arith, span-le p (drop o s), length-drop o s))

  -- as a scan keeps it: has a byte of another class been met
  pub runs-met : (n : ℕ) (t : Bool) → o + n < length s → t ≡ not (p (get_or s (o + n) 0)) → (not (runs p n s o) || t) ≡ not (runs p (n + 1) s o)
  runs-met n t h e = rw (runs-more n h, e, not-and)

  pub runs-fits : (n : ℕ) → runs p n s o ≡ true → 0 < n → o + n ≤ length s
  unfolding runs
  runs-fits n e i = omega (arith, leb-true n (span p (drop o s)) e, span-le p (drop o s), length-drop o s)

span-drop : (p : ℕ → Bool) (n : ℕ) (s : List ℕ) → n ≤ span p s → span p s ≡ n + span p (drop n s)
unfolding span
span-drop p zero s h = sym (zero-add _)
span-drop p (suc n) [] h = absurd (omega arith)
span-drop p (suc n) (b ∷ s) h = by (p b) h (span-drop p n s)
  where
    by : (t : Bool) → suc n ≤ cond t (suc (span p s)) 0 → (n ≤ span p s → span p s ≡ n + span p (drop n s)) → cond t (suc (span p s)) 0 ≡ suc n + span p (drop n s)
    by true h f = omega (arith, f (omega arith))
    by false h f = absurd (omega arith)

-- n bytes of the class may be skipped
pub span-block : (p : ℕ → Bool) (s : List ℕ) (o n : ℕ) → runs p n s o ≡ true → span_end p s o ≡ span_end p s (o + n)
unfolding runs span_end
span-block p s o n e = rw (← drop-drop n o s) (omega (arith, span-drop p n (drop o s) (leb-true n (span p (drop o s)) e)))

-- of two blocks side by side
leb-add : (n m x : ℕ) → leb (n + m) (n + x) ≡ leb m x
leb-add n m x = by (leb m x) refl
  where
    by : (t : Bool) → leb m x ≡ t → leb (n + m) (n + x) ≡ t
    by true e = let h : m ≤ x = leb-true m x e in le-leb (n + m) (n + x) (omega arith)
    by false e = let h : x < m = leb-false m x e in lt-leb (n + m) (n + x) (omega arith)

module _ (p : ℕ → Bool) (s : List ℕ) (o : ℕ) where
  pub runs-join : (n m : ℕ) → runs p n s o ≡ true → runs p (n + m) s o ≡ runs p m s (o + n)
  unfolding runs
  runs-join n m e = rw (span-drop p n (drop o s) (leb-true n (span p (drop o s)) e), drop-drop n o s) (leb-add n m (span p (drop (o + n) s)))

  -- a block that is broken off is no part of a longer one
  pub runs-less : (n m : ℕ) → n ≤ m → runs p n s o ≡ false → runs p m s o ≡ false
  unfolding runs
  runs-less n m h e = lt-leb m (span p (drop o s)) (omega (arith, leb-false n (span p (drop o s)) e))

  pub runs-stop : o < length s → p (get_or s o 0) ≡ false → runs p 1 s o ≡ false
  unfolding runs span
  runs-stop h g = rw (drop-cons s o 0, g)

-- a run ends where its bytes pass and the next one does not
pub span_to : (p : ℕ → Bool) (s : List ℕ) (n o : ℕ) → o + n ≤ length s → ((k : ℕ) → o ≤ k → k < o + n → p (get_or s k 0) ≡ true)
    → span_end p s (o + n) ≡ o + n → span_end p s o ≡ o + n
span_to p s zero o h f e =
    let z : o + 0 ≡ o = omega arith in
    rw z (rw z at e)
span_to p s (suc n) o h f e =
    let z : o + 1 + n ≡ o + suc n = omega arith in
    span-go p s o (omega arith) (f o (omega arith) (omega arith))
    ∙ rw z at (span_to p s n (o + 1) (omega arith) (λ k l u. f k (omega arith) (omega arith)) (rw z e))
