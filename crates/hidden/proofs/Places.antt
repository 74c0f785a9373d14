-- Proved: a place depends on the line ends alone. A change of bytes that keeps each LF, each CR and all else from being one leaves every place where it is (place_at-w).
-- Assumes nothing.
use Prim.Native.Nat.{ℕ, zero, suc, ◌+◌}
use mathlib.Core.Bool.{Bool, true, false, cond, ◌||◌}
use mathlib.Core.Path.{◌≡◌, refl, sym, ap, ◌∙◌}
use mathlib.Core.List.{List, [], ◌∷◌, map}
use borrow.Author.Tests.{eqb-true}
use lib.Dec.{eqb}
use lib.ListN.{take}
use Rattle.text.specs.Bytes.{is, is_eol}
use Rattle.places.specs.declared.Scan.{Scan}
use Rattle.places.specs.Places.{start, step, scan, scan_at, place_at}

pub take-map : (f : ℕ → ℕ) (n : ℕ) (s : List ℕ) → take n (map f s) ≡ map f (take n s)
take-map f zero s = refl
take-map f (suc n) [] = refl
take-map f (suc n) (b ∷ s) = ap {B = List ℕ} (λ r. f b ∷ r) (take-map f n s)

-- over any byte that ends no line
over_plain : (c : Scan) (b : ℕ) → eqb b 10 ≡ false → eqb b 13 ≡ false → step c b ≡ record { line = c.line; column = c.column + 1; half = 0 }
unfolding step is_eol
over_plain c b p q = rw (p, q)

module _ (w : ℕ → ℕ) (lf-w : (b : ℕ) → is 10 (w b) ≡ is 10 b) (cr-w : (b : ℕ) → is 13 (w b) ≡ is 13 b) where
  -- a byte that is told by a test that w keeps is kept itself
  kept : (m b : ℕ) → eqb (w b) m ≡ eqb b m → eqb b m ≡ true → w b ≡ b
  kept m b k e = eqb-true (w b) m (k ∙ e) ∙ sym (eqb-true b m e)

  step-w : (c : Scan) (b : ℕ) → step c (w b) ≡ step c b
  unfolding is
  step-w c b = by (eqb b 10) refl (eqb b 13) refl
    where
      by : (x : Bool) → eqb b 10 ≡ x → (y : Bool) → eqb b 13 ≡ y → step c (w b) ≡ step c b
      by true p y q = ap (step c) (kept 10 b (lf-w b) p)
      by false p true q = ap (step c) (kept 13 b (cr-w b) q)
      by false p false q = over_plain c (w b) (lf-w b ∙ p) (cr-w b ∙ q) ∙ sym (over_plain c b p q)

  scan-w : (c : Scan) (s : List ℕ) → scan c (map w s) ≡ scan c s
  unfolding scan
  scan-w c [] = refl
  scan-w c (b ∷ s) = scan-w (step c (w b)) s ∙ ap (λ d. scan d s) (step-w c b)

  scan_at-w : (s : List ℕ) (n : ℕ) → scan_at (map w s) n ≡ scan_at s n
  unfolding scan_at
  scan_at-w s n = ap (scan start) (take-map w n s) ∙ scan-w start (take n s)

  pub place_at-w : (s : List ℕ) (n : ℕ) → place_at (map w s) n ≡ place_at s n
  unfolding place_at
  place_at-w s n = rw (scan_at-w s n)
