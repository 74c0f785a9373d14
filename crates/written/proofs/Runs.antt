-- A list all of whose bytes pass a test is one run of them, and the other way about (all-span, span-all). Assumes nothing.
use Prim.Native.Nat.{ℕ, suc}
use mathlib.Core.Bool.{Bool, true, false, cond, ◌&&◌}
use mathlib.Core.Path.{◌≡◌, refl, ap}
use mathlib.Core.List.{List, [], ◌∷◌}
use native.Mathlib.Omega.{arith}
use lib.ListN.{length}
use Rattle.text.specs.Runs.{span}
use Rattle.text.proofs.Bools.{and_l, and_r}
use Rattle.numbers.proofs.Made.{all}

pub all-span : (p : ℕ → Bool) (w : List ℕ) → all p w ≡ true → span p w ≡ length w
unfolding all span
all-span p [] e = refl
all-span p (b ∷ w) e = rw (and_l (p b) (all p w) e) (ap suc (all-span p w (and_r (p b) (all p w) e)))

pub span-all : (p : ℕ → Bool) (w : List ℕ) → span p w ≡ length w → all p w ≡ true
unfolding all span
span-all p [] e = refl
span-all p (b ∷ w) e = by (p b) e (span-all p w)
  where
    by : (t : Bool) → cond t (suc (span p w)) 0 ≡ suc (length w) → (span p w ≡ length w → all p w ≡ true) → (t && all p w) ≡ true
    by true q r = r (omega arith)
    by false q r = absurd (omega arith)
