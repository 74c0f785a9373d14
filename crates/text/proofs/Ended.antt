-- A run ends at the first byte outside its class, so that nothing behind that byte changes it. Assumes nothing.
use Prim.Native.Nat.{ℕ}
use mathlib.Core.Bool.{Bool, false}
use mathlib.Core.Path.{◌≡◌}
use mathlib.Core.List.{List, [], ◌∷◌, ◌++◌}
use Rattle.text.specs.Runs.{span}

-- a byte outside the class, and whatever follows it, leave a run as it is at the text's end
pub span-ended : (p : ℕ → Bool) (c : ℕ) → p c ≡ false → (w t : List ℕ) → span p (w ++ c ∷ t) ≡ span p w
unfolding span
span-ended p c e [] t = rw e
span-ended p c e (b ∷ w) t = rw (span-ended p c e w t)
