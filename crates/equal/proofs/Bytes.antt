-- Laws of equal bytes: what they say, and how the library compares them. Assumes nothing.
use Prim.Native.Nat.{ℕ}
use mathlib.Core.Path.{◌≡◌, refl, sym, ap, ap₂, ◌∙◌}
use mathlib.Core.Bool.{Bool, true, false, true≢false}
use mathlib.Core.List.{List, [], ◌∷◌}
use borrow.Author.Tests.{eqb-true, eq-eqb}
use lib.Dec.{eqb}
use lib.Pointwise.{pointwise}
use Rattle.text.proofs.Bools.{and_l, and_r}
use Rattle.folding.specs.Folding.{equal_bytes}

-- they are the same exactly if they are equal
pub bytes-equal : (u v : List ℕ) → equal_bytes u v ≡ true → u ≡ v
unfolding equal_bytes
bytes-equal [] [] e = refl
bytes-equal [] (c ∷ v) e = absurd (true≢false (sym e))
bytes-equal (b ∷ u) [] e = absurd (true≢false (sym e))
bytes-equal (b ∷ u) (c ∷ v) e = ap₂ (λ (x : ℕ) (l : List ℕ). x ∷ l) (eqb-true b c (and_l (eqb b c) (equal_bytes u v) e)) (bytes-equal u v (and_r (eqb b c) (equal_bytes u v) e))

pub bytes_same : (u : List ℕ) → equal_bytes u u ≡ true
unfolding equal_bytes
bytes_same [] = refl
bytes_same (b ∷ u) = rw (eq-eqb b b refl) (bytes_same u)

-- seen from the other side
pub bytes-turned : (u v : List ℕ) → equal_bytes u v ≡ equal_bytes v u
bytes-turned u v = by (equal_bytes u v) (equal_bytes v u) refl refl
  where
    by : (a b : Bool) → equal_bytes u v ≡ a → equal_bytes v u ≡ b → a ≡ b
    by true true p q = refl
    by false false p q = refl
    by true false p q = sym (bytes_same v) ∙ ap (equal_bytes v) (sym (bytes-equal u v p)) ∙ q
    by false true p q = sym (sym (bytes_same u) ∙ ap (equal_bytes u) (sym (bytes-equal v u q)) ∙ p)

-- as the library compares lists
pub bytes_pointwise : (u v : List ℕ) → pointwise eqb u v ≡ equal_bytes u v
unfolding equal_bytes
bytes_pointwise [] [] = refl
bytes_pointwise [] (c ∷ v) = refl
bytes_pointwise (b ∷ u) [] = refl
bytes_pointwise (b ∷ u) (c ∷ v) = rw (bytes_pointwise u v)
