-- Laws of names that are the same: what they have in common, and what the library tells of them. Assumes nothing.
use Prim.Native.Nat.{ℕ}
use mathlib.Core.Path.{◌≡◌, refl, sym, ap₂, ◌∙◌}
use mathlib.Core.Bool.{Bool, true, false, true≢false}
use mathlib.Core.List.{List, [], ◌∷◌, map}
use borrow.Author.Tests.{eqb-true, eq-eqb}
use lib.Dec.{eqb}
use Rattle.std.specs.Prelude.{IsTrue, ◌↔◌}
use Rattle.std.specs.Char.{to_ascii_lowercase}
use Rattle.std.proofs.Common.{arith}
use Rattle.std.proofs.lemmas.Grind.{common_steps}
use Rattle.text.proofs.Bools.{and_l, and_r}
use Rattle.folding.specs.Folding.{lower, folded, equal_bytes, same_name}

equal-bytes : (u v : List ℕ) → equal_bytes u v ≡ true → u ≡ v
unfolding equal_bytes
equal-bytes [] [] e = refl
equal-bytes [] (c ∷ v) e = absurd (true≢false (sym e))
equal-bytes (b ∷ u) [] e = absurd (true≢false (sym e))
equal-bytes (b ∷ u) (c ∷ v) e = ap₂ (λ (x : ℕ) (l : List ℕ). x ∷ l) (eqb-true b c (and_l (eqb b c) (equal_bytes u v) e)) (equal-bytes u v (and_r (eqb b c) (equal_bytes u v) e))

bytes-equal : (u : List ℕ) → equal_bytes u u ≡ true
unfolding equal_bytes
bytes-equal [] = refl
bytes-equal (b ∷ u) = rw (eq-eqb b b refl) (bytes-equal u)

-- names are the same exactly if they are equal once folded
pub same-folded : (u v : List ℕ) → same_name u v ≡ true → folded u ≡ folded v
unfolding same_name
same-folded u v e = equal-bytes (folded u) (folded v) e

pub folded-same : (u v : List ℕ) → folded u ≡ folded v → same_name u v ≡ true
unfolding same_name
folded-same u v e = rw e (bytes-equal (folded v))

-- so names that are the same stand alike to any other
pub same_alike : (w u v : List ℕ) → same_name u v ≡ true → same_name w u ≡ same_name w v
unfolding same_name
same_alike w u v e = rw (same-folded u v e)

-- each byte is folded as the library folds it
lower-is : (b : ℕ) → lower b ≡ to_ascii_lowercase b
unfolding lower
lower-is b = grind (arith, common_steps)

folded-map : (u : List ℕ) → folded u ≡ map to_ascii_lowercase u
unfolding folded
folded-map [] = refl
folded-map (b ∷ u) = ap₂ (λ (x : ℕ) (l : List ℕ). x ∷ l) (lower-is b) (folded-map u)

-- and names are the same as it tells
pub same-told : (t : Bool) (u v : List ℕ) → IsTrue t ↔ (map to_ascii_lowercase u ≡ map to_ascii_lowercase v) → t ≡ same_name u v
same-told t u v h = by t (same_name u v) refl refl
  where
    by : (a b : Bool) → t ≡ a → same_name u v ≡ b → a ≡ b
    by true true p q = refl
    by false false p q = refl
    by true false p q = sym (folded-same u v (folded-map u ∙ h.0 p ∙ sym (folded-map v))) ∙ q
    by false true p q = sym p ∙ h.1 (sym (folded-map u) ∙ same-folded u v q ∙ folded-map v)

-- whichever way what is compared is written
pub same-cut : (t : Bool) (u v a b : List ℕ) → a ≡ u → b ≡ v → IsTrue t ↔ (map to_ascii_lowercase a ≡ map to_ascii_lowercase b) → t ≡ same_name u v
same-cut t u v a b p q h = rw (← p, ← q) (same-told t a b h)
