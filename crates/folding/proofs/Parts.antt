-- What is left of a folded part of a text behind i of its bytes: what a walk over it byte by byte goes by. Assumes nothing.
use Prim.Native.Nat.{ℕ, suc, ◌+◌, ◌-◌, ◌≤◌, ◌<◌}
use mathlib.Core.Path.{◌≡◌, refl, ap, ◌∙◌}
use mathlib.Core.List.{List, [], ◌∷◌}
use native.Mathlib.Omega.{arith}
use lib.ListN.{length, get_or}
use Rattle.text.specs.Parts.{part}
use Rattle.text.proofs.Parts.{part_length, part_none, part-cons}
use Rattle.folding.specs.Folding.{lower, folded}

-- nothing stays nothing, and each byte is folded by itself
pub folded-none : folded [] ≡ []
unfolding folded
folded-none = refl

pub folded-cons : (b : ℕ) (u : List ℕ) → folded (b ∷ u) ≡ lower b ∷ folded u
unfolding folded
folded-cons b u = refl

-- folding leaves the length as it is
pub folded-length : (u : List ℕ) → length (folded u) ≡ length u
unfolding folded
folded-length [] = refl
folded-length (b ∷ u) = ap suc (folded-length u)

module _ (s : List ℕ) (a n : ℕ) where
  pub folded-size : a + n ≤ length s → length (folded (part s a n)) ≡ n
  folded-size h = folded-length (part s a n) ∙ part_length s a n h

  unfoldable pub left : ℕ → List ℕ
  left i = folded (part s (a + i) (n - i))

  pub left-all : left 0 ≡ folded (part s a n)
  unfolding left
  left-all =
      let x : a + 0 ≡ a = omega arith in
      let z : n - 0 ≡ n = omega arith in
      rw (x, z)

  pub left-next : (i : ℕ) → a + n ≤ length s → i < n → left i ≡ lower (get_or s (a + i) 0) ∷ left (i + 1)
  unfolding left folded
  left-next i h l =
      let x : a + (i + 1) ≡ suc (a + i) = omega arith in
      let z : n - i ≡ suc (n - (i + 1)) = omega arith in
      rw (x, z, part-cons s (a + i) (n - (i + 1)) (omega arith))

  pub left-none : (i : ℕ) → n ≤ i → left i ≡ []
  unfolding left folded
  left-none i h =
      let z : n - i ≡ 0 = omega arith in
      rw (z, part_none s (a + i))
