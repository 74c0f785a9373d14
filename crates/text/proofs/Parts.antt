-- Laws of a part of a text: its length, its first byte, and where it would reach past the end. Assumes nothing.
use Prim.Native.Nat.{ℕ, zero, suc, ◌+◌, ◌-◌, ◌≤◌, ◌<◌, min}
use mathlib.Core.Path.{◌≡◌, refl, sym, ap}
use mathlib.Core.List.{List, [], ◌∷◌}
use native.Mathlib.Omega.{arith}
use native.Mathlib.Nat.{zero-min, min-zero, suc-min-suc}
use lib.ListN.{length, get_or, take, drop, length-take, length-drop, drop_of_length-le}
use lib.Seq.{drop-cons, take-nil, get_or-take, get_or-drop}
use Rattle.text.specs.Parts.{part}

take_min : (n : ℕ) (l : List ℕ) → take (min n (length l)) l ≡ take n l
take_min zero l = rw zero-min
take_min (suc n) [] = rw min-zero
take_min (suc n) (x ∷ l) = rw suc-min-suc (ap (λ (r : List ℕ). x ∷ r) (take_min n l))

module _ (s : List ℕ) where
  -- by its offset and length
  pub part-is : (a n : ℕ) → part s a n ≡ take n (drop a s)
  unfolding part
  part-is a n = refl

  pub part_length : (a n : ℕ) → a + n ≤ length s → length (part s a n) ≡ n
  unfolding part
  part_length a n h = simp (length-take, length-drop) (omega arith)

  -- a byte of it
  pub part-at : (a n k : ℕ) → k < n → get_or (part s a n) k 0 ≡ get_or s (a + k) 0
  unfolding part
  part-at a n k h = rw (get_or-take, get_or-drop)

  pub part_none : (a : ℕ) → part s a 0 ≡ []
  unfolding part
  part_none a = refl

  pub part-cons : (a n : ℕ) → a < length s → part s a (suc n) ≡ get_or s a 0 ∷ part s (suc a) n
  unfolding part
  part-cons a n h = rw (drop-cons s a 0)

  -- a part that would reach past the end ends there
  pub part-clamped : (a n : ℕ) → part s a (min n (length s - a)) ≡ part s a n
  unfolding part
  part-clamped a n = rw (← length-drop a s) (take_min n (drop a s))

  pub part-past : (a n : ℕ) → length s < a → part s 0 0 ≡ part s a n
  unfolding part
  part-past a n h =
      let l : length s ≤ a = omega arith in
      let d : drop a s ≡ [] = drop_of_length-le s l in
      rw d (sym (take-nil n))
