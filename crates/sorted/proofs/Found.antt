-- Laws of the search by halving: its steps, and that names which are the same are found alike. Assumes nothing.
use Prim.Native.Nat.{ℕ, zero, suc, ◌+◌, ◌/◌, ◌≤◌, ◌<◌}
use mathlib.Core.Path.{◌≡◌, refl, ◌∙◌}
use mathlib.Core.Bool.{Bool, true, false, cond}
use mathlib.Core.List.{List}
use native.Mathlib.Omega.{arith}
use borrow.Author.Tests.{lt-ltb, le-ltb, ltb-true}
use lib.Dec.{ltb}
use lib.ListN.{length, get_or}
use Rattle.std.specs.Prelude.{Some, None}
use Rattle.folding.specs.Folding.{same_name}
use Rattle.folding.proofs.Same.{same_alike}
use Rattle.names.specs.Order.{less_name}
use Rattle.steps.specs.Steps.{held_at}
use Rattle.names.proofs.Order.{less-alike}
use Rattle.sorted.specs.Found.{passed, place_from, place_of, found_at, find_in}

module _ (st ar t : List ℕ) (w : List ℕ) where
  -- a step: no entry, one that comes before, one that does not
  pub pass-end : (at half : ℕ) → length t ≤ at + half → at ≡ passed st ar t at half w
  unfolding passed
  pass-end at half l = rw (le-ltb (at + half) (length t) l)

  pub pass-is : (at half e : ℕ) (u : List ℕ) (b r : Bool) → at + half < length t → e ≡ get_or t (at + half) 0 → u ≡ held_at st ar e → b ≡ less_name u w → b ≡ r →
      cond r (at + half + 1) at ≡ passed st ar t at half w
  unfolding passed
  pass-is at half e u b r l p q f g = rw (lt-ltb (at + half) (length t) l, ← p, ← q, ← f, g)

  -- no step leaves the table
  pub pass-within : (at half : ℕ) → at ≤ length t → passed st ar t at half w ≤ length t
  unfolding passed
  pass-within at half l = by (ltb (at + half) (length t)) refl (less_name (held_at st ar (get_or t (at + half) 0)) w)
    where
      by : (a : Bool) → ltb (at + half) (length t) ≡ a → (b : Bool) → cond a (cond b (at + half + 1) at) at ≤ length t
      by true e true = omega (arith, ltb-true (at + half) (length t) e)
      by true e false = l
      by false e b = l

  -- one of the steps that are left
  pub place-go : (k m at half : ℕ) → k ≡ suc m → place_from st ar t k at half w ≡ place_from st ar t m (passed st ar t at half w) (half / 2) w
  unfolding place_from
  place-go k m at half h = rw h

  pub place-done : (k at half : ℕ) → k ≡ 0 → place_from st ar t k at half w ≡ at
  unfolding place_from
  place-done k at half h = rw h

  -- what stands at the place
  pub find-end : (at : ℕ) → at ≡ place_of st ar t w → length t ≤ at → None ≡ find_in st ar t w
  unfolding find_in found_at
  find-end at e l = rw (← e, le-ltb at (length t) l)

  pub find-is : (at e : ℕ) (u : List ℕ) (b r : Bool) → at ≡ place_of st ar t w → at < length t → e ≡ get_or t at 0 → u ≡ held_at st ar e → b ≡ same_name u w → b ≡ r →
      cond r (Some e) None ≡ find_in st ar t w
  unfolding find_in found_at
  find-is at e u b r o l p q f g = rw (← o, lt-ltb at (length t) l, ← p, ← q, ← f, g)

-- names that are the same are found at the same entry, or neither is found: they stand alike to every entry
module _ (st ar t : List ℕ) (u v : List ℕ) (e : same_name u v ≡ true) where
  pass_same : (at half : ℕ) → passed st ar t at half u ≡ passed st ar t at half v
  unfolding passed
  pass_same at half = rw (less-alike (held_at st ar (get_or t (at + half) 0)) u v e)

  place_same : (k at half : ℕ) → place_from st ar t k at half u ≡ place_from st ar t k at half v
  unfolding place_from
  place_same zero at half = refl
  place_same (suc k) at half = place_same k (passed st ar t at half u) (half / 2) ∙ rw (pass_same at half)

  pub find-same : find_in st ar t u ≡ find_in st ar t v
  unfolding find_in found_at place_of
  find-same = rw (place_same 14 0 8191, same_alike (held_at st ar (get_or t (place_from st ar t 14 0 8191 v) 0)) u v e)
