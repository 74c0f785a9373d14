-- Laws of the order of names: names that are the same stand alike to any other; and byte by byte over two names. Assumes nothing.
use Prim.Native.Nat.{ℕ, suc, ◌+◌, ◌≤◌, ◌<◌}
use mathlib.Core.Path.{◌≡◌, refl, ap, ◌∙◌}
use mathlib.Core.Bool.{Bool, true, false, cond}
use mathlib.Core.List.{List, [], ◌∷◌}
use borrow.Author.Tests.{eq-eqb, ne_eqb}
use lib.Dec.{eqb, ltb}
use native.Mathlib.Numerals.{add-one}
use lib.ListN.{length, get_or, drop, drop_of_length-le}
use lib.Seq.{drop-cons}
use Rattle.folding.specs.Folding.{lower, folded, same_name}
use Rattle.folding.proofs.Parts.{folded-none, folded-cons, folded-length}
use Rattle.folding.proofs.Same.{same-folded}
use Rattle.names.specs.Order.{less_bytes, less_folded, less_name}

pub less-alike : (w u v : List ℕ) → same_name u v ≡ true → less_name w u ≡ less_name w v
unfolding less_name
less-alike w u v e = rw (same-folded u v e)

-- names of other lengths
pub less-size : (u v : List ℕ) → (length u ≡ length v → ⊥) → less_name u v ≡ ltb (length u) (length v)
unfolding less_name less_folded
less-size u v d = rw (folded-length u, folded-length v, ne_eqb (length u) (length v) d)

-- names of one length, byte by byte: what is left to compare behind i bytes
module _ (u v : List ℕ) where
  unfoldable pub less_left : ℕ → Bool
  less_left i = less_bytes (folded (drop i u)) (folded (drop i v))

  pub less-all : length u ≡ length v → less_name u v ≡ less_left 0
  unfolding less_name less_folded less_left
  less-all e = rw (folded-length u, folded-length v, eq-eqb (length u) (length v) e)

  step : (i : ℕ) → i < length u → i < length v →
      less_left i ≡ cond (eqb (lower (get_or u i 0)) (lower (get_or v i 0))) (less_left (i + 1)) (ltb (lower (get_or u i 0)) (lower (get_or v i 0)))
  unfolding less_left less_bytes
  step i h k =
      rw (drop-cons u i 0 h, drop-cons v i 0 k, folded-cons (get_or u i 0) (drop (suc i) u), folded-cons (get_or v i 0) (drop (suc i) v), add-one)

  pub less-go : (i : ℕ) → i < length u → i < length v → lower (get_or u i 0) ≡ lower (get_or v i 0) → less_left i ≡ less_left (i + 1)
  less-go i h k e = step i h k ∙ rw (eq-eqb (lower (get_or u i 0)) (lower (get_or v i 0)) e)

  pub less-stop : (i : ℕ) → i < length u → i < length v → (lower (get_or u i 0) ≡ lower (get_or v i 0) → ⊥) → less_left i ≡ ltb (lower (get_or u i 0)) (lower (get_or v i 0))
  less-stop i h k e = step i h k ∙ rw (ne_eqb (lower (get_or u i 0)) (lower (get_or v i 0)) e)

  pub less_done : (i : ℕ) → length u ≤ i → length v ≤ i → less_left i ≡ false
  unfolding less_left less_bytes
  less_done i h k = rw (drop_of_length-le u h, drop_of_length-le v k, folded-none)
