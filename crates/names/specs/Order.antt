-- An order of names: the shorter first, then by the first byte in which they differ once folded. It goes by what `same_name` compares, so that names that are the
-- same stand alike to any other. Assumes nothing.
use Rattle.std.specs.Prelude.{ℕ, Bool, false, cond, List, [], ◌∷◌, eqb, ltb, length}
use Rattle.folding.specs.Folding.{folded}

-- of names that are as long as each other
unfoldable pub less_bytes : List ℕ → List ℕ → Bool
less_bytes [] [] = false
less_bytes [] (c ∷ d) = false
less_bytes (b ∷ c) [] = false
less_bytes (b ∷ c) (b' ∷ d) = let more = less_bytes c d in cond (eqb b b') more (ltb b b')

-- of folded names
unfoldable pub less_folded : List ℕ → List ℕ → Bool
less_folded u v = cond (eqb (length u) (length v)) (less_bytes u v) (ltb (length u) (length v))

unfoldable pub less_name : List ℕ → List ℕ → Bool
less_name u v = less_folded (folded u) (folded v)
