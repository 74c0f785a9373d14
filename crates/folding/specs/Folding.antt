-- Letter case (document 01: keywords match in any; document 02, Two: names that differ in nothing else are one). Only A to Z are folded: `[` and `{`, `@` and `` ` ``
-- stay apart. Assumes nothing.
use Rattle.std.specs.Prelude.{ℕ, ◌+◌, Bool, true, false, cond, ◌&&◌, List, [], ◌∷◌, leb, eqb}
use Prim.Native.Char.{code}

-- A to Z taken as a to z
unfoldable pub lower : ℕ → ℕ
lower b = cond (leb (code "A") b && leb b (code "Z")) (b + 32) b

-- so every byte of a name
unfoldable pub folded : List ℕ → List ℕ
folded [] = []
folded (b ∷ s) = lower b ∷ folded s

-- byte for byte
unfoldable pub equal_bytes : List ℕ → List ℕ → Bool
equal_bytes [] [] = true
equal_bytes [] (c ∷ d) = false
equal_bytes (b ∷ c) [] = false
equal_bytes (b ∷ c) (b' ∷ d) = eqb b b' && equal_bytes c d

-- two names are the same if they are once both are folded
unfoldable pub same_name : List ℕ → List ℕ → Bool
same_name u v = equal_bytes (folded u) (folded v)
