-- Laws of a name's number: names that are the same have the same, and it is made byte by byte. Assumes nothing.
use Prim.Native.Nat.{ℕ}
use mathlib.Core.Path.{◌≡◌, ◌∙◌}
use mathlib.Core.Bool.{true}
use mathlib.Core.List.{List, [], ◌∷◌}
use Rattle.std.specs.List.{fold}
use Rattle.names.specs.Names.{Name, same_both}
use Rattle.folding.specs.Folding.{lower, folded}
use Rattle.folding.proofs.Parts.{folded-none, folded-cons}
use Rattle.folding.proofs.Same.{same-folded}
use Rattle.names.specs.Numbers.{mix, mix_all, hash_of}
use Rattle.names.proofs.Same.{same-scope, same_bytes}

-- the same name in the same scope has the same number
pub same-hash : (x y : Name) → same_both x y ≡ true → hash_of x ≡ hash_of y
unfolding hash_of
same-hash x y e = rw (same-scope x y e, same-folded x.bytes y.bytes (same_bytes x y e))

-- a name's number, byte by byte
pub mix-fold : (h : ℕ) (s : List ℕ) → fold (λ (n b : ℕ). mix n (lower b)) h s ≡ mix_all h (folded s)
unfolding mix_all
mix-fold h [] = rw folded-none
mix-fold h (b ∷ s) = mix-fold (mix h (lower b)) s ∙ rw (folded-cons b s)
