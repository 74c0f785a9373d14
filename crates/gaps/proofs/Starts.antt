-- What the first byte says of the space and comments at the start of a text. Assumes nothing.
use Prim.Native.Nat.{ℕ, suc, ◌+◌}
use mathlib.Core.Bool.{true, false, ◌||◌}
use mathlib.Core.Path.{◌≡◌, refl}
use mathlib.Core.List.{List, ◌∷◌}
use borrow.Author.Tests.{eqb-true}
use lib.Dec.{eqb}
use lib.ListN.{drop}
use Rattle.text.specs.Bytes.{is, is_space}
use Rattle.text.proofs.Bools.{or_cases}
use Rattle.gaps.specs.Gaps.{gap_byte, gap_then, gap_in, gap, gap_end}

-- where the gap at an offset ends, by its length
pub gap-end : (s : List ℕ) (o : ℕ) → gap_end s o ≡ o + gap (drop o s)
unfolding gap_end
gap-end s o = refl

-- space starts no comment
space-no-comment : (b : ℕ) → is_space b ≡ true → is 35 b ≡ false
unfolding is_space is
space-no-comment b = or_cases _ _ (or_cases _ _ (or_cases _ _ (at 32 refl) (at 9 refl)) (at 10 refl)) (at 13 refl)
  where
    at : (c : ℕ) → eqb c 35 ≡ false → eqb b c ≡ true → eqb b 35 ≡ false
    at c h e = rw (eqb-true b c e) h

-- space is passed over, and the gap goes on behind it
pub gap-space-first : (b : ℕ) (s : List ℕ) → is_space b ≡ true → gap (b ∷ s) ≡ suc (gap s)
unfolding gap gap_in gap_byte gap_then
gap-space-first b s e = rw (e, space-no-comment b e)

-- where neither space nor `#` stands there is no gap
pub gap-no-first : (b : ℕ) (s : List ℕ) → (is_space b || is 35 b) ≡ false → gap (b ∷ s) ≡ 0
unfolding gap gap_in gap_byte
gap-no-first b s e = rw e
