-- Where neither space nor a comment stands. Assumes nothing.
use Prim.Native.Nat.{ℕ}
use mathlib.Core.Path.{◌≡◌}
use mathlib.Core.List.{List}
use native.Mathlib.Omega.{arith}
use lib.ListN.{drop}
use Rattle.gaps.specs.Gaps.{gap, gap_end}
use Rattle.gaps.proofs.Gaps.{gap-none}

-- where no space stands, it ends where it starts
pub gap-bare : (s : List ℕ) (o : ℕ) → gap (drop o s) ≡ 0 → gap_end s o ≡ o
unfolding gap_end
gap-bare s o e = omega (arith, e)

-- behind space and comments stand none
pub gap-twice : (s : List ℕ) (o : ℕ) → gap_end s (gap_end s o) ≡ gap_end s o
gap-twice s o = gap-bare s (gap_end s o) (gap-none s o)
