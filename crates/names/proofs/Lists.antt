-- Laws of names in a list: the one at its head, and one name on. Assumes nothing.
use Prim.Native.Nat.{ℕ, zero, suc, ◌+◌}
use mathlib.Core.Path.{◌≡◌, ap}
use mathlib.Core.List.{List, [], ◌∷◌, ◌++◌}
use native.Mathlib.Omega.{arith}
use native.Mathlib.Numerals.{add-one}
use lib.ListN.{take, drop}
use Rattle.names.specs.Names.{Name}

-- the heads of the same list are the same
pub same_head : (l : List Name) (x y : Name) (r s : List Name) → l ≡ x ∷ r → l ≡ y ∷ s → x ≡ y
same_head l x y r s e f = cc

-- one name on
drop-suc : (xs : List Name) (n : ℕ) (y : Name) (ys : List Name) → drop n xs ≡ y ∷ ys → drop (suc n) xs ≡ ys
drop-suc [] zero y ys e = absurd (let z : ◌≡◌ {A = ℕ} 0 1 = cc in omega arith)
drop-suc [] (suc n) y ys e = absurd (let z : ◌≡◌ {A = ℕ} 0 1 = cc in omega arith)
drop-suc (x ∷ xs) zero y ys e = cc
drop-suc (x ∷ xs) (suc n) y ys e = drop-suc xs n y ys e

pub drop-next : (xs : List Name) (n : ℕ) (y : Name) (ys : List Name) → drop n xs ≡ y ∷ ys → drop (n + 1) xs ≡ ys
drop-next xs n y ys e = rw add-one (drop-suc xs n y ys e)

take_more : (xs : List Name) (n : ℕ) (y : Name) (ys : List Name) → drop n xs ≡ y ∷ ys → take (suc n) xs ≡ take n xs ++ (y ∷ [])
take_more [] zero y ys e = absurd (let z : ◌≡◌ {A = ℕ} 0 1 = cc in omega arith)
take_more [] (suc n) y ys e = absurd (let z : ◌≡◌ {A = ℕ} 0 1 = cc in omega arith)
take_more (x ∷ xs) zero y ys e = let h : x ≡ y = cc in rw h
take_more (x ∷ xs) (suc n) y ys e = ap (λ (l : List Name). x ∷ l) (take_more xs n y ys e)

pub take_next : (xs : List Name) (n : ℕ) (y : Name) (ys : List Name) → drop n xs ≡ y ∷ ys → take (n + 1) xs ≡ take n xs ++ (y ∷ [])
take_next xs n y ys e = rw add-one (take_more xs n y ys e)
