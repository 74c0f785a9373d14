-- What is found as one number, and back. Assumes nothing.
use Prim.Native.Nat.{ℕ, ◌≤◌, ◌<◌}
use mathlib.Core.Path.{◌≡◌, refl, ◌∙◌}
use mathlib.Core.List.{List}
use native.Mathlib.Omega.{arith}
use Rattle.rules.specs.declared.Reading.{Reading}
use Rattle.rules.specs.declared.Reading.TheVariants.{First, Strict}
use Rattle.found.specs.declared.Found.{Found}
use Rattle.found.specs.declared.Found.TheVariants.{Value, Over, Missing}
use Rattle.values.specs.Finding.{found_at, packed_at}
use Rattle.found.specs.Packing.{packed_of, unpacked_of}
use Rattle.values.proofs.Laws.{highest, found-lies}
use Rattle.found.proofs.Packing.{unpack-value, unpack-missing, unpack-over}

-- a kind is below 32
small : (r : Reading) (k : ℕ) → k ≤ highest r → k < 32
small First k h = omega arith
small Strict k h = omega arith

unpack : (r : Reading) (s : List ℕ) (o : ℕ) → unpacked_of (packed_at r s o) ≡ found_at r s o
unfolding packed_at
unpack r s o = by (found_at r s o) refl
  where
    by : (f : Found) → found_at r s o ≡ f → unpacked_of (packed_of f) ≡ f
    by (Value k n) q =
        let l = found-lies r s o k n q in
        unpack-value k n (small r k l.high) l.pos
    by Over q = unpack-over
    by (Missing w) q = unpack-missing w

-- what is packed comes out again
pub found-packed : (r : Reading) (s : List ℕ) (o t : ℕ) (f : Found) → t ≡ packed_at r s o → f ≡ unpacked_of t → f ≡ found_at r s o
found-packed r s o t f e q = q ∙ rw e (unpack r s o)

-- one answer, packed
pub packs : (r : Reading) (s : List ℕ) (o : ℕ) (f : Found) → found_at r s o ≡ f → packed_of f ≡ packed_at r s o
unfolding packed_at
packs r s o f e = rw e
