-- Places behind tokens. Assumes nothing.
use Prim.Native.Nat.{ℕ, ◌+◌, ◌-◌}
use mathlib.Core.Path.{◌≡◌}
use mathlib.Core.Bool.{false}
use mathlib.Core.List.{List}
use native.Mathlib.Omega.{arith}
use lib.Dec.{eqb}
use Rattle.places.specs.declared.Place.{Place}
use Rattle.places.specs.Places.{place_at, Whole, IsPlace}
use Rattle.places.proofs.Places.{place-along, place-offset, place-own, whole-after}
use Rattle.desk.specs.Desk.{IsToken}

-- on one line the column counts the bytes
pub behind-line : (s : List ℕ) (p : Place) (k n : ℕ) → IsPlace s p → IsToken s k p.offset n → eqb k 13 ≡ false → record { offset = p.offset + n; line = p.line; column = p.column + n } ≡ place_at s (p.offset + n)
behind-line s p k n i t e =
    let z : p.offset + n - p.offset ≡ n = omega arith in
    rw z at (place-along s p (p.offset + n) i.at (omega arith) t.within (t.line e))

-- no token ends in a byte of a line end, so a reader may go on behind it
pub behind-place : (s : List ℕ) (p q : Place) (k n : ℕ) → IsPlace s p → IsToken s k p.offset n → q ≡ place_at s (p.offset + n) → IsPlace s q
behind-place s p q k n i t e =
    let o : q.offset ≡ p.offset + n = place-offset s q (p.offset + n) e in
    let l : p.offset + n - 1 + 1 ≡ p.offset + n = omega (arith, t.some) in
    let w : Whole s (p.offset + n) = rw l at (whole-after s (p.offset + n - 1) (omega (arith, t.some, t.within)) (t.last (p.offset + n - 1) (omega (arith, t.some)))) in
    record { at = place-own s q (p.offset + n) e; whole = rw o w; within = rw o t.within }
