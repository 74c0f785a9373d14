-- Laws of contents and decimal parts, as the code asks for them. Assumes nothing.
use Prim.Native.Nat.{ℕ, ◌^◌, ◌≤◌, ◌<◌}
use native.Mathlib.Omega.{arith}
use native.Mathlib.Nat.{pow-le-pow_right}

-- a power of 10 to 18 is small
pub ten_below : (p : ℕ) → p ≤ 18 → 10 ^ p < 2 ^ 64
ten_below p l =
    let b : 10 ^ p ≤ 10 ^ 18 = pow-le-pow_right {n = 10} (omega arith) {i = p} {j = 18} (omega arith) in
    omega arith
