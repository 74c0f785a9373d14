-- Laws of the byte before an offset. Assumes nothing.
use Prim.Native.Nat.{ℕ, zero, suc, ◌+◌, ◌-◌, ◌≤◌, ◌<◌}
use mathlib.Core.Path.{◌≡◌, refl}
use mathlib.Core.List.{List, [], ◌∷◌}
use native.Mathlib.Omega.{arith}
use lib.ListN.{length, drop, get_or}
use lib.Seq.{get_or-drop}
use Rattle.columns.specs.Before.{byte_before, passed}

-- at the start, and behind a byte
pub before-start : (s : List ℕ) (o : ℕ) → o < 1 → byte_before s o ≡ 10
unfolding byte_before
before-start s zero h = refl
before-start s (suc o) h = absurd (omega arith)

-- past the default of a list nothing is read here
get_d-within : (s : List ℕ) (k x y : ℕ) → k < length s → get_or s k x ≡ get_or s k y
get_d-within [] k x y h = absurd (omega arith)
get_d-within (b ∷ s) zero x y h = refl
get_d-within (b ∷ s) (suc k) x y h = get_d-within s k x y (omega arith)

pub before-byte : (s : List ℕ) (o : ℕ) → 1 ≤ o → o ≤ length s → byte_before s o ≡ get_or s (o - 1) 0
unfolding byte_before
before-byte s zero l h = absurd (omega arith)
before-byte s (suc o) l h =
    let e : suc o - 1 ≡ o = omega arith in
    rw e (get_d-within s o 10 0 (omega arith))

passed-at : (s : List ℕ) (p k : ℕ) → suc k ≤ length s → passed p s (suc k) ≡ get_or s k 10
unfolding passed
passed-at [] p k h = absurd (omega arith)
passed-at (b ∷ s) p zero h = refl
passed-at (b ∷ s) p (suc k) h = passed-at s b k (omega arith)

-- k bytes behind an offset
pub before_on : (s : List ℕ) (o k : ℕ) → o ≤ length s → k ≤ length (drop o s) → passed (byte_before s o) (drop o s) k ≡ byte_before s (o + k)
unfolding passed byte_before
before_on s o zero g h = let e : o + 0 ≡ o = omega arith in rw e
before_on s o (suc k) g h =
    let e : o + suc k ≡ suc (o + k) = omega arith in
    rw (e, passed-at (drop o s) (byte_before s o) k h) (get_or-drop o s k 10)

-- behind a byte stands that byte
pub passed-next : (p b : ℕ) (s : List ℕ) (k : ℕ) → passed p (b ∷ s) (suc k) ≡ passed b s k
unfolding passed
passed-next p b s k = refl

pub passed_none : (p : ℕ) (s : List ℕ) → passed p s 0 ≡ p
unfolding passed
passed_none p s = refl
