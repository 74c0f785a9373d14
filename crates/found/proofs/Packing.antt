-- What is packed comes out again. Assumes nothing.
use Prim.Native.Nat.{ℕ, ◌+◌, ◌*◌, ◌/◌, ◌%◌, ◌<◌}
use mathlib.Core.Path.{◌≡◌, refl}
use native.Mathlib.Omega.{arith}
use borrow.Author.Tests.{le-leb}
use Rattle.found.specs.declared.Why.{Why}
use Rattle.found.specs.declared.Why.TheVariants.{AtEnd, Reserved, NoStart, OpenQuote, OpenField, Joined}
use Rattle.found.specs.declared.Found.TheVariants.{Value, Over, Missing}
use Rattle.found.specs.Packing.{pack, packed_of, why_of_number, unpacked_of}

pub unpack-value : (k n : ℕ) → k < 32 → 0 < n → unpacked_of (pack k n) ≡ Value k n
unfolding unpacked_of pack
unpack-value k n h l =
    let a : (k + n * 32) % 32 ≡ k = omega arith in
    let b : (k + n * 32) / 32 ≡ n = omega arith in
    rw (le-leb 32 (k + n * 32) (omega arith), a, b)

pub unpack-missing : (w : Why) → unpacked_of (packed_of (Missing w)) ≡ Missing w
unfolding unpacked_of why_of_number
unpack-missing AtEnd = refl
unpack-missing Reserved = refl
unpack-missing NoStart = refl
unpack-missing OpenQuote = refl
unpack-missing OpenField = refl
unpack-missing Joined = refl

pub unpack-over : unpacked_of (packed_of Over) ≡ Over
unfolding unpacked_of
unpack-over = refl
