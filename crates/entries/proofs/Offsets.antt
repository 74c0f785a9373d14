-- What bytes give from an offset on, by the bytes of the whole. Assumes nothing.
use Prim.Native.Nat.{ℕ, ◌+◌, ◌*◌}
use mathlib.Core.Path.{◌≡◌}
use mathlib.Core.List.{List}
use native.Mathlib.Nat.{add-zero}
use lib.ListN.{drop, get_or}
use lib.Seq.{get_or-drop, drop-drop}
use Rattle.entries.specs.Entries.{de32, de64, token_of, parts_of}

pub de32-at : (s : List ℕ) (at : ℕ) → de32 (drop at s) ≡ get_or s at 0 + get_or s (at + 1) 0 * 256 + get_or s (at + 2) 0 * 65536 + get_or s (at + 3) 0 * 16777216
unfolding de32
de32-at s at = simp (get_or-drop, add-zero)

pub de64-at : (s : List ℕ) (at : ℕ) → de64 (drop at s) ≡ de32 (drop at s) + de32 (drop (at + 4) s) * 4294967296
unfolding de64
de64-at s at = rw drop-drop

pub token-at : (s : List ℕ) (at : ℕ) → token_of (drop at s) ≡ record { offset = de32 (drop at s); length = de32 (drop (at + 4) s); line = de32 (drop (at + 8) s); column = de32 (drop (at + 12) s) }
unfolding token_of
token-at s at = simp drop-drop

pub parts_at : (s : List ℕ) (at u : ℕ) → parts_of (drop at s) u ≡ record { sign = get_or s at 0; integer = de32 (drop (at + 1) s); fraction = de64 (drop (at + 5) s); places = get_or s (at + 13) 0; exponent = de32 (drop (at + 14) s); uncertainty = u }
unfolding parts_of
parts_at s at u = simp (drop-drop, get_or-drop, add-zero)
