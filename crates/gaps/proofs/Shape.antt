-- Space and comments are the same in a text and in its shape, where every digit is `0`. Assumes nothing.
use Prim.Native.Nat.{ℕ}
use mathlib.Core.Bool.{Bool, true, false}
use mathlib.Core.Path.{◌≡◌, refl}
use mathlib.Core.List.{List, [], ◌∷◌, map}
use Rattle.text.specs.Bytes.{is_eol, is_space, is}
use Rattle.text.proofs.Shape.{σ, blind}
use Rattle.gaps.specs.Gaps.{gap_byte, gap_then, gap_in, gap}

pub gap_byte-σ : (c : Bool) (b : ℕ) → gap_byte c (σ b) ≡ gap_byte c b
unfolding gap_byte is_space is
gap_byte-σ true b = refl
gap_byte-σ false b = blind (gap_byte false) refl b

pub gap_then-σ : (c : Bool) (b : ℕ) → gap_then c (σ b) ≡ gap_then c b
unfolding gap_then is_eol is
gap_then-σ true b = blind (gap_then true) refl b
gap_then-σ false b = blind (gap_then false) refl b

pub gap_in-σ : (c : Bool) (s : List ℕ) → gap_in c (map σ s) ≡ gap_in c s
unfolding gap_in
gap_in-σ c [] = refl
gap_in-σ c (b ∷ s) = rw (gap_byte-σ c b, gap_then-σ c b, gap_in-σ (gap_then c b) s)

pub gap-σ : (s : List ℕ) → gap (map σ s) ≡ gap s
unfolding gap
gap-σ s = gap_in-σ false s
