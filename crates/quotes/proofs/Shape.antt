-- No digit shows in where a quote, in either reading, or a text field ends: it is the same in a text and in its
-- shape (text/Shape). Assumes nothing.
use Prim.Native.Nat.{ℕ}
use mathlib.Core.Bool.{Bool, true, false}
use mathlib.Core.Path.{◌≡◌, refl}
use mathlib.Core.List.{List, [], ◌∷◌, map}
use Rattle.rules.specs.declared.Reading.{Reading}
use Rattle.rules.specs.declared.Reading.TheVariants.{First, Strict}
use Rattle.text.specs.Bytes.{is_eol, is_space, is}
use Rattle.text.proofs.Shape.{σ, flat, blind, eol-σ, is-σ}
use Rattle.quotes.specs.Quotes.{quoted, ends_here, strict_quoted, quoted_by, field_in, field}

pub quoted-σ : (m : ℕ) → flat (is m) ≡ true → (s : List ℕ) → quoted m (map σ s) ≡ quoted m s
unfolding quoted
quoted-σ m e [] = refl
quoted-σ m e (b ∷ s) = rw (is-σ m e b, eol-σ b, quoted-σ m e s)

ends_here-σ : (s : List ℕ) → ends_here (map σ s) ≡ ends_here s
unfolding ends_here is_space
ends_here-σ [] = refl
ends_here-σ (b ∷ s) = blind (λ b. ends_here (b ∷ s)) refl b

strict_quoted-σ : (m : ℕ) → flat (is m) ≡ true → (s : List ℕ) → strict_quoted m (map σ s) ≡ strict_quoted m s
unfolding strict_quoted
strict_quoted-σ m e [] = refl
strict_quoted-σ m e (b ∷ s) = rw (is-σ m e b, eol-σ b, ends_here-σ s, strict_quoted-σ m e s)

-- by the reading
pub quoted_by-σ : (r : Reading) (m : ℕ) → flat (is m) ≡ true → (s : List ℕ) → quoted_by r m (map σ s) ≡ quoted_by r m s
quoted_by-σ First m e s = quoted-σ m e s
quoted_by-σ Strict m e s = strict_quoted-σ m e s

field_in-σ : (e : Bool) (s : List ℕ) → field_in e (map σ s) ≡ field_in e s
unfolding field_in is
field_in-σ e [] = refl
field_in-σ e (b ∷ s) = rw (is-σ 59 refl b, eol-σ b, field_in-σ (is_eol b) s)

pub field-σ : (s : List ℕ) → field (map σ s) ≡ field s
unfolding field
field-σ s = field_in-σ false s
