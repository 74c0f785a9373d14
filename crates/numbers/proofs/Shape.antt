-- Proved: the parts of a word's shape are the shapes of its parts (parts-σ), so digits do not show in whether a
-- word is a number, in either reading, keeps the limits and has an uncertainty (counts-σ, within-σ, here-σ).
-- Assumes nothing.
use Prim.Native.Nat.{ℕ}
use mathlib.Core.Bool.{Bool, true, false, not, cond, ◌&&◌, ◌||◌}
use mathlib.Core.Path.{◌≡◌, refl, sym}
use mathlib.Core.List.{List, [], ◌∷◌, map}
use lib.ListN.{length-map}
use Rattle.rules.specs.declared.Reading.{Reading}
use Rattle.rules.specs.declared.Reading.TheVariants.{First, Strict}
use Rattle.text.specs.Bytes.{is_digit, is}
use Rattle.numbers.specs.Parts.{Cut, cut, cons_got, digits, sign, point, Part, absent, signed_digits, is_empty, exponent, close, bracket, Parts, parts, is_number, written, is_numeric, counts_as, within}
use Rattle.text.proofs.Shape.{σ, blind, digit-σ}

-- a function goes into both branches
pub ap-cond {ℓ ℓ'} : {A : Type ℓ} {B : Type ℓ'} (f : A → B) (t : Bool) (x y : A) → f (cond t x y) ≡ cond t (f x) (f y)
ap-cond f true x y = refl
ap-cond f false x y = refl

unfoldable pub map_cut : Cut → Cut
map_cut c = cut (map σ c.got) (map σ c.left)

unfoldable pub map_part : Part → Part
map_part p = record { here = p.here; signed = map σ p.signed; run = map σ p.run; left = map σ p.left }

digits-σ : (s : List ℕ) → digits (map σ s) ≡ map_cut (digits s)
unfolding digits map_cut cut cons_got
digits-σ [] = refl
digits-σ (b ∷ s) = rw (digit-σ b, digits-σ s) (sym (ap-cond map_cut (is_digit b) _ _))

sign_byte-σ : (b : ℕ) → (is 43 (σ b) || is 45 (σ b)) ≡ (is 43 b || is 45 b)
unfolding is
sign_byte-σ b = blind (λ b. is 43 b || is 45 b) refl b

sign-σ : (s : List ℕ) → sign (map σ s) ≡ map_cut (sign s)
unfolding sign map_cut cut
sign-σ [] = refl
sign-σ (b ∷ s) = rw (sign_byte-σ b) (sym (ap-cond map_cut (is 43 b || is 45 b) _ _))

point-byte : (b : ℕ) → is 46 (σ b) ≡ is 46 b
unfolding is
point-byte b = blind (is 46) refl b

point-σ : (s : List ℕ) → point (map σ s) ≡ map_cut (point s)
unfolding point map_cut cut
point-σ [] = refl
point-σ (b ∷ s) = rw (point-byte b, digits-σ s) (sym (ap-cond map_cut (is 46 b) _ _))

pub is_empty-σ : (s : List ℕ) → is_empty (map σ s) ≡ is_empty s
unfolding is_empty
is_empty-σ [] = refl
is_empty-σ (b ∷ s) = refl

exp-byte : (b : ℕ) → (is 101 (σ b) || is 69 (σ b)) ≡ (is 101 b || is 69 b)
unfolding is
exp-byte b = blind (λ b. is 101 b || is 69 b) refl b

signed-σ : (c : Cut) → signed_digits (map_cut c) ≡ map_part (signed_digits c)
unfolding signed_digits map_cut map_part cut
signed-σ c = rw (digits-σ c.left)

exponent-σ : (s : List ℕ) → exponent (map σ s) ≡ map_part (exponent s)
unfolding exponent map_part absent
exponent-σ [] = refl
exponent-σ (b ∷ s) = rw (exp-byte b, is_empty-σ s, sign-σ s, signed-σ (sign s)) (sym (ap-cond map_part ((is 101 b || is 69 b) && not (is_empty s)) _ _))

open-byte : (b : ℕ) → is 40 (σ b) ≡ is 40 b
unfolding is
open-byte b = blind (is 40) refl b

shut-byte : (b : ℕ) → is 41 (σ b) ≡ is 41 b
unfolding is
shut-byte b = blind (is 41) refl b

close-σ : (s g l : List ℕ) → close (map σ s) (map σ g) (map σ l) ≡ map_part (close s g l)
unfolding close map_part absent
close-σ s g [] = refl
close-σ s g (b ∷ l) = rw (shut-byte b) (sym (ap-cond map_part (is 41 b) _ _))

bracket-σ : (s : List ℕ) → bracket (map σ s) ≡ map_part (bracket s)
unfolding bracket map_part absent map_cut cut
bracket-σ [] = refl
bracket-σ (b ∷ s) = rw (open-byte b, digits-σ s, close-σ (b ∷ s) (digits s).got (digits s).left) (sym (ap-cond map_part (is 40 b) _ _))

unfoldable pub map_parts : Parts → Parts
map_parts p = record { sgn = map σ p.sgn; int = map σ p.int; frac = map σ p.frac; exp = map_part p.exp; unc = map_part p.unc }

pub parts-σ : (w : List ℕ) → parts (map σ w) ≡ map_parts (parts w)
unfolding parts map_parts map_cut map_part cut
parts-σ w =
    let s = sign w in
    let i = digits s.left in
    let f = point i.left in
    let e = exponent f.left in
    rw (sign-σ w, digits-σ s.left, point-σ i.left, exponent-σ f.left, bracket-σ e.left)

is_number-σ : (w : List ℕ) → is_number (parts (map σ w)) ≡ is_number (parts w)
unfolding is_number map_parts map_part
is_number-σ w = rw (parts-σ w, is_empty-σ (parts w).unc.left, is_empty-σ (parts w).int, is_empty-σ (parts w).frac)

written-σ : (p : Part) → written (map_part p) ≡ written p
unfolding written map_part
written-σ p = rw (is_empty-σ p.run)

pub counts-σ : (r : Reading) (w : List ℕ) → counts_as r (parts (map σ w)) ≡ counts_as r (parts w)
unfolding is_numeric map_parts
counts-σ First w = is_number-σ w
counts-σ Strict w = rw (is_number-σ w, parts-σ w, written-σ (parts w).exp, written-σ (parts w).unc)

pub within-σ : (w : List ℕ) → within (parts (map σ w)) ≡ within (parts w)
unfolding within map_parts map_part
within-σ w = rw (parts-σ w) (simp length-map)

pub here-σ : (w : List ℕ) → (parts (map σ w)).unc.here ≡ (parts w).unc.here
unfolding map_parts map_part
here-σ w = rw (parts-σ w)
