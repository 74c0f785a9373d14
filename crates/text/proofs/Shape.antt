-- The shape of a text has every digit replaced by `0`. Proved: no class of bytes tells a byte from its shape, so runs are the same in both.
-- A class is one computed test over the ten digits (blind). The outline hides digits because of this, crate by crate. Assumes nothing.
use Prim.Native.Nat.{ℕ, ◌+◌, ◌-◌, ◌≤◌}
use mathlib.Core.Bool.{Bool, true, false, cond, beq}
use mathlib.Core.Path.{◌≡◌, refl, sym}
use mathlib.Core.List.{List, [], ◌∷◌, map}
use lib.Dec.{leb}
use native.Mathlib.Omega.{arith}
use borrow.Author.Tests.{leb-true}
use Rattle.text.specs.Bytes.{is_digit, is_eol, is_space, ends_word, is}
use Rattle.text.specs.Runs.{span}
use Rattle.text.proofs.Bools.{and_l, and_r}
use Rattle.text.proofs.Ranges.{all_below, below}

-- the shape of a byte
unfoldable pub σ : ℕ → ℕ
σ b = cond (is_digit b) 48 b

-- a test that does not tell digits apart
abbrev pub flat : (ℕ → Bool) → Bool
flat f = all_below (λ k. beq (f (48 + k)) (f 48)) 10

beq-eq : (a b : Bool) → beq a b ≡ true → a ≡ b
beq-eq true true e = refl
beq-eq true false e = sym e
beq-eq false true e = e
beq-eq false false e = refl

-- it takes a byte and its shape for one
pub blind : (f : ℕ → Bool) → flat f ≡ true → (b : ℕ) → f (σ b) ≡ f b
unfolding σ is_digit
blind f e b = go (is_digit b) refl
  where
    go : (t : Bool) → is_digit b ≡ t → f (cond (is_digit b) 48 b) ≡ f b
    go false q = rw q
    go true q =
        let lo : 48 ≤ b = leb-true 48 b (and_l (leb 48 b) (leb b 57) q) in
        let hi : b ≤ 57 = leb-true b 57 (and_r (leb 48 b) (leb b 57) q) in
        let is : 48 + (b - 48) ≡ b = omega arith in
        let r : f (48 + (b - 48)) ≡ f 48 = beq-eq _ _ (below (λ k. beq (f (48 + k)) (f 48)) 10 e (b - 48) (omega arith)) in
        rw q (sym (rw is at r))

-- the classes
pub digit-σ : (b : ℕ) → is_digit (σ b) ≡ is_digit b
unfolding is_digit
digit-σ = blind is_digit refl

pub eol-σ : (b : ℕ) → is_eol (σ b) ≡ is_eol b
unfolding is_eol
eol-σ = blind is_eol refl

pub ends-σ : (b : ℕ) → ends_word (σ b) ≡ ends_word b
unfolding ends_word
ends-σ = blind ends_word refl

pub space-σ : (b : ℕ) → is_space (σ b) ≡ is_space b
unfolding is_space
space-σ = blind is_space refl

-- one byte that is no digit
pub is-σ : (a : ℕ) → flat (is a) ≡ true → (b : ℕ) → is a (σ b) ≡ is a b
is-σ a e b = blind (is a) e b

-- runs
pub span-σ : (p : ℕ → Bool) → ((b : ℕ) → p (σ b) ≡ p b) → (s : List ℕ) → span p (map σ s) ≡ span p s
unfolding span
span-σ p h [] = refl
span-σ p h (b ∷ s) = rw (h b, span-σ p h s)
