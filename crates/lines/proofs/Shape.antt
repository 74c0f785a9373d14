-- No digit shows in whether a line is too long, or whether a control byte stands: it is the same in a text and in
-- its shape (text/Shape). Assumes nothing.
use Prim.Native.Nat.{ℕ, suc}
use mathlib.Core.Path.{◌≡◌, refl}
use mathlib.Core.List.{List, [], ◌∷◌, map}
use Rattle.text.proofs.Shape.{σ, blind, eol-σ}
use Rattle.lines.specs.Lines.{is_control, column, is_long, screen_from, screened}

control-σ : (b : ℕ) → is_control (σ b) ≡ is_control b
unfolding is_control
control-σ = blind is_control refl

column-σ : (c b : ℕ) → column c (σ b) ≡ column c b
unfolding column
column-σ c b = rw (eol-σ b)

long-σ : (c b : ℕ) → is_long c (σ b) ≡ is_long c b
unfolding is_long
long-σ c b = rw (eol-σ b)

screen_from-σ : (c o : ℕ) (s : List ℕ) → screen_from c o (map σ s) ≡ screen_from c o s
unfolding screen_from
screen_from-σ c o [] = refl
screen_from-σ c o (b ∷ s) = rw (long-σ c b, control-σ b, column-σ c b, screen_from-σ (column c b) (suc o) s)

pub screened-σ : (s : List ℕ) → screened (map σ s) ≡ screened s
unfolding screened
screened-σ s = screen_from-σ 0 0 s
