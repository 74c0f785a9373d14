-- What a `match` on what is found tells where it leaves a variant out. Assumes nothing.
use Prim.Native.Nat.{ℕ}
use mathlib.Core.Path.{◌≡◌, refl}
use mathlib.Core.List.{[], ◌∷◌}
use mathlib.Core.Logic.{inl, inr}
use native.Mathlib.Omega.{arith}
use denote.Enum.Declared.{tag_of}
use types.Run.{OneOf}
use Rattle.found.specs.declared.Found.{Found}
use Rattle.found.specs.declared.Found.TheVariants.{Value, Over, Missing}
use Rattle.found.specs.contracts.Found.{the_type as found_type}

apart : ◌≡◌ {A = ℕ} 0 1 → ⊥
apart e = omega arith

-- no value
pub not-value : (f : Found) → OneOf (1 ∷ 2 ∷ []) (tag_of found_type f) → (k n : ℕ) → f ≡ Value k n → ⊥
not-value (Value j m) (inl e) k n q = omega arith
not-value (Value j m) (inr e) k n q = omega arith
not-value Over e k n q = apart (cc)
not-value (Missing w) e k n q = apart (cc)

-- no value, and not missing either
pub over-left : (f : Found) → OneOf (1 ∷ 2 ∷ []) (tag_of found_type f) → OneOf (0 ∷ 1 ∷ []) (tag_of found_type f) → f ≡ Over
over-left (Value k n) (inl e) d = absurd (omega arith)
over-left (Value k n) (inr e) d = absurd (omega arith)
over-left Over e d = refl
over-left (Missing w) e (inl d) = absurd (omega arith)
over-left (Missing w) e (inr d) = absurd (omega arith)
