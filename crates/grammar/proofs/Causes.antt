-- No cause that has a place is 1; the number and the detail of a failing item name the cause that has them. Assumes nothing.
use Prim.Native.Nat.{ℕ}
use mathlib.Core.Path.{◌≡◌, refl}
use mathlib.Core.Bool.{false}
use lib.Dec.{eqb}
use Rattle.grammar.specs.declared.Cause.{Cause}
use Rattle.grammar.specs.declared.Cause.TheVariants.{NotAscii, NoData, OpenFrame, Ragged, NoValue, NoItem, NoNames, OverLimit, NotParted, LongLine, BadName, ControlByte}
use Rattle.grammar.specs.Causes.{cause_number, cause_detail, cause_of}

pub cause-has-place : (c : Cause) → eqb (cause_number c) 1 ≡ false
cause-has-place NotAscii = refl
cause-has-place NoData = refl
cause-has-place OpenFrame = refl
cause-has-place (Ragged d) = refl
cause-has-place (NoValue d) = refl
cause-has-place (NoItem d) = refl
cause-has-place NoNames = refl
cause-has-place OverLimit = refl
cause-has-place NotParted = refl
cause-has-place LongLine = refl
cause-has-place BadName = refl
cause-has-place ControlByte = refl

-- the numbers that an item fails by, with their details
pub data Says : ℕ → ℕ → Type 0 where
  says-ragged : (d : ℕ) → Says 5 d
  says-alone : (d : ℕ) → Says 6 d
  says-unnamed : Says 8 0
  says-over : Says 9 0
  says-joined : Says 15 0
  says-name : Says 17 0

pub cause-says : {n d : ℕ} → Says n d → (cause_number (cause_of n d) ≡ n) × (cause_detail (cause_of n d) ≡ d)
cause-says (says-ragged d) = (refl, refl)
cause-says (says-alone d) = (refl, refl)
cause-says says-unnamed = (refl, refl)
cause-says says-over = (refl, refl)
cause-says says-joined = (refl, refl)
cause-says says-name = (refl, refl)
