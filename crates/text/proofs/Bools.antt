-- What a test's answer says of its parts. Assumes nothing.
use mathlib.Core.Path.{◌≡◌, refl, sym}
use mathlib.Core.Bool.{Bool, true, false, not, ◌&&◌, ◌||◌, true≢false}

pub or_l : (a b : Bool) → (a || b) ≡ false → a ≡ false
or_l true b e = e
or_l false b e = refl

pub or_r : (a b : Bool) → (a || b) ≡ false → b ≡ false
or_r true b e = absurd (true≢false e)
or_r false b e = e

pub and_l : (a b : Bool) → (a && b) ≡ true → a ≡ true
and_l true b e = refl
and_l false b e = e

pub and_r : (a b : Bool) → (a && b) ≡ true → b ≡ true
and_r true b e = e
and_r false b e = absurd (true≢false (sym e))

-- a test that can't hold
pub never_true : (t : Bool) → (t ≡ true → ⊥) → t ≡ false
never_true true f = absurd (f refl)
never_true false f = refl

-- a test that holds in either case
pub or_cases : (a b : Bool) {A : Type 0} → (a ≡ true → A) → (b ≡ true → A) → (a || b) ≡ true → A
or_cases true b f g e = f refl
or_cases false b f g e = g e

pub not-and : (a b : Bool) → not (a && b) ≡ (not a || not b)
not-and true b = refl
not-and false b = refl

pub not-not : (a : Bool) → not (not a) ≡ a
not-not true = refl
not-not false = refl
