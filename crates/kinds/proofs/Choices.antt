-- What a `match` tells where it leaves a variant out. Assumes nothing.
use Prim.Native.Nat.{ℕ}
use mathlib.Core.Path.{◌≡◌, refl}
use mathlib.Core.Bool.{false}
use mathlib.Core.List.{List, [], ◌∷◌, map}
use mathlib.Core.Logic.{inl, inr}
use borrow.Author.Tests.{eqb-false}
use denote.Enum.Declared.{tag_of}
use lib.Dec.{eqb}
use types.Run.{OneOf}
use Rattle.kinds.specs.declared.Shape.{Shape}
use Rattle.kinds.specs.declared.Shape.TheVariants.{Empty, Place, Content, Count, Parts, PartsUncertain}
use Rattle.kinds.specs.Kinds.{is_content}
use Rattle.kinds.specs.contracts.Shape.{the_type as shape-type}

-- a number that is none of a list
pub not-one : (x n : ℕ) (ns : List ℕ) → map (eqb x) (n ∷ ns) ≡ map (λ _. false) (n ∷ ns) → OneOf (n ∷ ns) x → ⊥
not-one x n [] all e = eqb-false x n (cc) e
not-one x n (m ∷ ns) all (inl e) = eqb-false x n (cc) e
not-one x n (m ∷ ns) all (inr e) = not-one x m ns (cc) e

-- a shape other than Content
pub no-content : (h : Shape) → OneOf (0 ∷ 1 ∷ 3 ∷ 4 ∷ 5 ∷ []) (tag_of shape-type h) → is_content h ≡ false
unfolding is_content
no-content Content e = absurd (not-one 2 0 (1 ∷ 3 ∷ 4 ∷ 5 ∷ []) refl e)
no-content Empty e = refl
no-content Place e = refl
no-content Count e = refl
no-content Parts e = refl
no-content PartsUncertain e = refl
