-- Laws of the kinds. Assumes nothing.
use Prim.Native.Nat.{ℕ, ◌<◌}
use native.Mathlib.Omega.{arith}
use Rattle.kinds.specs.declared.Shape.{Shape}
use Rattle.kinds.specs.declared.Shape.TheVariants.{Empty, Place, Content, Count, Parts, PartsUncertain}
use mathlib.Core.Path.{◌≡◌, refl, ◌∙◌, ap}
use mathlib.Core.List.{List, [], ◌∷◌, map}
use mathlib.Core.Bool.{cond}
use mathlib.Core.Logic.{inl, inr}
use lib.Dec.{eqb}
use types.Run.{OneOf}
use denote.Enum.Declared.{tag_of}
use Rattle.kinds.specs.declared.Kind.{Kind}
use Rattle.kinds.specs.declared.Kind.TheVariants.{NoKind, Block, FrameOpen, FrameClose, Tag, Loop, LoopTag, LoopEnd, Inapplicable, Unknown, Bare, SingleQuoted, DoubleQuoted, Multiline, Number, Uncertain, Quoted}
use Rattle.kinds.specs.Kinds.{kind_of, number_of, shape_length, outline_shape}
use Rattle.kinds.specs.contracts.Kind.{the_type}

-- the kind that stands at a position among the variants: up to 15 by its number
abbrev pub variant : ℕ → Kind
variant i = cond (eqb i 16) Quoted (kind_of i)

-- a kind is the kind of its number, and of its position
numbers : (k : Kind) → (kind_of (number_of k) ≡ k) × (variant (tag_of the_type k) ≡ k)
unfolding kind_of
numbers NoKind = (refl, refl)
numbers Block = (refl, refl)
numbers FrameOpen = (refl, refl)
numbers FrameClose = (refl, refl)
numbers Tag = (refl, refl)
numbers Loop = (refl, refl)
numbers LoopTag = (refl, refl)
numbers LoopEnd = (refl, refl)
numbers Inapplicable = (refl, refl)
numbers Unknown = (refl, refl)
numbers Bare = (refl, refl)
numbers SingleQuoted = (refl, refl)
numbers DoubleQuoted = (refl, refl)
numbers Multiline = (refl, refl)
numbers Number = (refl, refl)
numbers Uncertain = (refl, refl)
numbers Quoted = (refl, refl)

pub kind-number : (k : Kind) → kind_of (number_of k) ≡ k
kind-number k = (numbers k).0

-- a function of numbers with one value at all of a list has it at each of them
same_at : {A : Type 0} (f : ℕ → A) (v : A) (n : ℕ) (ns : List ℕ) → map f (n ∷ ns) ≡ map (λ _. v) (n ∷ ns) → (x : ℕ) → OneOf (n ∷ ns) x → v ≡ f x
same_at f v n [] all x e = cc
same_at f v n (m ∷ ns) all x (inl e) = cc
same_at f v n (m ∷ ns) all x (inr e) = same_at f v m ns (cc) x e

-- so for a kind whose position is one of a list
pub told : {A : Type 0} (f : Kind → A) (v : A) (n : ℕ) (ns : List ℕ) → map (λ m. f (variant m)) (n ∷ ns) ≡ map (λ _. v) (n ∷ ns) → (k : Kind) → OneOf (n ∷ ns) (tag_of the_type k) → v ≡ f k
told f v n ns all k e = same_at (λ m. f (variant m)) v n ns all (tag_of the_type k) e ∙ ap f (numbers k).1

-- in the outline a body is empty, or P
pub outline-none : (s : Shape) → shape_length s ≡ 0 → shape_length (outline_shape s) ≡ 0
unfolding shape_length outline_shape
outline-none Empty e = refl
outline-none Place e = e
outline-none Content e = absurd (omega arith)
outline-none Count e = absurd (omega arith)
outline-none Parts e = absurd (omega arith)
outline-none PartsUncertain e = absurd (omega arith)

pub outline-place : (s : Shape) → 0 < shape_length s → shape_length (outline_shape s) ≡ 16
unfolding shape_length outline_shape
outline-place Empty h = absurd (omega arith)
outline-place Place h = refl
outline-place Content h = refl
outline-place Count h = refl
outline-place Parts h = refl
outline-place PartsUncertain h = refl
