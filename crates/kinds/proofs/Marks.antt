-- Bounds of the table of kinds: bodies are short, and a content starts within its token's marks. Assumes nothing.
use Prim.Native.Nat.{ℕ, zero, suc, ◌+◌, ◌-◌, ◌≤◌, ◌<◌}
use mathlib.Core.Path.{◌≡◌, refl, sym, ◌∙◌}
use mathlib.Core.Bool.{Bool, true, false, ◌&&◌, ◌||◌, or-true, or-false, false≢true}
use native.Mathlib.Omega.{arith}
use borrow.Author.Tests.{eqb-true, eqb-false, leb-true, le-leb}
use lib.Dec.{eqb, leb}
use Rattle.kinds.specs.declared.Kind.{Kind}
use Rattle.kinds.specs.declared.Kind.TheVariants.{NoKind, Block, FrameOpen, FrameClose, Tag, Loop, LoopTag, LoopEnd, Inapplicable, Unknown, Bare, SingleQuoted, DoubleQuoted, Multiline, Number, Uncertain, Quoted}
use Rattle.kinds.specs.declared.Shape.{Shape}
use Rattle.kinds.specs.declared.Shape.TheVariants.{Empty, Place, Content, Count, Parts, PartsUncertain}
use Rattle.kinds.specs.Kinds.{kind_of, shape_length, marks_of, opening, is_value_kind}

-- a body is short
pub shape-short : (h : Shape) → shape_length h ≤ 38
unfolding shape_length
shape-short Empty = omega arith
shape-short Place = omega arith
shape-short Content = omega arith
shape-short Count = omega arith
shape-short Parts = omega arith
shape-short PartsUncertain = omega arith

-- the marks before a content are among the token's marks
pub opening-marks : (k : Kind) → opening k ≤ marks_of k
unfolding opening marks_of
opening-marks NoKind = omega arith
opening-marks Block = omega arith
opening-marks FrameOpen = omega arith
opening-marks FrameClose = omega arith
opening-marks Tag = omega arith
opening-marks Loop = omega arith
opening-marks LoopTag = omega arith
opening-marks LoopEnd = omega arith
opening-marks Inapplicable = omega arith
opening-marks Unknown = omega arith
opening-marks Bare = omega arith
opening-marks SingleQuoted = omega arith
opening-marks DoubleQuoted = omega arith
opening-marks Multiline = omega arith
opening-marks Number = omega arith
opening-marks Uncertain = omega arith
opening-marks Quoted = omega arith

and_first : (a b : Bool) → (a && b) ≡ true → a ≡ true
and_first true b e = refl
and_first false b e = e

and_second : (a b : Bool) → (a && b) ≡ true → b ≡ true
and_second true b e = e
and_second false b e = absurd (false≢true e)

-- A CLAIM ABOUT EVERY KIND OF VALUE, one by one
pub each-value : (P : ℕ → Type 0) → P 8 → P 9 → P 10 → P 11 → P 12 → P 13 → P 14 → P 15 → P 21 → (k : ℕ) → is_value_kind k ≡ true → P k
unfolding is_value_kind
each-value P a b c d e f g h q k v = by (eqb k 21) refl v
  where
    low : (j : ℕ) → k ≡ 8 + j → j ≤ 7 → P k
    low zero z l = rw z a
    low (suc zero) z l = rw z b
    low (suc (suc zero)) z l = rw z c
    low (suc (suc (suc zero))) z l = rw z d
    low (suc (suc (suc (suc zero)))) z l = rw z e
    low (suc (suc (suc (suc (suc zero))))) z l = rw z f
    low (suc (suc (suc (suc (suc (suc zero)))))) z l = rw z g
    low (suc (suc (suc (suc (suc (suc (suc zero))))))) z l = rw z h
    low (suc (suc (suc (suc (suc (suc (suc (suc j)))))))) z l = absurd (omega arith)

    by : (t : Bool) → eqb k 21 ≡ t → ((leb 8 k && leb k 15) || t) ≡ true → P k
    by true z v = rw (eqb-true k 21 z) q
    by false z v =
        let w : (leb 8 k && leb k 15) ≡ true = sym (or-false (leb 8 k && leb k 15)) ∙ v in
        let l = leb-true 8 k (and_first (leb 8 k) (leb k 15) w) in
        let m = leb-true k 15 (and_second (leb 8 k) (leb k 15) w) in
        low (k - 8) (omega arith) (omega arith)

-- a value of kinds 8 to 15, and one of 21, is one
pub value-kind : (k : ℕ) → 8 ≤ k → ((k ≡ 21 → ⊥) → k ≤ 15) → is_value_kind k ≡ true
unfolding is_value_kind
value-kind k l h = by (eqb k 21) refl
  where
    by : (t : Bool) → eqb k 21 ≡ t → ((leb 8 k && leb k 15) || t) ≡ true
    by true z = or-true (leb 8 k && leb k 15)
    by false z = rw (le-leb 8 k l, le-leb k 15 (h (eqb-false k 21 z)))

-- a value has no marks but those of a quoted text or a text field: two, and in the strict reading's quoted value one
pub value-marks : (k n : ℕ) → is_value_kind k ≡ true → 0 < n → (11 ≤ k → k ≤ 13 → 2 ≤ n) → marks_of (kind_of k) ≤ n
unfolding kind_of marks_of
value-marks k n v z m =
    each-value (λ k. (11 ≤ k → k ≤ 13 → 2 ≤ n) → marks_of (kind_of k) ≤ n) (λ m. omega arith) (λ m. omega arith) (λ m. omega arith)
    (λ m. m (omega arith) (omega arith)) (λ m. m (omega arith) (omega arith)) (λ m. m (omega arith) (omega arith)) (λ m. omega arith) (λ m. omega arith) (λ m. omega arith) k v m
