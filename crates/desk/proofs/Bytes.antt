-- Laws of what is written of one record: its length, and that of its content. Assumes nothing.
use Prim.Native.Nat.{ℕ, suc, ◌+◌, ◌-◌, ◌≤◌, ◌<◌}
use mathlib.Core.Path.{◌≡◌, refl, sym, ap}
use mathlib.Core.Bool.{Bool, true, false, cond}
use mathlib.Core.List.{List, [], ◌∷◌}
use native.Mathlib.Omega.{arith}
use lib.ListN.{length, drop, length-take, length-drop}
use Rattle.kinds.specs.declared.Shape.{Shape}
use Rattle.kinds.specs.declared.Shape.TheVariants.{Empty, Place, Content, Count, Parts, PartsUncertain}
use Rattle.kinds.specs.Kinds.{kind_of, shape_of, shape_length, outline_shape, body_length, outline_length, marks_of, opening, has_content}
use Rattle.kinds.proofs.Numbering.{outline-none, outline-place}
use Rattle.kinds.proofs.Marks.{opening-marks}
use Rattle.records.proofs.Forms.{length-place, length-content, length-loop, length-number, length-uncertain}
use Rattle.grammar.specs.Machine.{Rec}
use Rattle.sizes.specs.Sizes.{content_size, store_size, outline_size}
use Rattle.desk.specs.Written.{token_of, decimal_of, shaped, shape_in, record_bytes, content_of}
use Rattle.desk.specs.Desk.{stored_length, shaped_length, record_length}

-- Lengths

shaped-length : (h : Shape) (s : List ℕ) (a n : ℕ) (r : Rec) → length (shaped h s a n r) ≡ suc (shape_length h)
unfolding shaped shape_length
shaped-length Empty s a n r = refl
shaped-length Place s a n r = length-place r.kind (token_of s r)
shaped-length Content s a n r = length-content r.kind (token_of s r) a
shaped-length Count s a n r = length-loop (token_of s r) n
shaped-length Parts s a n r = length-number (token_of s r) (decimal_of s r)
shaped-length PartsUncertain s a n r = length-uncertain (token_of s r) (decimal_of s r)

-- in Read a record has its body; in the outline P, or nothing where the body is empty
module _ (full : Bool) (h : Shape) where
  pub length-read : full ≡ true → 1 + shape_length h ≡ shaped_length full h
  unfolding shaped_length
  length-read e = rw e (omega arith)

  pub length-empty : full ≡ false → shape_length h ≡ 0 → 1 ≡ shaped_length full h
  unfolding shaped_length
  length-empty e z = rw e (omega (arith, outline-none h z))

  pub length-outlined : full ≡ false → 0 < shape_length h → 17 ≡ shaped_length full h
  unfolding shaped_length
  length-outlined e z = rw e (omega (arith, outline-place h z))

-- the shape of a kind's body says how long its record is
pub shape-told : (full : Bool) (k : ℕ) (h : Shape) → shape_of (kind_of k) ≡ h → shaped_length full h ≡ record_length full k
unfolding record_length
shape-told full k h e = sym (ap (shaped_length full) e)

pub record-length : (full : Bool) (s : List ℕ) (a n : ℕ) (r : Rec) (rs : List Rec) → length (record_bytes full s a n r) + stored_length full rs ≡ stored_length full (r ∷ rs)
unfolding record_bytes shape_in stored_length store_size outline_size body_length outline_length
record-length true s a n r rs = ap (λ m. m + store_size rs) (shaped-length (shape_of (kind_of r.kind)) s a n r)
record-length false s a n r rs = ap (λ m. m + outline_size rs) (shaped-length (outline_shape (shape_of (kind_of r.kind))) s a n r)

pub store-none : (full : Bool) → stored_length full [] ≡ 0
unfolding stored_length store_size outline_size
store-none true = refl
store-none false = refl

-- a content lies inside its token
pub content-inside : (k n : ℕ) → content_size k n ≤ n - marks_of (kind_of k)
unfolding content_size
content-inside k n = by (has_content k)
  where
    by : (t : Bool) → cond t (n - marks_of (kind_of k)) 0 ≤ n - marks_of (kind_of k)
    by true = omega arith
    by false = omega arith

pub content-length : (s : List ℕ) (r : Rec) → r.at + r.size ≤ length s → length (content_of s r) ≡ content_size r.kind r.size
unfolding content_of
content-length s r h =
    let o = opening (kind_of r.kind) in
    let n = content_size r.kind r.size in
    let k : n ≤ r.size - marks_of (kind_of r.kind) = content-inside r.kind r.size in
    let m : o ≤ marks_of (kind_of r.kind) = opening-marks (kind_of r.kind) in
    omega (arith, length-take n (drop (r.at + o) s), length-drop (r.at + o) s)
