-- What Read's store and area say. Proved: record by record, the kind, the content and the decimal parts of the text's records (sayings-told). Assumes nothing.
use Prim.Native.Nat.{ℕ, zero, suc, ◌+◌, ◌-◌, ◌≤◌, ◌<◌}
use mathlib.Core.Bool.{Bool, true, false, cond}
use mathlib.Core.Path.{◌≡◌, refl, sym, ap₂, ◌∙◌, subst}
use mathlib.Core.List.{List, [], ◌∷◌, ◌++◌, append_assoc, map}
use native.Mathlib.Omega.{arith}
use lib.ListN.{length, take, drop, length-append, length-take, length-drop}
use lib.Seq.{drop_at, take_at}
use Rattle.rules.specs.declared.Reading.{Reading}
use Rattle.numbers.specs.declared.Decimal.{Decimal}
use Rattle.kinds.specs.declared.Kind.{Kind}
use Rattle.entries.specs.declared.Parts.{Parts}
use Rattle.kinds.specs.declared.Shape.{Shape}
use Rattle.kinds.specs.declared.Shape.TheVariants.{Empty, Place, Content, Count, Parts as PartsShape, PartsUncertain}
use Rattle.kinds.proofs.Marks.{opening-marks}
use Rattle.kinds.specs.Kinds.{kind_of, shape_of, marks_of, opening, is_content, has_content}
use Rattle.entries.specs.Entries.{stored, no_parts}
use Rattle.grammar.specs.Machine.{Rec}
use Rattle.sizes.specs.Sizes.{content_size}
use Rattle.desk.specs.Written.{token_of, content_of, decimal_of}
use Rattle.walking.specs.Writing.{store_of, area_of, tags_of}
use Rattle.contents.specs.Contents.{content_length, content_bytes}
use Rattle.written.specs.Sayings.{Saying, says, content_in, saying, sayings}
use Rattle.written.proofs.Taken.{Outline}
use Rattle.written.proofs.Sources.{Each, none, also, each_map, sources, Facts, facts}
use Rattle.written.proofs.Written.{fields_in, entry_of, written, written_back}

-- the parts that a record of a shape is stored with
unfoldable pub parts_in : Shape → Decimal → Parts
parts_in Empty d = no_parts
parts_in Place d = no_parts
parts_in Content d = no_parts
parts_in Count d = no_parts
parts_in PartsShape d = stored d 0
parts_in PartsUncertain d = stored d d.uncertainty

-- what a record of a text says
unfoldable pub told : List ℕ → Rec → Saying
told s r = says (kind_of r.kind) (content_of s r) (parts_in (shape_of (kind_of r.kind)) (decimal_of s r))

parts_same : (x : Shape) (s : List ℕ) (a n : ℕ) (r : Rec) → (fields_in x s a n r).parts ≡ parts_in x (decimal_of s r)
unfolding fields_in parts_in
parts_same Empty s a n r = refl
parts_same Place s a n r = refl
parts_same Content s a n r = refl
parts_same Count s a n r = refl
parts_same PartsShape s a n r = refl
parts_same PartsUncertain s a n r = refl

module _ (g : Reading) (s : List ℕ) (r : Rec) (h : Facts g s r) where
  part_length : (n at : ℕ) → (0 < n → at + n ≤ length s) → length (take n (drop at s)) ≡ n
  part_length zero at f = refl
  part_length (suc n) at f = simp (length-take, length-drop) (omega (arith, f (omega arith)))

  pub content-length : length (content_of s r) ≡ content_size r.kind r.size
  unfolding content_of content_size
  content-length = by (has_content r.kind)
    where
      k : Kind
      k = kind_of r.kind

      by : (t : Bool) → length (take (cond t (r.size - marks_of k) 0) (drop (r.at + opening k) s)) ≡ cond t (r.size - marks_of k) 0
      by true = part_length (r.size - marks_of k) (r.at + opening k) (λ p. omega (arith, h.within, opening-marks k))
      by false = refl

  module _ (before rest : List ℕ) (a n : ℕ) (at : length before ≡ a) where
    content-same : content_in (before ++ (content_of s r ++ rest)) (kind_of r.kind) (fields_in (shape_of (kind_of r.kind)) s a n r) ≡ content_of s r
    unfolding content_in is_content content_bytes content_length fields_in token_of
    content-same = by (shape_of (kind_of r.kind)) refl
      where
        k : Kind
        k = kind_of r.kind

        ar : List ℕ
        ar = before ++ (content_of s r ++ rest)

        size : (x : Shape) → shape_of k ≡ x → content_size r.kind r.size ≡ cond (is_content x) (r.size - marks_of k) 0
        size x e = unfold content_size has_content in rw e

        empty : (x : Shape) → shape_of k ≡ x → is_content x ≡ false → [] ≡ content_of s r
        empty x e f = unfold content_of in rw (size x e, f)

        by : (x : Shape) → shape_of k ≡ x → cond (is_content x) (content_bytes ar k (fields_in x s a n r)) [] ≡ content_of s r
        by Empty e = empty Empty e refl
        by Place e = empty Place e refl
        by Content e =
            let z : r.size - marks_of k ≡ length (content_of s r) = sym (content-length ∙ size Content e) in
            rw (drop_at before (content_of s r ++ rest) a at, z) (take_at (content_of s r) rest (length (content_of s r)) refl)
        by Count e = empty Count e refl
        by PartsShape e = empty PartsShape e refl
        by PartsUncertain e = empty PartsUncertain e refl

    say-one : saying (before ++ (content_of s r ++ rest)) (entry_of s a n r) ≡ told s r
    unfolding saying entry_of told
    say-one = ap₂ (λ c p. says (kind_of r.kind) c p) content-same (parts_same (shape_of (kind_of r.kind)) s a n r)

say-all : (g : Reading) (s : List ℕ) {rs : List Rec} → Each (Facts g s) rs → (before : List ℕ) (a : ℕ) → length before ≡ a → map (saying (before ++ area_of s rs)) (written s a rs) ≡ map (told s) rs
unfolding written area_of
say-all g s none before a e = refl
say-all g s (also {r = r} {rs = rs} p h) before a e =
    ap₂ {C = List Saying} ◌∷◌ (say-one g s r p before (area_of s rs) a (tags_of rs) e)
    (subst (λ (x : List ℕ). map (saying x) (written s (a + content_size r.kind r.size) rs) ≡ map (told s) rs) (append_assoc before (content_of s r) (area_of s rs))
    (say-all g s h (before ++ content_of s r) (a + content_size r.kind r.size) (simp length-append (omega (arith, content-length g s r p)))))

-- WHAT READ'S STORE SAYS
pub sayings-told : (g : Reading) (s : List ℕ) (rs : List Rec) → Outline g s rs → sayings (store_of true s 0 rs) (area_of s rs) ≡ map (told s) rs
unfolding sayings
sayings-told g s rs h = rw (written_back g s rs h) (say-all g s (each_map (λ r. facts) (sources h.read.taken)) [] 0 refl)
