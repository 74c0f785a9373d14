-- Laws of a record that keeps its own rule: where its content lies, what its bytes are, and what limits its decimal
-- parts keep. Assumes nothing.
use Prim.Native.Nat.{ℕ, ◌+◌, ◌-◌, ◌^◌, ◌≤◌, ◌<◌}
use mathlib.Core.Path.{◌≡◌, refl}
use mathlib.Core.Bool.{true, false, cond}
use mathlib.Core.List.{List}
use native.Mathlib.Omega.{arith}
use borrow.Author.Tests.{leb-true, ltb-true, le-leb, lt-leb}
use lib.Dec.{leb, ltb}
use lib.ListN.{length, take, drop, length-take, length-drop}
use Rattle.text.proofs.Bools.{and_l, and_r, or_cases}
use Rattle.kinds.specs.declared.Kind.{Kind}
use Rattle.kinds.specs.Kinds.{shape_of, is_content, marks_of}
use Rattle.entries.specs.declared.Fields.{Fields}
use Rattle.entries.specs.declared.Parts.{Parts}
use Rattle.rules.specs.declared.Reading.{Reading}
use Rattle.readable.specs.Readable.{readable}
use Rattle.contents.specs.Contents.{exponent_kept, parts_kept, content_length, content_bytes, lies, is_inside, is_readable, own_rule}

-- a content's length and its bytes
pub content-length : (k : Kind) (f : Fields) → content_length k f ≡ f.token.length - marks_of k
unfolding content_length
content-length k f = refl

pub content-bytes : (ar : List ℕ) (k : Kind) (f : Fields) → content_bytes ar k f ≡ take (f.token.length - marks_of k) (drop f.number ar)
unfolding content_bytes content_length
content-bytes ar k f = refl

-- a content that lies inside an area of so many bytes
pub record Lies (size : ℕ) (k : Kind) (f : Fields) : Type 0 where
  pub marked : marks_of k ≤ f.token.length
  pub inside : f.number + (f.token.length - marks_of k) ≤ size

pub lies_in : (size : ℕ) (k : Kind) (f : Fields) → lies size k f ≡ true → Lies size k f
unfolding lies content_length
lies_in size k f e =
    let marks = leb (marks_of k) f.token.length in
    record {
      marked = leb-true (marks_of k) f.token.length (and_l marks _ e);
      inside = leb-true (f.number + (f.token.length - marks_of k)) size (and_r marks _ e);
    }

-- it has as many bytes as P says, less the marks
pub content-size : (ar : List ℕ) (k : Kind) (f : Fields) → Lies (length ar) k f → length (content_bytes ar k f) + marks_of k ≡ f.token.length
content-size ar k f h =
    rw (content-bytes ar k f)
    (omega (arith, h.marked, h.inside, length-take (f.token.length - marks_of k) (drop f.number ar), length-drop f.number ar))

-- the own rule as it is judged: by the parts where there is no content, else by where it lies and then by its bytes
module _ (r : Reading) (ar : List ℕ) (k : Kind) (f : Fields) where
  pub rule_parts : is_content (shape_of k) ≡ false → own_rule r ar k f ≡ parts_kept f.parts
  unfolding own_rule is_inside is_readable
  rule_parts e = rw e

  pub rule_outside : is_content (shape_of k) ≡ true → lies (length ar) k f ≡ false → own_rule r ar k f ≡ false
  unfolding own_rule is_inside
  rule_outside e o = rw (e, o)

  pub rule_read : is_content (shape_of k) ≡ true → lies (length ar) k f ≡ true → own_rule r ar k f ≡ readable r k (content_bytes ar k f)
  unfolding own_rule is_inside is_readable
  rule_read e o = rw (e, o)

-- what the own rule of a record with content says, and what that of any other
module _ (r : Reading) (ar : List ℕ) (k : Kind) (f : Fields) (h : own_rule r ar k f ≡ true) where
  pub own-lies : is_content (shape_of k) ≡ true → lies (length ar) k f ≡ true
  unfolding own_rule is_inside
  own-lies e = rw e at (and_l (is_inside (length ar) k f) _ h)

  pub own-inside : is_content (shape_of k) ≡ true → Lies (length ar) k f
  own-inside e = lies_in (length ar) k f (own-lies e)

  pub own-readable : is_content (shape_of k) ≡ true → readable r k (content_bytes ar k f) ≡ true
  unfolding own_rule is_readable
  own-readable e = rw e at (and_r (is_inside (length ar) k f) _ h)

  pub own-parts : is_content (shape_of k) ≡ false → parts_kept f.parts ≡ true
  unfolding own_rule is_readable
  own-parts e = rw e at (and_r (is_inside (length ar) k f) _ h)

-- a record's content, if it has one, lies inside the area
pub own-placed : (r : Reading) (ar : List ℕ) (k : Kind) (f : Fields) → own_rule r ar k f ≡ true → is_inside (length ar) k f ≡ true
unfolding own_rule
own-placed r ar k f h = and_l (is_inside (length ar) k f) _ h

pub placed-in : (size : ℕ) (k : Kind) (f : Fields) → is_inside size k f ≡ true → is_content (shape_of k) ≡ true → Lies size k f
unfolding is_inside
placed-in size k f h e = lies_in size k f (rw e at h)

-- the limits that decimal parts keep; an exponent by its size
pub record Limits (p : Parts) : Type 0 where
  pub integer : p.integer < 10 ^ 9
  pub places : p.places ≤ 18
  pub exponent : cond (leb 2147483648 p.exponent) (4294967296 - p.exponent) p.exponent < 10 ^ 9
  pub uncertainty : p.uncertainty < 10 ^ 9

exponent-few : (e : ℕ) → exponent_kept e ≡ true → cond (leb 2147483648 e) (4294967296 - e) e < 10 ^ 9
unfolding exponent_kept
exponent-few e h = or_cases (ltb e 1000000000) (ltb (4294967296 - 1000000000) e) small large h
  where
    small : ltb e 1000000000 ≡ true → cond (leb 2147483648 e) (4294967296 - e) e < 10 ^ 9
    small t =
        let b : e < 1000000000 = ltb-true e 1000000000 t in
        rw (lt-leb 2147483648 e (omega arith)) (omega arith)

    large : ltb (4294967296 - 1000000000) e ≡ true → cond (leb 2147483648 e) (4294967296 - e) e < 10 ^ 9
    large t =
        let b : 4294967296 - 1000000000 < e = ltb-true (4294967296 - 1000000000) e t in
        rw (le-leb 2147483648 e (omega arith)) (omega arith)

pub parts-limits : (p : Parts) → parts_kept p ≡ true → Limits p
unfolding parts_kept
parts-limits p h =
    let whole = and_r (leb p.sign 1) _ h in
    let places = and_r (ltb p.integer 1000000000) _ whole in
    let fraction = and_r (leb p.places 18) _ places in
    let exponent = and_r (ltb p.fraction (10 ^ p.places)) _ fraction in
    let uncertainty = and_r (exponent_kept p.exponent) _ exponent in
    record {
      integer = ltb-true p.integer 1000000000 (and_l (ltb p.integer 1000000000) _ whole);
      places = leb-true p.places 18 (and_l (leb p.places 18) _ places);
      exponent = exponent-few p.exponent (and_l (exponent_kept p.exponent) _ exponent);
      uncertainty = ltb-true p.uncertainty 1000000000 uncertainty;
    }
