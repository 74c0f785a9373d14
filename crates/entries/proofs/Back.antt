-- What is written is read: each record form, at any offset of any bytes, gives back its kind, token, number and decimal parts. Assumes nothing.
use Prim.Native.Nat.{ℕ, ◌+◌, ◌-◌, ◌*◌, ◌%◌, ◌/◌, ◌≤◌, ◌<◌}
use mathlib.Core.Path.{◌≡◌, refl, ◌∙◌}
use mathlib.Core.Bool.{true, cond}
use mathlib.Core.List.{List, [], ◌∷◌, ◌++◌, append_assoc}
use native.Mathlib.Omega.{arith}
use borrow.Author.Tests.{le-leb}
use lib.Dec.{ltb}
use lib.ListN.{length, drop, length-append}
use Rattle.numbers.specs.declared.Decimal.{Decimal}
use Rattle.kinds.specs.declared.Kind.{Kind}
use Rattle.kinds.specs.declared.Kind.TheVariants.{NoKind, Block, FrameOpen, FrameClose, Tag, Loop, LoopTag, LoopEnd, Inapplicable, Unknown, Bare, SingleQuoted, DoubleQuoted, Multiline, Number, Uncertain, Quoted}
use Rattle.kinds.specs.declared.Shape.{Shape}
use Rattle.kinds.specs.declared.Shape.TheVariants.{Empty, Place, Content, Count, Parts, PartsUncertain}
use Rattle.records.specs.declared.Token.{Token}
use Rattle.kinds.specs.Kinds.{kind_of, shape_of, shape_length, body_length}
use Rattle.records.specs.Bytes.{le32, le64, signed32}
use Rattle.records.specs.Records.{token_bytes, decimal_bytes, end_record, place_record, content_record, loop_record, number_record, uncertain_record}
use Rattle.records.proofs.Forms.{length-token, length-decimal}
use Rattle.entries.specs.Entries.{de32, de64, token_of, parts_of, stored, no_parts, no_fields, plain_fields, parts_fields, fields_of, is_kind, entry_of, entry_at, whole}

digits : (v a b c d p q r s m : ℕ) → v ≡ a + p * 256 → p ≡ b + q * 256 → q ≡ c + r * 256 → r ≡ d + s * 256 → v ≡ m + s * 4294967296 → a + b * 256 + c * 65536 + d * 16777216 ≡ m
digits v a b c d p q r s m e f g h i = omega arith

-- four bytes keep a number's low 32 bits
pub de32-low : (v : ℕ) (l : List ℕ) → de32 (le32 v ++ l) ≡ v % 4294967296
unfolding de32 le32
de32-low v l =
    digits v
    (v % 256)
    (v / 256 % 256)
    (v / 65536 % 256)
    (v / 16777216 % 256)
    (v / 256)
    (v / 65536)
    (v / 16777216)
    (v / 4294967296)
    (v % 4294967296)
    (omega arith)
    (omega arith)
    (omega arith)
    (omega arith)
    (omega arith)

pub de32-back : (v : ℕ) (l : List ℕ) → v < 4294967296 → de32 (le32 v ++ l) ≡ v
de32-back v l h = omega (arith, de32-low v l)

drop-le32 : (v : ℕ) (l : List ℕ) → drop 4 (le32 v ++ l) ≡ l
unfolding le32
drop-le32 v l = refl

pub de64-back : (v : ℕ) (l : List ℕ) → v < 18446744073709551616 → de64 (le64 v ++ l) ≡ v
unfolding de64 le64
de64-back v l h =
    rw (
      append_assoc,
      drop-le32,
      de32-back (v % 4294967296) (le32 (v / 4294967296) ++ l) (omega arith),
      de32-back (v / 4294967296) l (omega arith),
    )
    (omega arith)

-- a token's numbers fit into their bytes
pub record Fits (t : Token) : Type 0 where
  pub offset : t.offset < 4294967296
  pub length : t.length < 4294967296
  pub line : t.line < 4294967296
  pub column : t.column < 4294967296

-- so do a number's, but for its exponent, which is stored as four bytes keep it
pub record Small (d : Decimal) : Type 0 where
  pub integer : d.integer < 4294967296
  pub fraction : d.fraction < 18446744073709551616
  pub uncertainty : d.uncertainty < 4294967296

pub token_back : (t : Token) (l : List ℕ) → Fits t → token_of (token_bytes t ++ l) ≡ t
unfolding token_of token_bytes le32
token_back t l h =
    let c = le32 t.column ++ l in
    let b = le32 t.line ++ c in
    let a = le32 t.length ++ b in
    rw (
      de32-back t.offset a h.offset,
      de32-back t.length b h.length,
      de32-back t.line c h.line,
      de32-back t.column l h.column,
    )

pub parts-back : (d : Decimal) (u : ℕ) (l : List ℕ) → Small d → parts_of (decimal_bytes d ++ l) u ≡ stored d u
unfolding parts_of decimal_bytes stored le64 signed32 le32
parts-back d u l h =
    let c = signed32 d.lowers d.exponent ++ l in
    let b = le64 d.fraction ++ (d.places ∷ c) in
    rw (
      de32-back d.integer b h.integer,
      de64-back d.fraction (d.places ∷ c) h.fraction,
      de32-low (cond d.lowers (4294967296 - d.exponent) d.exponent) l,
    )

-- a kind whose body is not empty is a kind
shaped : (k : Kind) → ltb 0 (shape_length (shape_of k)) ≡ true → is_kind k ≡ true
unfolding is_kind shape_of shape_length
shaped NoKind e = e
shaped Block e = refl
shaped FrameOpen e = refl
shaped FrameClose e = refl
shaped Tag e = refl
shaped Loop e = refl
shaped LoopTag e = refl
shaped LoopEnd e = refl
shaped Inapplicable e = refl
shaped Unknown e = refl
shaped Bare e = refl
shaped SingleQuoted e = refl
shaped DoubleQuoted e = refl
shaped Multiline e = refl
shaped Number e = refl
shaped Uncertain e = refl
shaped Quoted e = refl

-- a kind's byte and a body of its length
laid : (s l : List ℕ) (at k n : ℕ) (b : List ℕ) (shape : Shape) → drop at s ≡ k ∷ (b ++ l) → is_kind (kind_of k) ≡ true → shape_of (kind_of k) ≡ shape → length b ≡ shape_length shape → n ≡ 1 + length b → entry_at s at ≡ whole (kind_of k) (fields_of shape (b ++ l)) (at + n)
unfolding entry_at entry_of body_length
laid s l at k n b shape e known shaped fits all =
    let room : shape_length shape ≤ length (b ++ l) = omega (arith, length-append b l) in
    let next : at + 1 + shape_length shape ≡ at + n = omega arith in
    rw (e, known, shaped, le-leb _ _ room, next)

pub end_back : (s l : List ℕ) (at : ℕ) → drop at s ≡ end_record ++ l → entry_at s at ≡ whole LoopEnd no_fields (at + 1)
unfolding end_record kind_of shape_of shape_length is_kind fields_of
end_back s l at e = laid s l at 7 1 [] Empty e refl refl refl refl

drop_token : (t : Token) (l : List ℕ) → drop 16 (token_bytes t ++ l) ≡ l
unfolding token_bytes le32
drop_token t l = refl

drop-parts : (t : Token) (d : Decimal) (l : List ℕ) → drop 34 (token_bytes t ++ (decimal_bytes d ++ l)) ≡ l
unfolding token_bytes decimal_bytes le64 signed32 le32
drop-parts t d l = refl

length-parts : (t : Token) (d : Decimal) → length (token_bytes t ++ decimal_bytes d) ≡ 34
length-parts t d = simp (length-append, length-token, length-decimal)

length-all : (t : Token) (d : Decimal) (u : ℕ) → length (token_bytes t ++ (decimal_bytes d ++ le32 u)) ≡ 38
length-all t d u = simp (length-append, length-token, length-decimal) (unfold le32 in refl)

-- P with a number behind it
numbered : (t : Token) (a : ℕ) (l : List ℕ) → Fits t → a < 4294967296 → fields_of Content ((token_bytes t ++ le32 a) ++ l) ≡ record { token = t; number = a; parts = no_parts }
unfolding fields_of plain_fields
numbered t a l h small = rw (append_assoc, token_back t (le32 a ++ l) h, drop_token, de32-back a l small)

-- bytes in which a record's form stands at an offset
module _ (s l : List ℕ) (at : ℕ) (t : Token) (h : Fits t) where
  pub place-back : (k : ℕ) → shape_of (kind_of k) ≡ Place → drop at s ≡ place_record k t ++ l → entry_at s at ≡ whole (kind_of k) (record { token = t; number = 0; parts = no_parts }) (at + 17)
  unfolding place_record token_bytes le32 shape_length fields_of plain_fields
  place-back k shape e =
      laid s l at k 17 (token_bytes t) Place e (shaped (kind_of k) (rw shape)) shape refl refl ∙ rw (token_back t l h)

  pub content-back : (k a : ℕ) → a < 4294967296 → shape_of (kind_of k) ≡ Content → drop at s ≡ content_record k t a ++ l → entry_at s at ≡ whole (kind_of k) (record { token = t; number = a; parts = no_parts }) (at + 21)
  unfolding content_record token_bytes le32 shape_length
  content-back k a small shape e =
      laid s l at k 21 (token_bytes t ++ le32 a) Content e (shaped (kind_of k) (rw shape)) shape refl refl
      ∙ rw (numbered t a l h small)

  pub loop-back : (n : ℕ) → n < 4294967296 → drop at s ≡ loop_record t n ++ l → entry_at s at ≡ whole Loop (record { token = t; number = n; parts = no_parts }) (at + 21)
  unfolding loop_record token_bytes le32 shape_length kind_of shape_of is_kind fields_of
  loop-back n small e =
      laid s l at 5 21 (token_bytes t ++ le32 n) Count e refl refl refl refl ∙ rw (numbered t n l h small)

  pub number-back : (d : Decimal) → Small d → drop at s ≡ number_record t d ++ l → entry_at s at ≡ whole Number (record { token = t; number = 0; parts = stored d 0 }) (at + 35)
  unfolding number_record shape_length kind_of shape_of is_kind fields_of parts_fields
  number-back d small e =
      laid s l at 14 35 (token_bytes t ++ decimal_bytes d) Parts e refl refl (length-parts t d) (rw length-parts)
      ∙ rw (append_assoc, token_back t (decimal_bytes d ++ l) h, drop_token, parts-back d 0 l small)

  pub uncertain-back : (d : Decimal) → Small d → drop at s ≡ uncertain_record t d ++ l → entry_at s at ≡ whole Uncertain (record { token = t; number = 0; parts = stored d d.uncertainty }) (at + 39)
  unfolding uncertain_record shape_length kind_of shape_of is_kind fields_of parts_fields
  uncertain-back d small e =
      let u = le32 d.uncertainty in
      laid s l at 15 39 (token_bytes t ++ (decimal_bytes d ++ u)) PartsUncertain e refl refl (length-all t d d.uncertainty) (rw length-all)
      ∙ rw (append_assoc, append_assoc, token_back t (decimal_bytes d ++ (u ++ l)) h, drop_token, drop-parts, de32-back d.uncertainty l small.uncertainty, parts-back d d.uncertainty (u ++ l) small)
