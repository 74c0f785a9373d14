-- Laws of the records' bytes: their lengths, and how they come about field by field. Assumes nothing.
use Prim.Native.Nat.{ℕ, zero, suc, ◌+◌, ◌-◌, ◌%◌, ◌/◌, ◌≤◌, ◌<◌}
use mathlib.Core.Path.{◌≡◌, refl, ◌∙◌}
use mathlib.Core.Bool.{Bool, true, false}
use mathlib.Core.List.{List, [], ◌∷◌, ◌++◌, append_assoc}
use native.Mathlib.Omega.{arith}
use Rattle.std.specs.Int.{w64, to_le_bytes}
use mir.Val.{bool_byte}
use lib.ListN.{length}
use Rattle.numbers.specs.declared.Decimal.{Decimal}
use Rattle.kinds.specs.declared.Shape.TheVariants.{Place, Content}
use Rattle.records.specs.declared.Token.{Token}
use Rattle.kinds.proofs.Numbering.{outline-place}
use Rattle.kinds.specs.Kinds.{kind_of, shape_of, shape_length, body_length, outline_length}
use Rattle.records.specs.Bytes.{le32, le64, signed32, flag}
use Rattle.records.specs.Put.{front, put}
use Rattle.records.specs.Records.{token_bytes, decimal_bytes, end_record, place_record, content_record, loop_record, number_record, uncertain_record}
use Rattle.records.proofs.Putting.{put-more, front-next}

pub length-long : (v : ℕ) → length (le64 v) ≡ 8
unfolding le64 le32
length-long v = refl

pub length-token : (t : Token) → length (token_bytes t) ≡ 16
unfolding token_bytes le32
length-token t = refl

pub length-decimal : (d : Decimal) → length (decimal_bytes d) ≡ 18
unfolding decimal_bytes le64 signed32 le32
length-decimal d = refl

pub length-place : (k : ℕ) (t : Token) → length (place_record k t) ≡ 17
unfolding place_record token_bytes le32
length-place k t = refl

pub length-content : (k : ℕ) (t : Token) (a : ℕ) → length (content_record k t a) ≡ 21
unfolding content_record token_bytes le32
length-content k t a = refl

pub length-loop : (t : Token) (n : ℕ) → length (loop_record t n) ≡ 21
unfolding loop_record token_bytes le32
length-loop t n = refl

pub length-number : (t : Token) (d : Decimal) → length (number_record t d) ≡ 35
unfolding number_record token_bytes decimal_bytes le64 signed32 le32
length-number t d = refl

pub length-uncertain : (t : Token) (d : Decimal) → length (uncertain_record t d) ≡ 39
unfolding uncertain_record token_bytes decimal_bytes le64 signed32 le32
length-uncertain t d = refl

-- so each is its kind's byte and a body of the kind's length
pub end_whole : length end_record ≡ 1 + body_length 7
unfolding end_record body_length kind_of shape_of shape_length
end_whole = refl

pub place-whole : (k : ℕ) (t : Token) → shape_of (kind_of k) ≡ Place → length (place_record k t) ≡ 1 + body_length k
unfolding body_length shape_length
place-whole k t shape = rw shape (length-place k t)

pub content-whole : (k : ℕ) (t : Token) (a : ℕ) → shape_of (kind_of k) ≡ Content → length (content_record k t a) ≡ 1 + body_length k
unfolding body_length shape_length
content-whole k t a shape = rw shape (length-content k t a)

pub loop-whole : (t : Token) (n : ℕ) → length (loop_record t n) ≡ 1 + body_length 5
unfolding body_length kind_of shape_of shape_length
loop-whole t n = length-loop t n

pub number-whole : (t : Token) (d : Decimal) → length (number_record t d) ≡ 1 + body_length 14
unfolding body_length kind_of shape_of shape_length
number-whole t d = length-number t d

pub uncertain-whole : (t : Token) (d : Decimal) → length (uncertain_record t d) ≡ 1 + body_length 15
unfolding body_length kind_of shape_of shape_length
uncertain-whole t d = length-uncertain t d

-- in the outline every record but kind 7 is its kind's byte and P
pub outline-whole : (k : ℕ) (t : Token) → 0 < body_length k → length (place_record k t) ≡ 1 + outline_length k
unfolding body_length outline_length
outline-whole k t h = rw (outline-place (shape_of (kind_of k)) h) (length-place k t)

-- a flag is the byte that std makes of it
pub flag-byte : (b : Bool) → bool_byte b ≡ flag b
unfolding flag
flag-byte true = refl
flag-byte false = refl

-- a two's complement
pub negated : (r n : ℕ) → (r + n) % 4294967296 ≡ 0 → r < 4294967296 → n < 4294967296 → le32 r ≡ le32 (4294967296 - n)
unfolding le32
negated r zero e h k = let z : r ≡ 0 = omega arith in rw z
negated r (suc n) e h k = let z : r ≡ 4294967296 - suc n = omega arith in rw z

-- eight bytes are two fours
pub long-bytes : (v : ℕ) → to_le_bytes w64 v ≡ le64 v
unfolding le64 le32
long-bytes v =
    let a : v % 256 ≡ v % 4294967296 % 256 = omega arith in
    let b : v / 256 % 256 ≡ v % 4294967296 / 256 % 256 = omega arith in
    let c : v / 65536 % 256 ≡ v % 4294967296 / 65536 % 256 = omega arith in
    let d : v / 16777216 % 256 ≡ v % 4294967296 / 16777216 % 256 = omega arith in
    let e : v / 1099511627776 % 256 ≡ v / 4294967296 / 256 % 256 = omega arith in
    let f : v / 281474976710656 % 256 ≡ v / 4294967296 / 65536 % 256 = omega arith in
    let g : v / 72057594037927936 % 256 ≡ v / 4294967296 / 16777216 % 256 = omega arith in
    rw (a, b, c, d, e, f, g)

-- a token, number by number
pub token-put : (at : ℕ) (t : Token) (l : List ℕ) → at + 16 ≤ length l → put (at + 12) (le32 t.column) (put (at + 8) (le32 t.line) (put (at + 4) (le32 t.length) (put at (le32 t.offset) l))) ≡ put at (token_bytes t) l
unfolding token_bytes le32
token-put at t l h =
    let a = le32 t.offset in
    let b = le32 t.length in
    let c = le32 t.line in
    rw (
      put-more at a b l (omega arith),
      put-more at (a ++ b) c l (omega arith),
      put-more at (a ++ (b ++ c)) (le32 t.column) l (omega arith),
    )

-- decimal parts, part by part
pub decimal-put : (at : ℕ) (d : Decimal) (l : List ℕ) → at + 18 ≤ length l → put (at + 14) (signed32 d.lowers d.exponent) (put (at + 13) (d.places ∷ []) (put (at + 5) (le64 d.fraction) (put (at + 1) (le32 d.integer) (put at (flag d.minus ∷ []) l)))) ≡ put at (decimal_bytes d) l
unfolding decimal_bytes le64 signed32 le32
decimal-put at d l h =
    let a = flag d.minus ∷ [] in
    let b = le32 d.integer in
    let c = le64 d.fraction in
    let e = d.places ∷ [] in
    rw (
      put-more at a b l (omega arith),
      put-more at (a ++ b) c l (omega arith),
      put-more at (a ++ (b ++ c)) e l (omega arith),
      put-more at (a ++ (b ++ (c ++ e))) (signed32 d.lowers d.exponent) l (omega arith),
    )

-- a record: its kind and P, then what follows
pub place-front : (k : ℕ) (t : Token) (l : List ℕ) → put 1 (token_bytes t) (put 0 (k ∷ []) l) ≡ front (place_record k t) l
unfolding place_record put
place-front k t l = front-next 1 (k ∷ []) (token_bytes t) l refl

pub place-next : (k : ℕ) (t : Token) (ws l : List ℕ) → put 17 ws (front (place_record k t) l) ≡ front (k ∷ (token_bytes t ++ ws)) l
place-next k t ws l = front-next 17 (place_record k t) ws l (length-place k t) ∙ unfold place_record in refl

pub parts_next : (k : ℕ) (t : Token) (d : Decimal) (ws l : List ℕ) → put 35 ws (front (k ∷ (token_bytes t ++ decimal_bytes d)) l) ≡ front (k ∷ (token_bytes t ++ (decimal_bytes d ++ ws))) l
parts_next k t d ws l =
    front-next 35 (k ∷ (token_bytes t ++ decimal_bytes d)) ws l (unfold token_bytes decimal_bytes le64 signed32 le32 in refl)
    ∙ rw append_assoc

-- a loop's end is its kind alone
pub end-kind : end_record ≡ 7 ∷ []
unfolding end_record
end-kind = refl
