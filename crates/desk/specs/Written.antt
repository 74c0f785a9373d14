-- What is written of one record (document 01, 'Records'): its bytes in the store, and its content. Content, decimal parts and places are functions of the text and
-- of a record's kind, offset and length. The flag `full` tells Read's bodies from the outline's, which are P alone. Assumes nothing.
use Rattle.std.specs.Prelude.{ℕ, ◌+◌, Bool, true, false, cond, List, [], ◌∷◌, take, drop}
use Rattle.places.specs.declared.Place.{Place}
use Rattle.places.specs.Places.{place_at}
use Rattle.numbers.specs.declared.Decimal.{Decimal}
use Rattle.numbers.specs.Parts.{parts}
use Rattle.numbers.specs.Meaning.{meaning}
use Rattle.kinds.specs.declared.Shape.{Shape}
use Rattle.kinds.specs.declared.Shape.TheVariants.{Empty, Place as PlaceAlone, Content, Count, Parts, PartsUncertain}
use Rattle.records.specs.declared.Token.{Token}
use Rattle.kinds.specs.Kinds.{kind_of, shape_of, outline_shape, opening}
use Rattle.records.specs.Records.{place_record, content_record, loop_record, number_record, uncertain_record}
use Rattle.grammar.specs.Machine.{Rec}
use Rattle.sizes.specs.Sizes.{content_size}

-- P of a record: the place of the whole token, marks included
unfoldable pub token_of : List ℕ → Rec → Token
token_of s r = record { offset = r.at; length = r.size; line = (place_at s r.at).line; column = (place_at s r.at).column }

-- the bytes of a record's token
unfoldable pub token_text : List ℕ → Rec → List ℕ
token_text s r = take r.size (drop r.at s)

-- the token less its marks, for the kinds that have content
unfoldable pub content_of : List ℕ → Rec → List ℕ
content_of s r = take (content_size r.kind r.size) (drop (r.at + opening (kind_of r.kind)) s)

unfoldable pub decimal_of : List ℕ → Rec → Decimal
decimal_of s r = meaning (parts (token_text s r))

-- P of a token of n bytes at a place
unfoldable pub token_at : Place → ℕ → Token
token_at p n = record { offset = p.offset; length = n; line = p.line; column = p.column }

-- the bytes of a record with content, of a loop: P alone in the outline
unfoldable pub content_bytes : Bool → ℕ → Token → ℕ → List ℕ
content_bytes full k t a = cond full (content_record k t a) (place_record k t)

unfoldable pub loop_bytes : Bool → Token → ℕ → List ℕ
loop_bytes full t n = cond full (loop_record t n) (place_record 5 t)

-- and of a number in Read
unfoldable pub number_bytes : Token → Decimal → List ℕ
number_bytes t d = cond d.uncertain (uncertain_record t d) (number_record t d)

-- a record's bytes by its shape: a is the area offset, n the number of tags
unfoldable pub shaped : Shape → List ℕ → ℕ → ℕ → Rec → List ℕ
shaped Empty s a n r = r.kind ∷ []
shaped PlaceAlone s a n r = place_record r.kind (token_of s r)
shaped Content s a n r = content_record r.kind (token_of s r) a
shaped Count s a n r = loop_record (token_of s r) n
shaped Parts s a n r = number_record (token_of s r) (decimal_of s r)
shaped PartsUncertain s a n r = uncertain_record (token_of s r) (decimal_of s r)

-- in the outline every body is P, except kind 7 with none
unfoldable pub shape_in : Bool → ℕ → Shape
shape_in true k = shape_of (kind_of k)
shape_in false k = outline_shape (shape_of (kind_of k))

unfoldable pub record_bytes : Bool → List ℕ → ℕ → ℕ → Rec → List ℕ
record_bytes full s a n r = shaped (shape_in full r.kind) s a n r
