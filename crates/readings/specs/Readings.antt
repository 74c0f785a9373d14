-- Document 01's 'Readings to hold us to', with the details of document 02 (One), and readings of that, as one list: what Read answers to each
-- text, with room enough, by number, place and detail, or with its records as the outline program prints them, the two lengths and the
-- area; and what each word says as a value. * marks the readings that 01 stars. Assumes nothing.
use Rattle.std.specs.Prelude.{ℕ, ◌≡◌, Bool, true, false, cond, List, [], ◌∷◌, map, eqb}
use Prim.Native.Char.{code}
use Prim.Native.String.{String, [] as []ˢ, ◌∷◌ as ◌∷ˢ◌}
use Rattle.rules.specs.declared.Reading.TheVariants.{First}
use Rattle.places.specs.declared.Report.{Report}
use Rattle.places.specs.Places.{place_at}
use Rattle.numbers.specs.declared.Decimal.{Decimal}
use Rattle.values.specs.declared.Value.{Value}
use Rattle.values.specs.declared.Value.TheVariants.{Token, Number, Over}
use Rattle.values.specs.Answers.{value_answer}
use Rattle.grammar.specs.Machine.{Rec, Answer, refused, done}
use Rattle.grammar.specs.Reading.{outline}
use Rattle.walking.specs.Writing.{area_of}
use Rattle.reading.specs.Services.{read_answer}

unfoldable pub bytes : String → List ℕ
bytes []ˢ = []
bytes (c ∷ˢ s) = code c ∷ bytes s

-- a record as the outline program prints it
pub data Row : Type 0 where
  row : (kind offset size line column : ℕ) → Row
  loop-end : Row

unfoldable pub row_of : List ℕ → Rec → Row
row_of s r =
    cond (eqb r.kind 7) loop-end (row r.kind r.at r.size (place_at s r.at).line (place_at s r.at).column)

-- what is answered to a text, or says a word where a value is wanted
pub data Seen : Type 0 where
  no : (number offset line column detail : ℕ) → Seen
  yes : List Row → (store area : ℕ) → List ℕ → Seen
  says : Value → Seen

unfoldable pub seen : List ℕ → Report → Answer → Seen
seen s a (refused n o d) = no a.number a.offset a.line a.column a.detail
seen s a (done rs) = yes (map (row_of s) rs) a.first a.second (area_of s rs)

pub data Question : Type 0 where
  text : String → Question
  word : String → Question

-- a text is read into a store and an area of 65,536 bytes each
unfoldable pub asked : Question → Seen
asked (text s) = seen (bytes s) (read_answer First (bytes s) 65536 65536) (outline First (bytes s))
asked (word s) = says (value_answer First 10 (bytes s))

pub record Reading : Type 0 where
  pub question : Question
  pub expected : Seen

unfoldable pub reads : String → Seen → Reading
reads s a = record { question = text s; expected = a }

unfoldable pub means : String → Value → Reading
means s v = record { question = word s; expected = says v }

-- records, the lengths written to the store and to the area, and the area
unfoldable pub done-with : List Row → ℕ → ℕ → String → Seen
done-with rows m k a = yes rows m k (bytes a)

-- a number without signs and exponent: integer, fraction, fraction digits, and the uncertainty, if there is one
unfoldable pub decimal : ℕ → ℕ → ℕ → Bool → ℕ → Decimal
decimal i f p b u =
    record { minus = false; integer = i; fraction = f; places = p; lowers = false; exponent = 0; uncertain = b; uncertainty = u }

unfoldable pub whole : ℕ → Decimal
whole i = decimal i 0 0 false 0

unfoldable pub readings : List Reading
readings =
    -- * the empty text: 3 at 0,1,1
    reads "" (no 3 0 1 1 0)
    -- * read, 21 store bytes, area 0
    ∷ reads "data_" (done-with (row 1 0 5 1 1 ∷ []) 21 0 "")
    -- * 7 at 7,1,8
    ∷ reads "data_x data_y" (no 7 7 1 8 0)
    -- * 8
    ∷ reads "data_x loop_" (no 8 7 1 8 0)
    -- * read, no rows
    ∷ reads "data_x loop_ _a" (done-with (row 1 0 6 1 1 ∷ row 5 7 5 1 8 ∷ row 6 13 2 1 14 ∷ loop-end ∷ []) 64 2 "xa")
    -- * 5, detail 1, at 7,1,8
    ∷ reads "data_x loop_ _a _b 1 2 3" (no 5 7 1 8 1)
    -- * 6 at 7, and by document 02 (One) detail 4
    ∷ reads "data_x _a 'b" (no 6 7 1 8 4)
    -- 7 at 18,1,19, detail 4
    ∷ reads "data_x loop_ _a 1 'b" (no 7 18 1 19 4)
    -- * read, an empty frame
    ∷ reads "data_x save_f _a save_" (done-with (row 1 0 6 1 1 ∷ row 2 7 6 1 8 ∷ row 3 17 5 1 18 ∷ []) 59 2 "xf")
    -- 7 at 19,1,20
    ∷ reads "data_x save_f save_g" (no 7 19 1 20 0)
    -- * values `.` and 5
    ∷ reads "data_x loop_ _a .5." (done-with (row 1 0 6 1 1 ∷ row 5 7 5 1 8 ∷ row 6 13 2 1 14 ∷ row 8 16 1 1 17 ∷ row 14 17 2 1 18 ∷ loop-end ∷ []) 116 2 "xa")
    ∷ means "5." (Number (whole 5) 2)
    -- 7 at 11,1,12
    ∷ reads "data_x _a .5." (no 7 11 1 12 0)
    -- data_x, then form feed: 7 at 6,1,7
    ∷ reads "data_x\u{c}" (no 7 6 1 7 0)
    -- * is 1
    ∷ means "1e+" (Number (whole 1) 3)
    -- * has uncertainty 0
    ∷ means "1()" (Number (decimal 1 0 0 true 0) 3)
    -- has uncertainty 5
    ∷ means "1e(5)" (Number (decimal 1 0 0 true 5) 5)
    -- * is bare
    ∷ means "1e" (Token 10 2)
    -- is a number
    ∷ means "123456789" (Number (whole 123456789) 9)
    -- refused 9
    ∷ means "1234567890" Over
    ∷ reads "data_x _a 1234567890" (no 9 10 1 11 0)
    -- * is bare
    ∷ means "1234567890x" (Token 10 11)
    -- the outline program's example: 183 store bytes and the area tabcx
    ∷ reads "data_t\n_a 1.50(2)\nloop_ _b _c\nx ?\n" (done-with example 183 5 "tabcx")
    ∷ means "1.50(2)" (Number (decimal 1 50 2 true 2) 7)
    -- document 02, One: why no value stands behind a tag: the text ends, a reserved word, a byte that starts none (`_` and form feed
    -- too), a text field that is not closed
    ∷ reads "data_x _a" (no 6 7 1 8 1)
    ∷ reads "data_x _a stop_x" (no 6 7 1 8 2)
    ∷ reads "data_x _a _b 1" (no 6 7 1 8 3)
    ∷ reads "data_x _a\u{c}" (no 6 7 1 8 3)
    ∷ reads "data_x _a ;b" (no 6 7 1 8 5)
    -- why a loop's list ended, directly behind a loop of the block, with rows or without
    ∷ reads "data_x loop_ _a 'b" (no 7 16 1 17 4)
    ∷ reads "data_x loop_ _a 1 data_y" (no 7 18 1 19 2)
    -- nothing behind a frame, behind a tag's value
    ∷ reads "data_x loop_ _a 1 save_f save_ $" (no 7 31 1 32 0)
    ∷ reads "data_x loop_ _a 1 _b 2 $" (no 7 23 1 24 0)
    ∷ []
  where
    example : List Row
    example = row 1 0 6 1 1 ∷ row 4 7 2 2 1 ∷ row 15 10 7 2 4 ∷ row 5 18 5 3 1 ∷ row 6 24 2 3 7 ∷ row 6 27 2 3 10 ∷ row 10 30 1 4 1 ∷ row 9 32 1 4 3 ∷ loop-end ∷ []

-- the claim: each question has its expected answer
unfoldable pub ReadingsHold : Type 0
ReadingsHold = map (λ (r : Reading). asked r.question) readings ≡ map (λ (r : Reading). r.expected) readings
