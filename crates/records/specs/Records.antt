-- Records as bytes (document 01, 'Records'): one byte of kind, then a body of the kind's shape. Assumes nothing.
use Rattle.std.specs.Prelude.{ℕ, List, [], ◌∷◌, ◌++◌}
use Rattle.numbers.specs.declared.Decimal.{Decimal}
use Rattle.records.specs.declared.Token.{Token}
use Rattle.records.specs.Bytes.{le32, le64, signed32, flag}

-- P: offset, length, line, column
unfoldable pub token_bytes : Token → List ℕ
token_bytes t = le32 t.offset ++ (le32 t.length ++ (le32 t.line ++ le32 t.column))

-- sign, integer, fraction, fraction digits, signed exponent
unfoldable pub decimal_bytes : Decimal → List ℕ
decimal_bytes d =
    flag d.minus ∷ (le32 d.integer ++ (le64 d.fraction ++ (d.places ∷ signed32 d.lowers d.exponent)))

unfoldable pub end_record : List ℕ
end_record = 7 ∷ []

unfoldable pub place_record : ℕ → Token → List ℕ
place_record k t = k ∷ token_bytes t

unfoldable pub content_record : ℕ → Token → ℕ → List ℕ
content_record k t a = k ∷ (token_bytes t ++ le32 a)

unfoldable pub loop_record : Token → ℕ → List ℕ
loop_record t n = 5 ∷ (token_bytes t ++ le32 n)

unfoldable pub number_record : Token → Decimal → List ℕ
number_record t d = 14 ∷ (token_bytes t ++ decimal_bytes d)

unfoldable pub uncertain_record : Token → Decimal → List ℕ
uncertain_record t d = 15 ∷ (token_bytes t ++ (decimal_bytes d ++ le32 d.uncertainty))
