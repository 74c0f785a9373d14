-- What is found where a value may stand: its kind and length, a number over a digit limit, or why there is none; and
-- the same packed into one number. Assumes nothing.
use Rattle.std.specs.Prelude.{ℕ, ◌^◌, ◌<◌, Bool, true, ◌||◌, List, drop, length, ◌≡◌}
use Rattle.rules.specs.declared.Reading.{Reading}
use Rattle.columns.specs.Before.{byte_before, is_parted}
use Rattle.text.specs.Bytes.{is, is_digit, plus_sign, minus_sign}
use Rattle.found.specs.declared.Found.{Found}
use Rattle.found.specs.Packing.{packed_of}
use Rattle.values.specs.Values.{lex_as_value}
use Rattle.values.specs.Answers.{wanted}

-- what is found at offset o
unfoldable pub found_at : Reading → List ℕ → ℕ → Found
found_at r s o = wanted (lex_as_value r (byte_before s o) (drop o s)).class (lex_as_value r (byte_before s o) (drop o s)).size

-- a number, or a bare value, starts with a digit or a sign
unfoldable pub starts_decimal : ℕ → Bool
starts_decimal b = is_digit b || (is plus_sign b || is minus_sign b)

unfoldable pub packed_at : Reading → List ℕ → ℕ → ℕ
packed_at r s o = packed_of (found_at r s o)

-- a value may start at offset o: there is a byte, and space before it where the reading asks for it
pub record Start (r : Reading) (s : List ℕ) (o : ℕ) : Type 0 where
  pub short : length s < 2 ^ 32
  pub within : o < length s
  pub apart : is_parted r (byte_before s o) ≡ true

-- what stands at offset o, if anything does, has space before it where the reading asks for it
pub record Parted (r : Reading) (s : List ℕ) (o : ℕ) : Type 0 where
  pub short : length s < 2 ^ 32
  pub apart : o < length s → is_parted r (byte_before s o) ≡ true
