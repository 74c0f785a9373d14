-- Records read back (document 01, 'Records'): what stands at an offset of any bytes. A byte that is no kind, and a
-- body that does not fit, give nothing; sign, fraction digits and exponent come as they are stored, for soundness to
-- judge. Assumes nothing.
use Rattle.std.specs.Prelude.{ℕ, ◌+◌, ◌-◌, ◌*◌, ◌%◌, Bool, cond, ◌&&◌, List, [], ◌∷◌, leb, ltb, length, drop, get_or, Option, Some, None}
use Rattle.numbers.specs.declared.Decimal.{Decimal}
use Rattle.kinds.specs.declared.Kind.{Kind}
use Rattle.kinds.specs.declared.Shape.{Shape}
use Rattle.kinds.specs.declared.Shape.TheVariants.{Empty, Place, Content, Count, Parts as PartsShape, PartsUncertain}
use Rattle.records.specs.declared.Token.{Token}
use Rattle.entries.specs.declared.Parts.{Parts}
use Rattle.entries.specs.declared.Fields.{Fields}
use Rattle.entries.specs.declared.Entry.{Entry}
use Rattle.records.specs.Bytes.{flag}
use Rattle.kinds.specs.Kinds.{kind_of, number_of, shape_of, body_length}

-- the number that the first four bytes give, the lowest first
unfoldable pub de32 : List ℕ → ℕ
de32 b = get_or b 0 0 + get_or b 1 0 * 256 + get_or b 2 0 * 65536 + get_or b 3 0 * 16777216

-- the number that the first eight give
unfoldable pub de64 : List ℕ → ℕ
de64 b = de32 b + de32 (drop 4 b) * 4294967296

-- the size of an exponent that is kept in two's complement
unfoldable pub exponent_size : ℕ → ℕ
exponent_size e = cond (leb 2147483648 e) (4294967296 - e) e

-- P
unfoldable pub token_of : List ℕ → Token
token_of b =
    record { offset = de32 b; length = de32 (drop 4 b); line = de32 (drop 8 b); column = de32 (drop 12 b) }

-- decimal parts, with an uncertainty
unfoldable pub parts_of : List ℕ → ℕ → Parts
parts_of b u =
    record {
      sign = get_or b 0 0;
      integer = de32 (drop 1 b);
      fraction = de64 (drop 5 b);
      places = get_or b 13 0;
      exponent = de32 (drop 14 b);
      uncertainty = u;
    }

abbrev pub no_parts : Parts
no_parts = record { sign = 0; integer = 0; fraction = 0; places = 0; exponent = 0; uncertainty = 0 }

-- what a body holds: nothing; P and a number; P and decimal parts. What it has not is 0
abbrev pub no_fields : Fields
no_fields = record { token = record { offset = 0; length = 0; line = 0; column = 0 }; number = 0; parts = no_parts }

unfoldable pub plain_fields : List ℕ → ℕ → Fields
plain_fields b n = record { token = token_of b; number = n; parts = no_parts }

unfoldable pub parts_fields : List ℕ → ℕ → Fields
parts_fields b u = record { token = token_of b; number = 0; parts = parts_of (drop 16 b) u }

-- the parts that a number is stored as: an exponent by its two's complement
unfoldable pub stored : Decimal → ℕ → Parts
stored d u =
    record {
      sign = flag d.minus;
      integer = d.integer;
      fraction = d.fraction;
      places = d.places;
      exponent = cond d.lowers (4294967296 - d.exponent) d.exponent % 4294967296;
      uncertainty = u;
    }

-- a body by its shape
unfoldable pub fields_of : Shape → List ℕ → Fields
fields_of Empty b = no_fields
fields_of Place b = plain_fields b 0
fields_of Content b = plain_fields b (de32 (drop 16 b))
fields_of Count b = plain_fields b (de32 (drop 16 b))
fields_of PartsShape b = parts_fields b 0
fields_of PartsUncertain b = parts_fields b (de32 (drop 34 b))

-- every kind but `NoKind`
unfoldable pub is_kind : Kind → Bool
is_kind k = ltb 0 (number_of k)

-- a record found
abbrev pub whole : Kind → Fields → ℕ → Option Entry
whole k f next = Some (record { kind = k; fields = f; next = next })

-- the record at the front of bytes that stand at an offset
unfoldable pub entry_of : ℕ → List ℕ → Option Entry
entry_of at [] = None
entry_of at (k ∷ b) =
    cond (is_kind (kind_of k) && leb (body_length k) (length b))
    (whole (kind_of k) (fields_of (shape_of (kind_of k)) b) (at + 1 + body_length k))
    None

-- the record at an offset
unfoldable pub entry_at : List ℕ → ℕ → Option Entry
entry_at s at = entry_of at (drop at s)
