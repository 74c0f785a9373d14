-- The number grammar of the CIF 1.1 syntax specification, rule by rule, in our own words; each rule names the pieces
-- that it puts together and the bytes that they make. The optional sign of the standard's float rule is taken before
-- either point form (document 01). Below it: the meaning of a numeric, and the digit limits. Assumes nothing.
use Rattle.std.specs.Prelude.{ℕ, ◌≡◌, Bool, true, false, not, ◌&&◌, ◌||◌, List, [], ◌∷◌, ◌++◌, leb, eqb, length}
use Prim.Native.Char.{code}
use Rattle.text.specs.Bytes.{is_digit, is, open_bracket, close_bracket, plus_sign, minus_sign, full_stop}
use Rattle.numbers.specs.declared.Decimal.{Decimal}
use Rattle.numbers.specs.Parts.{is_empty, minus as is_minus}
use Rattle.cuts.specs.Digits.{value}

-- digits only
unfoldable pub all_digits : List ℕ → Bool
all_digits [] = true
all_digits (d ∷ ds) = is_digit d && all_digits ds

-- an optional `+` or `-`
pub data Sign : List ℕ → Type 0 where
  unsigned : Sign []
  plus : Sign (plus_sign ∷ [])
  minus : Sign (minus_sign ∷ [])

-- UnsignedInteger: one digit or more
pub record Unsigned (ds : List ℕ) : Type 0 where
  pub all : all_digits ds ≡ true
  pub some : is_empty ds ≡ false

-- Exponent: `e` or `E`, an optional sign, UnsignedInteger. Sign, digits, and the bytes
pub data CifExponent : List ℕ → List ℕ → List ℕ → Type 0 where
  exp : (c : ℕ) {sg ds : List ℕ} → (is (code "e") c || is (code "E") c) ≡ true → Sign sg → Unsigned ds →
      CifExponent sg ds (c ∷ sg ++ ds)

-- an Exponent or nothing
pub data CifOptional : List ℕ → List ℕ → List ℕ → Type 0 where
  without : CifOptional [] [] []
  with-exp : {sg ds x : List ℕ} → CifExponent sg ds x → CifOptional sg ds x

-- Number: Integer or Float. Sign, integer digits, fraction digits, the exponent's sign and digits, and the bytes.
-- Integer: an optional sign, UnsignedInteger. Float: Integer, Exponent; or an optional sign, then digits or none, `.`,
-- UnsignedInteger, or digits, `.`, then an Exponent or nothing
pub data CifNumber : List ℕ → List ℕ → List ℕ → List ℕ → List ℕ → List ℕ → Type 0 where
  integer : {sg i : List ℕ} → Sign sg → Unsigned i → CifNumber sg i [] [] [] (sg ++ i)
  float-exp : {sg i esg e x : List ℕ} → Sign sg → Unsigned i → CifExponent esg e x →
      CifNumber sg i [] esg e ((sg ++ i) ++ x)
  float-frac : {sg i f esg e x : List ℕ} → Sign sg → all_digits i ≡ true → Unsigned f → CifOptional esg e x →
      CifNumber sg i f esg e (sg ++ ((i ++ full_stop ∷ f) ++ x))
  float-point : {sg i esg e x : List ℕ} → Sign sg → Unsigned i → CifOptional esg e x →
      CifNumber sg i [] esg e (sg ++ ((i ++ full_stop ∷ []) ++ x))

-- Numeric: Number, or Number, `(`, UnsignedInteger, `)`. The pieces of Number, the uncertainty's digits, whether there
-- is one, and the bytes
pub data CifNumeric : List ℕ → List ℕ → List ℕ → List ℕ → List ℕ → List ℕ → Bool → List ℕ → Type 0 where
  exact : {sg i f esg e w : List ℕ} → CifNumber sg i f esg e w → CifNumeric sg i f esg e [] false w
  uncertain : {sg i f esg e w : List ℕ} (u : List ℕ) → CifNumber sg i f esg e w → Unsigned u →
      CifNumeric sg i f esg e u true (w ++ (open_bracket ∷ u ++ close_bracket ∷ []))

-- the meaning of a numeric's pieces
unfoldable pub cif_meaning : List ℕ → List ℕ → List ℕ → List ℕ → List ℕ → List ℕ → Bool → Decimal
cif_meaning sg i f esg e u b =
    record {
      minus = is_minus sg;
      integer = value i;
      fraction = value f;
      places = length f;
      lowers = is_minus esg && not (eqb (value e) 0);
      exponent = value e;
      uncertain = b;
      uncertainty = value u;
    }

-- its digit limits
unfoldable pub cif_within : List ℕ → List ℕ → List ℕ → List ℕ → Bool
cif_within i f e u = leb (length i) 9 && leb (length f) 18 && leb (length e) 9 && leb (length u) 9
