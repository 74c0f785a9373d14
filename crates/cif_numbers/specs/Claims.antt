-- What the theorems of this crate claim of a number's record: which token it tells of, and what it says. Assumes nothing.
use Rattle.std.specs.Prelude.{ℕ, ◌≤◌, ◌≡◌, Bool, cond, List, take, drop}
use Rattle.numbers.specs.Cif.{cif_meaning}
use Rattle.kinds.specs.declared.Kind.{Kind}
use Rattle.kinds.specs.declared.Kind.TheVariants.{Number, Uncertain}
use Rattle.kinds.specs.Kinds.{number_of}
use Rattle.entries.specs.declared.Fields.{Fields}
use Rattle.record_lines.specs.Lines.{decimal_of}

-- the bytes of the token that a record of the text s tells of
unfoldable pub token_in : List ℕ → Fields → List ℕ
token_in s f = take f.token.length (drop f.token.offset s)

-- the kinds of numbers: 14, and 15 with uncertainty
unfoldable pub IsNumber : Kind → Type 0
IsNumber k = (14 ≤ number_of k) × (number_of k ≤ 15)

-- a record of kind k says what a numeric of CIF 1.1 with these pieces means
pub record SaysNumeric (k : Kind) (f : Fields) (sg int frac esg e u : List ℕ) (b : Bool) : Type 0 where
  pub kind : k ≡ cond b Uncertain Number
  pub decimal : decimal_of b f.parts ≡ cif_meaning sg int frac esg e u b
