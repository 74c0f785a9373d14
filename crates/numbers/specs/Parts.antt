-- Numbers (document 01): a word is cut greedily into its parts; a word whose parts leave nothing over, with a digit
-- before or after the point, is a number; in the strict reading exponent and bracket then have digits too, as CIF 1.1
-- has it (document 02, Three). Assumes nothing.
use Rattle.std.specs.Prelude.{ℕ, Bool, true, false, not, cond, ◌&&◌, ◌||◌, List, [], ◌∷◌, leb, length}
use Prim.Native.Char.{code}
use Rattle.rules.specs.declared.Reading.{Reading}
use Rattle.rules.specs.declared.Reading.TheVariants.{First, Strict}
use Rattle.text.specs.Bytes.{is_digit, is, open_bracket, close_bracket, plus_sign, minus_sign, full_stop}

-- what a part took, and what it left
pub record Cut : Type 0 where
  pub got : List ℕ
  pub left : List ℕ

unfoldable pub cut : List ℕ → List ℕ → Cut
cut g l = record { got = g; left = l }

unfoldable pub cons_got : ℕ → Cut → Cut
cons_got b c = cut (b ∷ c.got) c.left

-- the digits that s starts with
unfoldable pub digits : List ℕ → Cut
digits [] = cut [] []
digits (b ∷ s) = let r = cons_got b (digits s) in cond (is_digit b) r (cut [] (b ∷ s))

-- an optional sign, kept as a byte
unfoldable pub sign : List ℕ → Cut
sign [] = cut [] []
sign (b ∷ s) = cond (is plus_sign b || is minus_sign b) (cut (b ∷ []) s) (cut [] (b ∷ s))

-- an optional point and its digits
unfoldable pub point : List ℕ → Cut
point [] = cut [] []
point (b ∷ s) = cond (is full_stop b) (digits s) (cut [] (b ∷ s))

-- an optional part that has a sign and digits, or digits: `none` where it is absent
pub record Part : Type 0 where
  pub here : Bool
  pub signed : List ℕ
  pub run : List ℕ
  pub left : List ℕ

unfoldable pub absent : List ℕ → Part
absent s = record { here = false; signed = []; run = []; left = s }

unfoldable pub signed_digits : Cut → Part
signed_digits c = record { here = true; signed = c.got; run = (digits c.left).got; left = (digits c.left).left }

unfoldable pub is_empty : List ℕ → Bool
is_empty [] = true
is_empty (b ∷ s) = false

-- `e` or `E`, not at the word's end, an optional sign, digits
unfoldable pub exponent : List ℕ → Part
exponent [] = absent []
exponent (b ∷ s) =
    cond ((is (code "e") b || is (code "E") b) && not (is_empty s)) (signed_digits (sign s)) (absent (b ∷ s))

unfoldable pub close : List ℕ → List ℕ → List ℕ → Part
close s g [] = absent s
close s g (b ∷ l) = cond (is close_bracket b) (record { here = true; signed = []; run = g; left = l }) (absent s)

-- `(`, digits, `)`
unfoldable pub bracket : List ℕ → Part
bracket [] = absent []
bracket (b ∷ s) = cond (is open_bracket b) (close (b ∷ s) (digits s).got (digits s).left) (absent (b ∷ s))

-- a word's parts
pub record Parts : Type 0 where
  pub sgn : List ℕ
  pub int : List ℕ
  pub frac : List ℕ
  pub exp : Part
  pub unc : Part

unfoldable pub parts : List ℕ → Parts
parts w =
    let s = sign w in
    let i = digits s.left in
    let f = point i.left in
    let e = exponent f.left in
    record { sgn = s.got; int = i.got; frac = f.got; exp = e; unc = bracket e.left }

-- the word is a number: nothing is left, and a digit stands before or after the point
unfoldable pub is_number : Parts → Bool
is_number p = is_empty p.unc.left && not (is_empty p.int && is_empty p.frac)

-- an exponent, or a bracket, that is there has digits
unfoldable pub written : Part → Bool
written p = not p.here || not (is_empty p.run)

-- a number by CIF 1.1: `1e+` and `1()` are none
unfoldable pub is_numeric : Parts → Bool
is_numeric p = is_number p && (written p.exp && written p.unc)

-- which words are numbers, by the reading
abbrev pub counts_as : Reading → Parts → Bool
counts_as First p = is_number p
counts_as Strict p = is_numeric p

-- the digit limits, by counts
unfoldable pub within : Parts → Bool
within p =
    leb (length p.int) 9 && leb (length p.frac) 18
    && leb (length p.exp.run) 9 && leb (length p.unc.run) 9

-- a sign that is a minus
unfoldable pub minus : List ℕ → Bool
minus [] = false
minus (b ∷ s) = is minus_sign b
