-- How a number is written when it is rendered (document 01, 'Rendering'): `-` if minus; the integer without leading
-- zeros; `.` and all fraction digits, leading zeros too, if any; `e` and the exponent if it is not 0; the uncertainty
-- in brackets. An integer 0 is written `0`. Assumes nothing.
use Rattle.std.specs.Prelude.{ℕ, zero, suc, ◌+◌, ◌/◌, ◌%◌, ◌^◌, ◌≤◌, ◌<◌, ◌≡◌, Bool, true, false, cond, List, [], ◌∷◌, ◌++◌}
use Prim.Native.Char.{code}
use Rattle.text.specs.Bytes.{is, open_bracket, close_bracket, minus_sign, full_stop, digit_zero}
use Rattle.numbers.specs.declared.Decimal.{Decimal}

-- n's last k digits, with leading zeros
unfoldable pub padded : ℕ → ℕ → List ℕ
padded zero n = []
padded (suc k) n = padded k (n / 10) ++ ((digit_zero + n % 10) ∷ [])

-- without leading zeros, the last digit aside
unfoldable pub trim : List ℕ → List ℕ
trim [] = []
trim (c ∷ []) = c ∷ []
trim (c ∷ d ∷ ds) = let r = trim (d ∷ ds) in cond (is digit_zero c) r (c ∷ d ∷ ds)

-- at most 9 digits, without leading zeros
unfoldable pub plain : ℕ → List ℕ
plain n = trim (padded 9 n)

unfoldable pub sign_bytes : Bool → List ℕ
sign_bytes true = minus_sign ∷ []
sign_bytes false = []

unfoldable pub unc_bytes : Bool → ℕ → List ℕ
unc_bytes false u = []
unc_bytes true u = open_bracket ∷ plain u ++ close_bracket ∷ []

-- the exponent, before the bytes r
unfoldable pub exp_bytes : Bool → ℕ → List ℕ → List ℕ
exp_bytes lowers zero r = r
exp_bytes lowers (suc e) r = (code "e") ∷ sign_bytes lowers ++ (plain (suc e) ++ r)

-- the point and the fraction, before the bytes r
unfoldable pub frac_bytes : ℕ → ℕ → List ℕ → List ℕ
frac_bytes zero f r = r
frac_bytes (suc p) f r = full_stop ∷ padded (suc p) f ++ r

unfoldable pub render_number : Decimal → List ℕ
render_number d =
    let scaled = exp_bytes d.lowers d.exponent (unc_bytes d.uncertain d.uncertainty) in
    sign_bytes d.minus ++ (plain d.integer ++ frac_bytes d.places d.fraction scaled)

-- a number keeps the limits: 9, 18, 9 and 9 digits; a fraction is below 10 to the power of its digits; an exponent of
-- 0 has no sign, an absent uncertainty no size
pub record Kept (d : Decimal) : Type 0 where
  pub integer : d.integer < 10 ^ 9
  pub places : d.places ≤ 18
  pub fraction : d.fraction < 10 ^ d.places
  pub exponent : d.exponent < 10 ^ 9
  pub uncertainty : d.uncertainty < 10 ^ 9
  pub unsigned : d.exponent ≡ 0 → d.lowers ≡ false
  pub certain : d.uncertain ≡ false → d.uncertainty ≡ 0
