-- A number is rendered, read, and is the same number. Proved: what is rendered is a number (number_is), within the limits if the decimal keeps them
-- (number-within), its bracket is there when the decimal is uncertain (number-here), and it means that decimal (number-means, number-reads). Assumes nothing.
use Prim.Native.Nat.{ℕ, zero, suc, ◌+◌, ◌-◌, ◌*◌, ◌/◌, ◌%◌, ◌^◌, ◌≤◌, ◌<◌}
use mathlib.Core.Path.{◌≡◌, refl, sym, ◌∙◌}
use mathlib.Core.Bool.{Bool, true, false, not, cond, ◌&&◌, and-true}
use mathlib.Core.List.{List, [], ◌∷◌, ◌++◌}
use native.Mathlib.Omega.{arith}
use borrow.Author.Tests.{eqb-true, le-leb, ne_eqb}
use lib.Dec.{eqb}
use lib.ListN.{length, length-append}
use Rattle.text.specs.Bytes.{is_digit, is}
use Rattle.text.proofs.Bools.{and_r}
use Rattle.numbers.specs.declared.Decimal.{Decimal}
use Rattle.rules.specs.declared.Reading.TheVariants.{First}
use Rattle.numbers.specs.Parts.{Part, absent, is_empty, Parts, parts, is_number, within, minus as is_minus}
use Rattle.cuts.specs.Digits.{value_from, value}
use Rattle.numbers.specs.declared.Number.TheVariants.{Is}
use Rattle.numbers.specs.Meaning.{meaning, judged, number_of}
use Rattle.numbers.specs.Cif.{all_digits, Sign, unsigned, minus}
use Rattle.numbers.specs.Spelling.{padded, trim, plain, sign_bytes, unc_bytes, exp_bytes, frac_bytes, render_number, Kept}
use Rattle.numbers.proofs.Spell.{Bracket, unbracketed, bracketed, Exponent, unscaled, scaled, Point, whole, pointed, parts-spell, not-empty}

-- The digits of a number

value-append : (a : ℕ) (xs ys : List ℕ) → value_from a (xs ++ ys) ≡ value_from (value_from a xs) ys
unfolding value_from
value-append a [] ys = refl
value-append a (x ∷ xs) ys = value-append (a * 10 + (x - 48)) xs ys

pub value-padded : (k n : ℕ) → n < 10 ^ k → value (padded k n) ≡ n
unfolding value value_from padded
value-padded zero n h = omega arith
value-padded (suc k) n h =
    let ih : value (padded k (n / 10)) ≡ n / 10 = value-padded k (n / 10) (omega arith) in
    value-append 0 (padded k (n / 10)) ((48 + n % 10) ∷ []) ∙ rw ih (omega arith)

pub length-padded : (k n : ℕ) → length (padded k n) ≡ k
unfolding padded
length-padded zero n = refl
length-padded (suc k) n = length-append (padded k (n / 10)) ((48 + n % 10) ∷ []) ∙ rw (length-padded k (n / 10)) (omega arith)

digits_append : (xs ys : List ℕ) → all_digits (xs ++ ys) ≡ all_digits xs && all_digits ys
unfolding all_digits
digits_append [] ys = refl
digits_append (x ∷ xs) ys = go (is_digit x) (digits_append xs ys)
  where
    go : (t : Bool) → all_digits (xs ++ ys) ≡ all_digits xs && all_digits ys → t && all_digits (xs ++ ys) ≡ t && all_digits xs && all_digits ys
    go true e = e
    go false e = refl

digit-digit : (n : ℕ) → n < 10 → is_digit (48 + n) ≡ true
unfolding is_digit
digit-digit n h = rw (le-leb 48 (48 + n) (omega arith), le-leb (48 + n) 57 (omega arith))

pub digits-padded : (k n : ℕ) → all_digits (padded k n) ≡ true
unfolding padded all_digits
digits-padded zero n = refl
digits-padded (suc k) n = digits_append (padded k (n / 10)) ((48 + n % 10) ∷ []) ∙ rw (digits-padded k (n / 10), digit-digit (n % 10) (omega arith))

pub value-trim : (ds : List ℕ) → value (trim ds) ≡ value ds
unfolding value trim value_from is
value-trim [] = refl
value-trim (c ∷ []) = refl
value-trim (c ∷ d ∷ ds) = go (eqb c 48) refl (value-trim (d ∷ ds))
  where
    go : (t : Bool) → eqb c 48 ≡ t → value_from 0 (trim (d ∷ ds)) ≡ value_from 0 (d ∷ ds) → value_from 0 (cond t (trim (d ∷ ds)) (c ∷ d ∷ ds)) ≡ value_from 0 (c ∷ d ∷ ds)
    go true e h = rw (eqb-true c 48 e) h
    go false e h = refl

pub digits-trim : (ds : List ℕ) → all_digits ds ≡ true → all_digits (trim ds) ≡ true
unfolding trim all_digits
digits-trim [] h = refl
digits-trim (c ∷ []) h = h
digits-trim (c ∷ d ∷ ds) h = go (is 48 c) (digits-trim (d ∷ ds) (and_r (is_digit c) (all_digits (d ∷ ds)) h))
  where
    go : (t : Bool) → all_digits (trim (d ∷ ds)) ≡ true → all_digits (cond t (trim (d ∷ ds)) (c ∷ d ∷ ds)) ≡ true
    go true k = k
    go false k = h

pub length-trim : (ds : List ℕ) → length (trim ds) ≤ length ds
unfolding trim
length-trim [] = omega arith
length-trim (c ∷ []) = omega arith
length-trim (c ∷ d ∷ ds) = go (is 48 c) (length-trim (d ∷ ds))
  where
    go : (t : Bool) → length (trim (d ∷ ds)) ≤ suc (length ds) → length (cond t (trim (d ∷ ds)) (c ∷ d ∷ ds)) ≤ suc (suc (length ds))
    go true k = omega arith
    go false k = omega arith

pub some-trim : (c : ℕ) (ds : List ℕ) → is_empty (trim (c ∷ ds)) ≡ false
unfolding trim is_empty
some-trim c [] = refl
some-trim c (d ∷ ds) = go (is 48 c) (some-trim d ds)
  where
    go : (t : Bool) → is_empty (trim (d ∷ ds)) ≡ false → is_empty (cond t (trim (d ∷ ds)) (c ∷ d ∷ ds)) ≡ false
    go true k = k
    go false k = refl

-- The rendering

value-plain : (n : ℕ) → n < 10 ^ 9 → value (plain n) ≡ n
unfolding plain
value-plain n h = value-trim (padded 9 n) ∙ value-padded 9 n h

pub digits-plain : (n : ℕ) → all_digits (plain n) ≡ true
unfolding plain
digits-plain n = digits-trim (padded 9 n) (digits-padded 9 n)

length-plain : (n : ℕ) → length (plain n) ≤ 9
unfolding plain
length-plain n = omega (arith, length-trim (padded 9 n), length-padded 9 n)

some-digits : (ds : List ℕ) → 0 < length ds → is_empty (trim ds) ≡ false
some-digits [] h = absurd (omega arith)
some-digits (c ∷ ds) h = some-trim c ds

pub some-plain : (n : ℕ) → is_empty (plain n) ≡ false
unfolding plain
some-plain n = some-digits (padded 9 n) (omega (arith, length-padded 9 n))

pub sign-bytes : (b : Bool) → Sign (sign_bytes b)
unfolding sign_bytes
sign-bytes true = minus
sign-bytes false = unsigned

-- the parts that are rendered
unfoldable pub unc_part : Bool → ℕ → Part
unc_part false u = absent []
unc_part true u = record { here = true; signed = []; run = plain u; left = [] }

unfoldable pub exp_part : Bool → ℕ → List ℕ → Part
exp_part neg zero r = absent r
exp_part neg (suc e) r = record { here = true; signed = sign_bytes neg; run = plain (suc e); left = r }

unfoldable pub frac_part : ℕ → ℕ → List ℕ
frac_part zero f = []
frac_part (suc p) f = padded (suc p) f

unc-spells : (b : Bool) (u : ℕ) → Bracket (unc_bytes b u) (unc_part b u)
unfolding unc_bytes unc_part
unc-spells false u = unbracketed
unc-spells true u = bracketed (plain u) (digits-plain u)

pub exp-spells : (neg : Bool) (e : ℕ) (b : Bool) (u : ℕ) → Exponent (exp_bytes neg e (unc_bytes b u)) (exp_part neg e (unc_bytes b u)) (unc_part b u)
unfolding exp_bytes exp_part is
exp-spells neg zero b u = unscaled (unc-spells b u)
exp-spells neg (suc e) b u = scaled 101 (plain (suc e)) refl (sign-bytes neg) (digits-plain (suc e)) (not-empty (sign_bytes neg) (plain (suc e)) (unc_bytes b u) (some-plain (suc e))) (unc-spells b u)

pub frac-spells : (p f : ℕ) {w : List ℕ} {e u : Part} → Exponent w e u → Point (frac_bytes p f w) (frac_part p f) e u
unfolding frac_bytes frac_part
frac-spells zero f x = whole x
frac-spells (suc p) f x = pointed (padded (suc p) f) (digits-padded (suc p) f) x

rendered : Decimal → Parts
rendered d =
    record {
      sgn = sign_bytes d.minus;
      int = plain d.integer;
      frac = frac_part d.places d.fraction;
      exp = exp_part d.lowers d.exponent (unc_bytes d.uncertain d.uncertainty);
      unc = unc_part d.uncertain d.uncertainty;
    }

parts-rendered : (d : Decimal) → parts (render_number d) ≡ rendered d
unfolding render_number rendered
parts-rendered d =
    parts-spell (plain d.integer) (sign-bytes d.minus) (digits-plain d.integer)
    (frac-spells d.places d.fraction (exp-spells d.lowers d.exponent d.uncertain d.uncertainty))

here-unc : (b : Bool) (u : ℕ) → (unc_part b u).here ≡ b
unfolding unc_part absent
here-unc true u = refl
here-unc false u = refl

left-unc : (b : Bool) (u : ℕ) → (unc_part b u).left ≡ []
unfolding unc_part absent
left-unc true u = refl
left-unc false u = refl

value-unc : (b : Bool) (u : ℕ) → u < 10 ^ 9 → (b ≡ false → u ≡ 0) → value (unc_part b u).run ≡ u
unfolding unc_part absent value value_from
value-unc true u h z = value-plain u h
value-unc false u h z = sym (z refl)

length-unc : (b : Bool) (u : ℕ) → length (unc_part b u).run ≤ 9
unfolding unc_part absent
length-unc true u = length-plain u
length-unc false u = omega arith

value-exp : (neg : Bool) (e : ℕ) (r : List ℕ) → e < 10 ^ 9 → value (exp_part neg e r).run ≡ e
unfolding exp_part absent value value_from
value-exp neg zero r h = refl
value-exp neg (suc e) r h = value-plain (suc e) h

length-exp : (neg : Bool) (e : ℕ) (r : List ℕ) → length (exp_part neg e r).run ≤ 9
unfolding exp_part absent
length-exp neg zero r = omega arith
length-exp neg (suc e) r = length-plain (suc e)

minus-bytes : (b : Bool) → is_minus (sign_bytes b) ≡ b
unfolding is_minus sign_bytes is
minus-bytes true = refl
minus-bytes false = refl

neg-exp : (neg : Bool) (e : ℕ) (r : List ℕ) → (e ≡ 0 → neg ≡ false) → (is_minus (exp_part neg e r).signed && not (eqb e 0)) ≡ neg
unfolding exp_part absent is_minus
neg-exp neg zero r h = sym (h refl)
neg-exp neg (suc e) r h = rw (minus-bytes neg, ne_eqb (suc e) 0 (omega arith)) (and-true neg)

value-frac : (p f : ℕ) → f < 10 ^ p → value (frac_part p f) ≡ f
unfolding frac_part value value_from
value-frac zero f h = omega arith
value-frac (suc p) f h = value-padded (suc p) f h

length-frac : (p f : ℕ) → length (frac_part p f) ≡ p
unfolding frac_part
length-frac zero f = refl
length-frac (suc p) f = length-padded (suc p) f

pub number_is : (d : Decimal) → is_number (parts (render_number d)) ≡ true
unfolding is_number rendered is_empty
number_is d = rw (parts-rendered d, left-unc d.uncertain d.uncertainty, some-plain d.integer)

pub number-within : (d : Decimal) → Kept d → within (parts (render_number d)) ≡ true
unfolding within rendered
number-within d k =
    rw (
      parts-rendered d,
      le-leb _ 9 (length-plain d.integer),
      length-frac d.places d.fraction,
      le-leb d.places 18 k.places,
      le-leb _ 9 (length-exp d.lowers d.exponent (unc_bytes d.uncertain d.uncertainty)),
      le-leb _ 9 (length-unc d.uncertain d.uncertainty),
    )

pub number-here : (d : Decimal) → (parts (render_number d)).unc.here ≡ d.uncertain
unfolding rendered
number-here d = rw (parts-rendered d, here-unc d.uncertain d.uncertainty)

pub number-means : (d : Decimal) → Kept d → meaning (parts (render_number d)) ≡ d
unfolding meaning rendered
number-means d k =
    rw (
      parts-rendered d,
      minus-bytes d.minus,
      value-plain d.integer k.integer,
      value-frac d.places d.fraction k.fraction,
      length-frac d.places d.fraction,
      value-exp d.lowers d.exponent (unc_bytes d.uncertain d.uncertainty) k.exponent,
      neg-exp d.lowers d.exponent (unc_bytes d.uncertain d.uncertainty) k.unsigned,
      here-unc d.uncertain d.uncertainty,
      value-unc d.uncertain d.uncertainty k.uncertainty k.certain,
    )

-- so a word that is rendered from a number is read as that number
pub number-reads : (d : Decimal) → Kept d → number_of First (render_number d) ≡ Is d
unfolding number_of judged
number-reads d k = rw (number_is d, number-within d k, number-means d k)
