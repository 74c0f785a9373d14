-- What a number's meaning keeps to, and words that show by their first bytes that they are no numbers. Assumes nothing.
use Prim.Native.Nat.{ℕ, ◌^◌, ◌≤◌, ◌<◌}
use mathlib.Core.Path.{◌≡◌, refl, sym, ap, ◌∙◌}
use mathlib.Core.Bool.{Bool, true, false, cond, not, ◌&&◌, ◌||◌, and-false, true≢false}
use mathlib.Core.List.{List, [], ◌∷◌}
use native.Mathlib.Omega.{arith}
use lib.Dec.{eqb}
use lib.ListN.{length, get_or}
use borrow.Author.Tests.{eqb-false, not-true}
use Rattle.rules.specs.declared.Reading.{Reading}
use Rattle.rules.specs.declared.Reading.TheVariants.{First, Strict}
use Rattle.text.specs.Bytes.{is_digit, is}
use Rattle.text.proofs.Bools.{and_l, and_r, or_l, or_r}
use Rattle.numbers.specs.declared.Decimal.{Decimal}
use Rattle.cuts.specs.declared.Cuts.{Cuts}
use Rattle.numbers.specs.declared.Number.TheVariants.{Not, Is, Over}
use Rattle.numbers.specs.Parts.{Parts, cut, digits, sign, point, is_empty, parts, is_number, is_numeric, counts_as, within, minus}
use Rattle.cuts.specs.Digits.{value, piece}
use Rattle.numbers.specs.Meaning.{meaning, judged, number_of}
use Rattle.cuts.specs.Cuts.{cuts_of, Sound}
use Rattle.numbers.specs.Pieces.{starts_number, part_of, parts_of}
use Rattle.cuts.proofs.DigitRuns.{piece-length, run-below, run_fits}
use Rattle.cuts.proofs.Bounds.{cuts-sound}
use Rattle.numbers.proofs.Limits.{Limits, limits}
use Rattle.numbers.proofs.Bridge.{parts_cuts}

-- the bounds that every meaning keeps
pub record Bounded (d : Decimal) : Type 0 where
  pub integer : d.integer < 10 ^ 9
  pub fraction : d.fraction < 10 ^ d.places
  pub places : d.places ≤ 18
  pub exponent : d.exponent < 10 ^ 9
  pub uncertainty : d.uncertainty < 10 ^ 9
  pub lowers : d.lowers ≡ true → 0 < d.exponent

not-zero : (n : ℕ) (t : Bool) → (t && not (eqb n 0)) ≡ true → 0 < n
not-zero n t e = omega (arith, eqb-false n 0 (not-true (eqb n 0) (and_r t (not (eqb n 0)) e)))

cuts-bounded : (w : List ℕ) (k : Cuts) → Sound w k → within (parts_of w k) ≡ true → Bounded (meaning (parts_of w k))
unfolding meaning parts_of part_of
cuts-bounded w k s e =
    let h : Limits k = limits w k s e in
    let n = piece-length w k.point k.fraction s.fraction.to in
    record {
      integer = run_fits 9 s.integer h.integer;
      fraction = rw n (run-below s.fraction);
      places = rw n h.fraction;
      exponent = run_fits 9 s.exponent h.exponent;
      uncertainty = run_fits 9 s.uncertainty h.uncertainty;
      lowers = not-zero (value (piece w k.exponent.digits k.exponent.end)) (minus (piece w k.exponent.sign k.exponent.digits));
    }

-- a number of either reading is one of the first
pub counts-number : (r : Reading) (p : Parts) → counts_as r p ≡ true → is_number p ≡ true
unfolding is_numeric
counts-number First p e = e
counts-number Strict p e = and_l (is_number p) _ e

pub counts-none : (r : Reading) (p : Parts) → is_number p ≡ false → counts_as r p ≡ false
unfolding is_numeric
counts-none First p e = e
counts-none Strict p e = rw e

-- what each answer says of the parts

pub record IsNumber (w : List ℕ) (d : Decimal) : Type 0 where
  pub number : is_number (parts w) ≡ true
  pub kept : within (parts w) ≡ true
  pub means : meaning (parts w) ≡ d
  pub uncertain : d.uncertain ≡ (parts w).unc.here

apart : ◌≡◌ {A = ℕ} 0 1 → ⊥
apart e = omega arith

pub is-number : (r : Reading) (w : List ℕ) (d : Decimal) → number_of r w ≡ Is d → IsNumber w d
unfolding number_of judged meaning
is-number r w d e = by (counts_as r (parts w)) (within (parts w)) refl refl e
  where
    by : (t u : Bool) → counts_as r (parts w) ≡ t → within (parts w) ≡ u → cond t (cond u (Is (meaning (parts w))) Over) Not ≡ Is d → IsNumber w d
    by true true p q e = let m : meaning (parts w) ≡ d = cc in record { number = counts-number r (parts w) p; kept = q; means = m; uncertain = ap (λ (x : Decimal). x.uncertain) (sym m) }
    by true false p q e = absurd (apart (cc))
    by false u p q e = absurd (apart (cc))

pub is-over : (r : Reading) (w : List ℕ) → number_of r w ≡ Over → (counts_as r (parts w) ≡ true) × (within (parts w) ≡ false)
unfolding number_of judged
is-over r w e = by (counts_as r (parts w)) (within (parts w)) refl refl e
  where
    by : (t u : Bool) → counts_as r (parts w) ≡ t → within (parts w) ≡ u → cond t (cond u (Is (meaning (parts w))) Over) Not ≡ Over → (counts_as r (parts w) ≡ true) × (within (parts w) ≡ false)
    by true true p q e = absurd (apart (cc))
    by true false p q e = (p, q)
    by false u p q e = absurd (apart (cc))

pub is-not : (r : Reading) (w : List ℕ) → number_of r w ≡ Not → counts_as r (parts w) ≡ false
unfolding number_of judged
is-not r w e = by (counts_as r (parts w)) (within (parts w)) refl e
  where
    by : (t u : Bool) → counts_as r (parts w) ≡ t → cond t (cond u (Is (meaning (parts w))) Over) Not ≡ Not → counts_as r (parts w) ≡ false
    by true true p e = absurd (apart (cc))
    by true false p e = absurd (apart (cc))
    by false u p e = p

pub not-number : (r : Reading) (w : List ℕ) → is_number (parts w) ≡ false → number_of r w ≡ Not
unfolding number_of judged
not-number r w e = rw (counts-none r (parts w) e)

pub number-facts : (r : Reading) (w : List ℕ) (d : Decimal) → number_of r w ≡ Is d → Bounded d
number-facts r w d e =
    let n : IsNumber w d = is-number r w d e in
    rw n.means at (rw (← parts_cuts w) at (cuts-bounded w (cuts_of w) (cuts-sound w) (rw (parts_cuts w) at n.kept)))

-- words that are no numbers

-- the first byte is neither digit, sign nor point, or there is none
pub no-number-by-first-byte : (w : List ℕ) → starts_number (get_or w 0 0) ≡ false → is_number (parts w) ≡ false
unfolding is_number is_empty parts sign digits point starts_number cut
no-number-by-first-byte [] e = rw and-false
no-number-by-first-byte (b ∷ w) e =
    let signed : (is 43 b || (is 45 b || is 46 b)) ≡ false = or_r (is_digit b) _ e in
    let rest : (is 45 b || is 46 b) ≡ false = or_r (is 43 b) _ signed in
    rw (or_l (is 43 b) _ signed, or_l (is 45 b) _ rest, or_l (is_digit b) _ e, or_r (is 45 b) _ rest, and-false)

-- a point without a digit behind it
pub dot-alone : (w : List ℕ) → is_digit (get_or w 0 0) ≡ false → is_number (parts (46 ∷ w)) ≡ false
unfolding is_number is_empty parts sign digits point is_digit is cut
dot-alone [] e = rw and-false
dot-alone (b ∷ w) e = rw (e, and-false)

-- so a number has a byte
pub number-has-byte : (w : List ℕ) → is_number (parts w) ≡ true → 0 < length w
number-has-byte [] e = absurd (true≢false (sym e ∙ no-number-by-first-byte [] (unfold starts_number is_digit is in refl)))
number-has-byte (b ∷ w) e = omega arith
