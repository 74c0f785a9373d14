-- Words without an exponent: what they mean, by where their digits lie. Assumes nothing.
use Prim.Native.Nat.{ℕ, ◌+◌, ◌-◌, ◌^◌, ◌≤◌, ◌<◌}
use mathlib.Core.Path.{◌≡◌, refl, sym, ap, ◌∙◌}
use mathlib.Core.Bool.{Bool, true, false, ◌||◌}
use mathlib.Core.List.{List}
use native.Mathlib.Omega.{arith}
use lib.Dec.{lit<}
use lib.ListN.{length, get_or}
use Rattle.text.specs.Bytes.{is}
use Rattle.text.proofs.Runs.{past_end}
use Rattle.numbers.specs.declared.Decimal.{Decimal}
use Rattle.numbers.specs.Parts.{parts, within, minus}
use Rattle.cuts.specs.Digits.{value, value_from, piece, after, digits_end, Run}
use Rattle.numbers.specs.Meaning.{meaning}
use Rattle.cuts.specs.Cuts.{nowhere, starts_exponent, exponent_at, bracket_at, cuts_of}
use Rattle.numbers.specs.Pieces.{part_of, parts_of}
use Rattle.cuts.proofs.DigitRuns.{piece-none, piece-length, run-here, run_fits}
use Rattle.cuts.proofs.Bounds.{after-within, byte-within, cuts-sound}
use Rattle.numbers.proofs.Limits.{Limits, limits}
use Rattle.numbers.proofs.Bridge.{parts_cuts}

-- the ends of a word's sign, integer, point and fraction
unfoldable pub sign_end : List ℕ → ℕ
sign_end w = after 43 45 w 0

unfoldable pub integer_end : List ℕ → ℕ
integer_end w = digits_end w (sign_end w)

unfoldable pub point_end : List ℕ → ℕ
point_end w = after 46 46 w (integer_end w)

unfoldable pub fraction_end : List ℕ → ℕ
fraction_end w = digits_end w (point_end w)

-- what a word means that has no exponent, if a bracket is here or not and writes u
unfoldable pub unscaled : List ℕ → Bool → ℕ → Decimal
unscaled w b u =
    record {
      minus = minus (piece w 0 (sign_end w));
      integer = value (piece w (sign_end w) (integer_end w));
      fraction = value (piece w (point_end w) (fraction_end w));
      places = fraction_end w - point_end w;
      lowers = false;
      exponent = 0;
      uncertain = b;
      uncertainty = u;
    }

-- digits that keep a limit

kept : (w : List ℕ) → within (parts w) ≡ true → Limits (cuts_of w)
kept w h = limits w (cuts_of w) (cuts-sound w) (ap within (sym (parts_cuts w)) ∙ h)

pub few-digits : (w : List ℕ) → within (parts w) ≡ true → integer_end w - sign_end w ≤ 9
unfolding integer_end sign_end cuts_of
few-digits w h = (kept w h).integer

pub few-places : (w : List ℕ) → within (parts w) ≡ true → fraction_end w - point_end w ≤ 18
unfolding fraction_end point_end integer_end sign_end cuts_of
few-places w h = (kept w h).fraction

integer-run : (w : List ℕ) → Run w (sign_end w) (integer_end w)
unfolding integer_end sign_end
integer-run w = run-here w (sign_end w) (after-within 43 45 w 0 (lit< tt) (lit< tt) (omega arith))

fraction-run : (w : List ℕ) → Run w (point_end w) (fraction_end w)
unfolding fraction_end point_end
fraction-run w = run-here w (point_end w) (after-within 46 46 w (integer_end w) (lit< tt) (lit< tt) (integer-run w).to)

pub integer-fits : (w : List ℕ) → within (parts w) ≡ true → value (piece w (sign_end w) (integer_end w)) < 10 ^ 9
integer-fits w h = run_fits 9 (integer-run w) (few-digits w h)

-- a bracket that opens at i: at most as many digits as bytes behind it, and one fewer where it is closed
pub bracket-few : (w : List ℕ) (i : ℕ) → i < length w → length w - i ≤ 11 → digits_end w (i + 1) - (i + 1) ≤ 18
bracket-few w i l m = omega (arith, (run-here w (i + 1) (omega arith)).to)

pub bracket-fits : (w : List ℕ) (i : ℕ) → i < length w → length w - i ≤ 11 → get_or w (digits_end w (i + 1)) 0 ≡ 41 → value (piece w (i + 1) (digits_end w (i + 1))) < 10 ^ 9
bracket-fits w i l m z = run_fits 9 (run-here w (i + 1) (omega arith)) (omega (arith, byte-within w (digits_end w (i + 1)) 41 (lit< tt) z))

-- what the word means

no-exponent : (w : List ℕ) (i b : ℕ) → get_or w i 0 ≡ b → (is 101 b || is 69 b) ≡ false → starts_exponent w i ≡ false
unfolding starts_exponent
no-exponent w i b e n = rw (e, n)

by-bracket : (w : List ℕ) → starts_exponent w (fraction_end w) ≡ false →
    unscaled w (bracket_at w (fraction_end w)).here (value (piece w (bracket_at w (fraction_end w)).digits (bracket_at w (fraction_end w)).end)) ≡ meaning (parts w)
unfolding unscaled meaning parts_of part_of cuts_of exponent_at nowhere sign_end integer_end point_end fraction_end value value_from minus
by-bracket w n = rw (parts_cuts w, n, piece-none w (fraction_end w), piece-length w (point_end w) (fraction_end w) (fraction-run w).to)

no-bracket : (w : List ℕ) (i : ℕ) → get_or w i 0 ≡ 0 → bracket_at w i ≡ nowhere i
unfolding bracket_at is
no-bracket w i z = rw z

-- it ends behind its fraction
pub ends-plain : (w : List ℕ) → length w ≤ fraction_end w → unscaled w false 0 ≡ meaning (parts w)
unfolding nowhere is value value_from
ends-plain w h =
    let z : get_or w (fraction_end w) 0 ≡ 0 = past_end w (fraction_end w) h in
    rw (no-bracket w (fraction_end w) z, piece-none w (fraction_end w)) at (by-bracket w (no-exponent w (fraction_end w) 0 z refl))

-- a closed bracket stands behind its fraction
pub ends-bracketed : (w : List ℕ) → get_or w (fraction_end w) 0 ≡ 40 → get_or w (digits_end w (fraction_end w + 1)) 0 ≡ 41 →
    unscaled w true (value (piece w (fraction_end w + 1) (digits_end w (fraction_end w + 1)))) ≡ meaning (parts w)
unfolding bracket_at is
ends-bracketed w o z = rw (o, z) at (by-bracket w (no-exponent w (fraction_end w) 40 o refl))
