-- Plain numbers as words: where one is found, a whole word stands that is a number within the limits. Assumes nothing.
use Prim.Native.Nat.{ℕ, ◌+◌, ◌-◌, ◌≤◌, ◌<◌}
use mathlib.Core.Path.{◌≡◌, refl}
use mathlib.Core.Bool.{true, not}
use mathlib.Core.List.{List}
use native.Mathlib.Decide.{dec_lt}
use native.Mathlib.Omega.{arith}
use borrow.Author.Tests.{lt-leb}
use lib.ListN.{length, take, drop, get_or}
use Rattle.rules.specs.declared.Reading.{Reading}
use Rattle.text.specs.Bytes.{is, ends_word}
use Rattle.text.specs.Runs.{span_end}
use Rattle.text.proofs.Runs.{span-stop, span-over, span_to}
use Rattle.cuts.specs.Digits.{piece}
use Rattle.numbers.specs.declared.Number.TheVariants.{Is}
use Rattle.numbers.specs.Parts.{parts}
use Rattle.numbers.specs.Meaning.{meaning, number_of}
use Rattle.numbers.proofs.Made.{all, others}
use Rattle.decimals.specs.Plain.{word_stops, decimal_end}
use Rattle.decimals.proofs.Plain.{Plain, plain, plain-bytes}

stops-here : (s : List ℕ) (e : ℕ) → word_stops s e ≡ true → span_end (λ b. not (ends_word b)) s e ≡ e
unfolding word_stops
stops-here s e w = by (dec_lt e (length s))
  where
    by : Dec (e < length s) → span_end (λ b. not (ends_word b)) s e ≡ e
    by (yes l) =
        let q : ends_word (get_or s e 0) ≡ true = rw (lt-leb (length s) e l) at w in
        span-stop (λ b. not (ends_word b)) s e l (rw q)
    by (no l) = span-over (λ b. not (ends_word b)) s e (omega arith)

plain-run : (r : Reading) (s : List ℕ) (o e : ℕ) → o ≤ e → Plain r s o e → span_end (λ b. not (ends_word b)) s o ≡ e
unfolding all others ends_word
plain-run r s o e h x =
    let z : o + (e - o) ≡ e = omega arith in
    rw z at (span_to (λ b. not (ends_word b)) s (e - o) o (omega (arith, x.within))
    (λ k l u. plain-bytes (λ b. not (ends_word b)) refl refl r s o e x k l (omega arith))
    (rw z (stops-here s e x.stops)))

-- what stands from o up to e is a whole word and a number within the limits, with uncertainty where its last byte is `)`
pub record PlainWord (r : Reading) (s : List ℕ) (o e : ℕ) : Type 0 where
  pub within : e ≤ length s
  pub whole : span_end (λ b. not (ends_word b)) s o ≡ e
  pub number : number_of r (take (e - o) (drop o s)) ≡ Is (meaning (parts (take (e - o) (drop o s))))
  pub uncertain : (meaning (parts (take (e - o) (drop o s)))).uncertain ≡ is 41 (get_or s (e - 1) 0)

-- where `decimal_end` goes on, such a number stands
pub plain_word : (r : Reading) (s : List ℕ) (o : ℕ) → o < length s → o < decimal_end r s o → PlainWord r s o (decimal_end r s o)
unfolding piece
plain_word r s o h m =
    let x = plain r s o h m in
    record {
      within = x.within;
      whole = plain-run r s o (decimal_end r s o) (omega arith) x;
      number = x.number;
      uncertain = x.uncertain;
    }
