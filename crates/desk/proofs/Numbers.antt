-- Numbers that are found, and the shapes of values' records. Assumes nothing.
use Prim.Native.Nat.{ℕ, zero, suc, ◌+◌, ◌-◌, ◌≤◌, ◌<◌}
use mathlib.Core.Path.{◌≡◌, refl}
use mathlib.Core.Bool.{true}
use mathlib.Core.Bool.{true}
use mathlib.Core.List.{List}
use native.Mathlib.Omega.{arith}
use lib.ListN.{take, drop}
use Rattle.rules.specs.declared.Reading.{Reading}
use Rattle.numbers.specs.declared.Decimal.{Decimal}
use Rattle.numbers.specs.Parts.{parts, within}
use Rattle.numbers.specs.Meaning.{meaning}
use Rattle.numbers.proofs.Facts.{number-facts}
use Rattle.unquoted.specs.Pieces.{kind_of_number}
use Rattle.values.proofs.Laws.{found_number}
use Rattle.kinds.specs.declared.Shape.TheVariants.{Place as PlaceAlone, Content}
use Rattle.kinds.specs.Kinds.{kind_of, shape_of, is_value_kind}
use Rattle.kinds.proofs.Marks.{each-value}
use Rattle.desk.specs.Written.{decimal_of, token_text}
use Rattle.desk.specs.Desk.{IsToken, ValueHere, rec_at}
use Rattle.desk.proofs.Lines.{value-token as found-token}

-- what Read and Outline want of a number
pub record NumberToken (s : List ℕ) (o k n : ℕ) : Type 0 where
  pub token : IsToken s k o n
  pub kind : k ≡ kind_of_number (decimal_of s (rec_at k o n))
  pub limits : within (parts (take n (drop o s))) ≡ true
  pub places : (decimal_of s (rec_at k o n)).places < 256

pub number-token : (r : Reading) (s : List ℕ) (o k n : ℕ) → ValueHere r s o k n → 14 ≤ k → k ≤ 15 → NumberToken s o k n
unfolding decimal_of token_text
number-token r s o k n h l u =
    let f = found_number r s o k n h.found l u in
    let b = number-facts r (take n (drop o s)) _ f.number in
    record {
      token = found-token r s o k n h.found;
      kind = f.kind;
      limits = f.kept;
      places = omega (arith, b.places);
    }

-- a part of the text means what its record says
pub decimal-here : (s : List ℕ) (o k n : ℕ) (d : Decimal) → d ≡ meaning (parts (take (o + n - o) (drop o s))) → d ≡ decimal_of s (rec_at k o n)
unfolding decimal_of token_text
decimal-here s o k n d e =
    let z : o + n - o ≡ n = omega arith in
    rw z at e

-- the shapes of values' records
pub mark-kind : (k : ℕ) → 8 ≤ k → k < 10 → shape_of (kind_of k) ≡ PlaceAlone
unfolding kind_of shape_of
mark-kind k l h = by (k - 8) (omega arith)
  where
    by : (j : ℕ) → k ≡ 8 + j → shape_of (kind_of k) ≡ PlaceAlone
    by zero e = rw e
    by (suc zero) e = rw e
    by (suc (suc j)) e = absurd (omega arith)

-- a value that is neither a mark nor a number is text
pub text-kind : (k : ℕ) → is_value_kind k ≡ true → (14 ≤ k → k ≤ 15 → ⊥) → 10 ≤ k → shape_of (kind_of k) ≡ Content
unfolding kind_of shape_of
text-kind k v =
    each-value (λ k. (14 ≤ k → k ≤ 15 → ⊥) → 10 ≤ k → shape_of (kind_of k) ≡ Content) (λ n l. absurd (omega arith)) (λ n l. absurd (omega arith)) (λ n l. refl)
    (λ n l. refl) (λ n l. refl) (λ n l. refl) (λ n l. absurd (n (omega arith) (omega arith))) (λ n l. absurd (n (omega arith) (omega arith))) (λ n l. refl) k v
