-- The cuts of a word bound digits of it, and what the digit limits say of them. Assumes nothing.
use Prim.Native.Nat.{ℕ, ◌+◌, ◌≤◌, ◌<◌}
use mathlib.Core.Path.{◌≡◌, refl}
use mathlib.Core.Bool.{Bool, true, false, cond, ◌||◌}
use mathlib.Core.List.{List}
use native.Mathlib.Decide.{dec_lt}
use native.Mathlib.Omega.{arith}
use lib.Dec.{ltb, lit<}
use lib.ListN.{length, get_or}
use borrow.Author.Tests.{ltb-true, eqb-true, ne_eqb}
use Rattle.text.specs.Bytes.{is}
use Rattle.text.proofs.Bools.{and_r}
use Rattle.text.proofs.Runs.{past_end}
use Rattle.cuts.specs.Cuts.{nowhere, starts_exponent, exponent_at, bracket_at, cuts_of, Sound}
use Rattle.cuts.specs.Digits.{after, digits_end, Run}
use Rattle.cuts.specs.declared.Extent.{Extent}
use Rattle.cuts.proofs.DigitRuns.{run-here, run_none}

-- a byte that isn't 0 stands inside the word
pub byte-within : (w : List ℕ) (i b : ℕ) → 0 < b → get_or w i 0 ≡ b → i < length w
byte-within w i b h e = by (dec_lt i (length w))
  where
    by : Dec (i < length w) → i < length w
    by (yes l) = l
    by (no l) = absurd (omega (arith, past_end w i (omega arith)))

-- so it does where it is known to be above 0
pub inside : (w : List ℕ) (i : ℕ) → 0 < get_or w i 0 → i < length w
inside w i h = byte-within w i (get_or w i 0) h refl

pub after-within : (x y : ℕ) (w : List ℕ) (i : ℕ) → 0 < x → 0 < y → i ≤ length w → after x y w i ≤ length w
unfolding after is
after-within x y w i hx hy h = by (dec_lt i (length w))
  where
    one : (t : Bool) → i < length w → cond t (i + 1) i ≤ length w
    one true l = omega arith
    one false l = omega arith

    by : Dec (i < length w) → after x y w i ≤ length w
    by (yes l) = one (is x (get_or w i 0) || is y (get_or w i 0)) l
    by (no l) = rw (past_end w i (omega arith), ne_eqb 0 x (λ e. omega arith), ne_eqb 0 y (λ e. omega arith)) h

-- an extent whose digits are digits and whose end lies inside the word
record Held (w : List ℕ) (x : Extent) : Type 0 where
  run : Run w x.digits x.end
  next : x.next ≤ length w

nowhere-held : (w : List ℕ) (i : ℕ) → i ≤ length w → Held w (nowhere i)
unfolding nowhere
nowhere-held w i h = record { run = run_none w i h; next = h }

-- the letter of an exponent isn't the word's last byte
pub letter-within : (w : List ℕ) (i : ℕ) → starts_exponent w i ≡ true → i + 1 < length w
unfolding starts_exponent
letter-within w i s = ltb-true (i + 1) (length w) (and_r (is 101 (get_or w i 0) || is 69 (get_or w i 0)) (ltb (i + 1) (length w)) s)

exponent-held : (w : List ℕ) (i : ℕ) → i ≤ length w → Held w (exponent_at w i)
unfolding exponent_at
exponent-held w i h = by (starts_exponent w i) refl
  where
    d : ℕ
    d = after 43 45 w (i + 1)

    e : ℕ
    e = digits_end w d

    by : (t : Bool) → starts_exponent w i ≡ t → Held w (cond t (record { here = true; sign = i + 1; digits = d; end = e; next = e }) (nowhere i))
    by true s =
        let r : Run w d e = run-here w d (after-within 43 45 w (i + 1) (lit< tt) (lit< tt) (omega (arith, letter-within w i s))) in
        record { run = r; next = r.to }
    by false s = nowhere-held w i h

bracket-held : (w : List ℕ) (i : ℕ) → i ≤ length w → Held w (bracket_at w i)
unfolding bracket_at is
bracket-held w i h = by (is 40 (get_or w i 0)) refl
  where
    e : ℕ
    e = digits_end w (i + 1)

    closed : i < length w → (t : Bool) → is 41 (get_or w e 0) ≡ t → Held w (cond t (record { here = true; sign = i + 1; digits = i + 1; end = e; next = e + 1 }) (nowhere i))
    closed l true s = record { run = run-here w (i + 1) (omega arith); next = omega (arith, byte-within w e 41 (lit< tt) (eqb-true _ _ s)) }
    closed l false s = nowhere-held w i h

    by : (t : Bool) → is 40 (get_or w i 0) ≡ t → Held w (cond t (cond (is 41 (get_or w e 0)) (record { here = true; sign = i + 1; digits = i + 1; end = e; next = e + 1 }) (nowhere i)) (nowhere i))
    by true s = closed (byte-within w i 40 (lit< tt) (eqb-true _ _ s)) (is 41 (get_or w e 0)) refl
    by false s = nowhere-held w i h

pub cuts-sound : (w : List ℕ) → Sound w (cuts_of w)
unfolding cuts_of
cuts-sound w =
    let i = run-here w _ (after-within 43 45 w 0 (lit< tt) (lit< tt) (omega arith)) in
    let f = run-here w _ (after-within 46 46 w _ (lit< tt) (lit< tt) i.to) in
    let e = exponent-held w _ f.to in
    record { integer = i; fraction = f; exponent = e.run; uncertainty = (bracket-held w _ e.next).run }
