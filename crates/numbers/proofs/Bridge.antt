-- The parts of a word are the pieces of it between its cuts: each part of `Parts.antt`, taken from an offset on, is the piece that `Cuts.antt` finds
-- there. Assumes nothing.
use Prim.Native.Nat.{ℕ, suc, ◌+◌, ◌-◌, ◌≤◌, ◌<◌}
use mathlib.Core.Path.{◌≡◌, refl, sym, ap, ◌∙◌}
use mathlib.Core.Bool.{Bool, true, false, cond, ◌||◌, not-not}
use mathlib.Core.List.{List, [], ◌∷◌}
use native.Mathlib.Numerals.{add-one}
use native.Mathlib.Decide.{dec_lt}
use native.Mathlib.Omega.{arith}
use lib.ListN.{length, take, drop, get_or, drop_of_length-le}
use lib.Seq.{drop-cons, drop-drop}
use Rattle.text.specs.Bytes.{is_digit, is}
use Rattle.text.specs.Runs.{span}
use Rattle.text.proofs.Runs.{span-end, span_none, span-by, past_end}
use Rattle.numbers.specs.Parts.{Cut, cut, cons_got, digits, sign, point, absent, signed_digits, exponent, close, bracket, parts}
use Rattle.cuts.specs.Cuts.{nowhere, starts_exponent, exponent_at, bracket_at, cuts_of}
use Rattle.cuts.specs.Digits.{piece, after, digits_end}
use Rattle.numbers.specs.Pieces.{part_of, parts_of}
use Rattle.cuts.proofs.DigitRuns.{piece-none, digits-end-twice}
use Rattle.numbers.proofs.Pieces.{rest-empty}

-- what stands at i: nothing, or a byte and what follows it
data Rest (w : List ℕ) (i : ℕ) : Type 0 where
  nothing : drop i w ≡ [] → get_or w i 0 ≡ 0 → Rest w i
  byte : drop i w ≡ get_or w i 0 ∷ drop (i + 1) w → Rest w i

rest : (w : List ℕ) (i : ℕ) → Rest w i
rest w i = by (dec_lt i (length w))
  where
    by : Dec (i < length w) → Rest w i
    by (yes l) = byte (rw add-one (drop-cons w i 0 l))
    by (no l) =
        let o : length w ≤ i = omega arith in
        nothing (drop_of_length-le w o) (past_end w i o)

-- what a cut from i to j takes and leaves
between : List ℕ → ℕ → ℕ → Cut
between w i j = cut (piece w i j) (drop j w)

between_none : (w : List ℕ) (i : ℕ) → between w i i ≡ cut [] (drop i w)
unfolding between
between_none w i = rw (piece-none w i)

digits-span : (s : List ℕ) → digits s ≡ cut (take (span is_digit s) s) (drop (span is_digit s) s)
unfolding digits cons_got cut
digits-span [] = rw (span_none is_digit)
digits-span (b ∷ s) = rw (span-by is_digit b s) (by (is_digit b) (digits-span s))
  where
    by : (t : Bool) → digits s ≡ cut (take (span is_digit s) s) (drop (span is_digit s) s) →
        cond t (cons_got b (digits s)) (cut [] (b ∷ s)) ≡ cut (take (cond t (suc (span is_digit s)) 0) (b ∷ s)) (drop (cond t (suc (span is_digit s)) 0) (b ∷ s))
    by true h = rw h
    by false h = refl

digits_between : (w : List ℕ) (i : ℕ) → digits (drop i w) ≡ between w i (digits_end w i)
unfolding between digits_end piece
digits_between w i =
    let n = span is_digit (drop i w) in
    let e : i + n - i ≡ n = omega arith in
    digits-span (drop i w) ∙ rw (span-end is_digit w i, e, drop-drop n i w)

between-one : (w : List ℕ) (i : ℕ) → drop i w ≡ get_or w i 0 ∷ drop (i + 1) w → between w i (i + 1) ≡ cut (get_or w i 0 ∷ []) (drop (i + 1) w)
unfolding between piece
between-one w i e =
    let n : i + 1 - i ≡ 1 = omega arith in
    rw (n, e)

sign-between : (w : List ℕ) (i : ℕ) → sign (drop i w) ≡ between w i (after 43 45 w i)
unfolding sign after is
sign-between w i = by (rest w i)
  where
    one : (t : Bool) → drop i w ≡ get_or w i 0 ∷ drop (i + 1) w → cond t (cut (get_or w i 0 ∷ []) (drop (i + 1) w)) (cut [] (drop i w)) ≡ between w i (cond t (i + 1) i)
    one true e = sym (between-one w i e)
    one false e = sym (between_none w i)

    by : Rest w i → sign (drop i w) ≡ between w i (after 43 45 w i)
    by (nothing e z) = rw (z, e) (rw e at (sym (between_none w i)))
    by (byte e) = rw e (rw e at (one (is 43 (get_or w i 0) || is 45 (get_or w i 0)) e))

-- a test on one byte, as `after` asks it
or_same : (t : Bool) → (t || t) ≡ t
or_same true = refl
or_same false = refl

-- where no digits stand, the point is absent or its digits follow
point-between : (w : List ℕ) (i : ℕ) → digits_end w i ≡ i → point (drop i w) ≡ between w (after 46 46 w i) (digits_end w (after 46 46 w i))
unfolding point after is
point-between w i d = rw (or_same (is 46 (get_or w i 0))) (by (rest w i))
  where
    none : cut [] (drop i w) ≡ between w i (digits_end w i)
    none = rw d (sym (between_none w i))

    one : (t : Bool) → cond t (digits (drop (i + 1) w)) (cut [] (drop i w)) ≡ between w (cond t (i + 1) i) (digits_end w (cond t (i + 1) i))
    one true = digits_between w (i + 1)
    one false = none

    by : Rest w i → point (drop i w) ≡ between w (cond (is 46 (get_or w i 0)) (i + 1) i) (digits_end w (cond (is 46 (get_or w i 0)) (i + 1) i))
    by (nothing e z) = rw (z, e) (rw e at none)
    by (byte e) = rw e (rw e at (one (is 46 (get_or w i 0))))

absent-nowhere : (w : List ℕ) (i : ℕ) → absent (drop i w) ≡ part_of w (nowhere i)
unfolding absent part_of nowhere
absent-nowhere w i = rw (piece-none w i)

-- a sign at i, and the digits behind it
signed_part : (w : List ℕ) (i : ℕ) →
    signed_digits (sign (drop i w))
    ≡ part_of w (record { here = true; sign = i; digits = after 43 45 w i; end = digits_end w (after 43 45 w i); next = digits_end w (after 43 45 w i) })
unfolding signed_digits part_of between cut
signed_part w i = rw (sign-between w i, digits_between w (after 43 45 w i))

exponent-part : (w : List ℕ) (i : ℕ) → exponent (drop i w) ≡ part_of w (exponent_at w i)
unfolding exponent exponent_at starts_exponent is
exponent-part w i = by (rest w i)
  where
    one : (t : Bool) →
        cond t (signed_digits (sign (drop (i + 1) w))) (absent (drop i w))
        ≡ part_of w
        (cond t
        (record { here = true; sign = i + 1; digits = after 43 45 w (i + 1); end = digits_end w (after 43 45 w (i + 1)); next = digits_end w (after 43 45 w (i + 1)) })
        (nowhere i))
    one true = signed_part w (i + 1)
    one false = absent-nowhere w i

    by : Rest w i → exponent (drop i w) ≡ part_of w (exponent_at w i)
    by (nothing e z) = rw (z, e) (rw e at (absent-nowhere w i))
    by (byte e) = rw (e, rest-empty w (i + 1), not-not) (rw e at (one (starts_exponent w i)))

-- a bracket's digits g, and whether it is closed at i
close-part : (s g w : List ℕ) (i : ℕ) →
    close s g (drop i w) ≡ cond (is 41 (get_or w i 0)) (record { here = true; signed = []; run = g; left = drop (i + 1) w }) (absent s)
unfolding close is
close-part s g w i = by (rest w i)
  where
    by : Rest w i → close s g (drop i w) ≡ cond (is 41 (get_or w i 0)) (record { here = true; signed = []; run = g; left = drop (i + 1) w }) (absent s)
    by (nothing e z) = rw (z, e)
    by (byte e) = rw e

bracket-end : (w : List ℕ) (i : ℕ) →
    close (drop i w) (digits (drop (i + 1) w)).got (digits (drop (i + 1) w)).left
    ≡ part_of w
    (cond (is 41 (get_or w (digits_end w (i + 1)) 0)) (record { here = true; sign = i + 1; digits = i + 1; end = digits_end w (i + 1); next = digits_end w (i + 1) + 1 }) (nowhere i))
unfolding between cut part_of
bracket-end w i = rw (digits_between w (i + 1)) (close-part (drop i w) (piece w (i + 1) d) w d ∙ by (is 41 (get_or w d 0)))
  where
    d : ℕ
    d = digits_end w (i + 1)

    by : (t : Bool) →
        cond t (record { here = true; signed = []; run = piece w (i + 1) d; left = drop (d + 1) w }) (absent (drop i w))
        ≡ part_of w (cond t (record { here = true; sign = i + 1; digits = i + 1; end = d; next = d + 1 }) (nowhere i))
    by true = rw (piece-none w (i + 1))
    by false = absent-nowhere w i

bracket-part : (w : List ℕ) (i : ℕ) → bracket (drop i w) ≡ part_of w (bracket_at w i)
unfolding bracket bracket_at is
bracket-part w i = by (rest w i)
  where
    one : (t : Bool) →
        cond t (close (drop i w) (digits (drop (i + 1) w)).got (digits (drop (i + 1) w)).left) (absent (drop i w))
        ≡ part_of w
        (cond t
        (cond (is 41 (get_or w (digits_end w (i + 1)) 0)) (record { here = true; sign = i + 1; digits = i + 1; end = digits_end w (i + 1); next = digits_end w (i + 1) + 1 }) (nowhere i))
        (nowhere i))
    one true = bracket-end w i
    one false = absent-nowhere w i

    by : Rest w i → bracket (drop i w) ≡ part_of w (bracket_at w i)
    by (nothing e z) = rw (z, e) (rw e at (absent-nowhere w i))
    by (byte e) = rw e (rw e at (one (is 40 (get_or w i 0))))

-- a word's parts are the pieces between its cuts
pub parts_cuts : (w : List ℕ) → parts w ≡ parts_of w (cuts_of w)
unfolding parts parts_of part_of cuts_of between cut
parts_cuts w =
    rw (
      sign-between w 0,
      digits_between w (after 43 45 w 0),
      point-between w (digits_end w (after 43 45 w 0)) (digits-end-twice w (after 43 45 w 0)),
      exponent-part,
      bracket-part,
    )

-- the sign and the digits that stand at an offset
pub sign-piece : (w : List ℕ) (i : ℕ) → (sign (drop i w)).got ≡ piece w i (after 43 45 w i)
unfolding between cut
sign-piece w i = ap (λ (c : Cut). c.got) (sign-between w i)

pub digits-piece : (w : List ℕ) (i : ℕ) → (digits (drop i w)).got ≡ piece w i (digits_end w i)
unfolding between cut
digits-piece w i = ap (λ (c : Cut). c.got) (digits_between w i)
