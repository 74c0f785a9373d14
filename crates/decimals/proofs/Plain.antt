-- Plain numbers: what `decimal_end` finds is a number within the limits, a whole word, uncertain where its last byte is `)`. Assumes nothing.
use Prim.Native.Nat.{ℕ, ◌+◌, ◌-◌, ◌≤◌, ◌<◌}
use mathlib.Core.Path.{◌≡◌, refl, sym, ap, ◌∙◌, subst}
use mathlib.Core.Bool.{Bool, true, false, cond, not, ◌&&◌, ◌||◌}
use mathlib.Core.List.{List, [], ◌++◌}
use native.Mathlib.Decide.{dec_lt}
use native.Mathlib.Omega.{arith}
use lib.Dec.{leb, ltb, eqb, lit<}
use lib.ListN.{length, take, drop, get_or}
use lib.Seq.{get_or-take, get_or-drop}
use borrow.Author.Tests.{leb-true, eqb-true, le-leb, lt-ltb}
use Rattle.rules.specs.declared.Reading.{Reading}
use Rattle.rules.specs.declared.Reading.TheVariants.{First, Strict}
use Rattle.text.specs.Bytes.{is_digit, is}
use Rattle.text.proofs.Bools.{and_l, and_r}
use Rattle.text.proofs.Ranges.{all_below, digit_not}
use Rattle.numbers.specs.declared.Number.TheVariants.{Is}
use Rattle.numbers.specs.Parts.{Part, absent, is_empty, parts, is_number, written, is_numeric, counts_as, within}
use Rattle.numbers.specs.Meaning.{meaning, judged, number_of}
use Rattle.numbers.specs.Cif.{all_digits, Sign}
use Rattle.cuts.specs.Digits.{piece, after, digits_end, Run}
use Rattle.decimals.specs.Plain.{word_stops, least_digits, bracket_end, decimal_end}
use Rattle.numbers.proofs.Spell.{Bracket, unbracketed, bracketed, Exponent, unscaled, Point, whole, pointed, sign-got, digits-got, parts-spell}
use Rattle.numbers.proofs.Made.{all, all-at, others, number-made}
use Rattle.cuts.proofs.DigitRuns.{piece-none, piece-length, piece-join, piece-first, piece-last, digits_from, digits-end-twice, run-here}
use Rattle.numbers.proofs.Pieces.{piece-empty}
use Rattle.cuts.proofs.Bounds.{byte-within, after-within}
use Rattle.numbers.proofs.Bridge.{sign-piece, digits-piece}

-- what stands at an offset

sign_at : (s : List ℕ) (o : ℕ) → Sign (piece s o (after 43 45 s o))
sign_at s o = subst Sign (sign-piece s o) (sign-got (drop o s))

digits-at : (s : List ℕ) (o : ℕ) → all_digits (piece s o (digits_end s o)) ≡ true
digits-at s o = ap all_digits (sym (digits-piece s o)) ∙ digits-got (drop o s)

after-from : (x y : ℕ) (s : List ℕ) (i : ℕ) → i ≤ after x y s i
unfolding after
after-from x y s i = by (is x (get_or s i 0) || is y (get_or s i 0))
  where
    by : (t : Bool) → i ≤ cond t (i + 1) i
    by true = omega arith
    by false = omega arith

-- a point or none
data Pointed (s : List ℕ) (i : ℕ) : ℕ → Type 0 where
  none : Pointed s i i
  one : get_or s i 0 ≡ 46 → Pointed s i (i + 1)

pointed-at : (s : List ℕ) (i : ℕ) → Pointed s i (after 46 46 s i)
unfolding after is
pointed-at s i = by (eqb (get_or s i 0) 46) refl
  where
    by : (t : Bool) → eqb (get_or s i 0) 46 ≡ t → Pointed s i (cond (t || t) (i + 1) i)
    by true e = one (eqb-true _ _ e)
    by false e = none

-- behind digits, a point and its digits spell themselves
point-spells : (s : List ℕ) (i p : ℕ) {r : List ℕ} {e u : Part} → Pointed s i p → digits_end s i ≡ i → Exponent r e u → Point (piece s i (digits_end s p) ++ r) (piece s p (digits_end s p)) e u
point-spells s i _ none d x = rw (d, piece-none s i) (whole x)
point-spells s i _ (one b) d x =
    let l : i < length s = byte-within s i 46 (lit< tt) b in
    let h : i < digits_end s (i + 1) = omega (arith, digits_from s (i + 1)) in
    rw (piece-first s i (digits_end s (i + 1)) h l, b) (pointed (piece s (i + 1) (digits_end s (i + 1))) (digits-at s (i + 1)) x)

-- a bracket that is closed, has digits enough and keeps its limit, or none
data Closed (r : Reading) (s : List ℕ) (f : ℕ) : ℕ → Type 0 where
  none : Closed r s f f
  shut : get_or s f 0 ≡ 40 → least_digits r ≤ digits_end s (f + 1) - (f + 1) → digits_end s (f + 1) - (f + 1) ≤ 9 → get_or s (digits_end s (f + 1)) 0 ≡ 41 → Closed r s f (digits_end s (f + 1) + 1)

closed_at : (r : Reading) (s : List ℕ) (f : ℕ) → Closed r s f (bracket_end r s f)
unfolding bracket_end is
closed_at r s f = by (eqb (get_or s f 0) 40) (leb (least_digits r) (c - (f + 1))) (leb (c - (f + 1)) 9) (eqb (get_or s c 0) 41) refl refl refl refl
  where
    c : ℕ
    c = digits_end s (f + 1)

    by : (t l u v : Bool) → eqb (get_or s f 0) 40 ≡ t → leb (least_digits r) (c - (f + 1)) ≡ l → leb (c - (f + 1)) 9 ≡ u → eqb (get_or s c 0) 41 ≡ v → Closed r s f (cond (t && (l && (u && v))) (c + 1) f)
    by true true true true x w y z = shut (eqb-true _ _ x) (leb-true _ _ w) (leb-true _ _ y) (eqb-true _ _ z)
    by true true true false x w y z = none
    by true true false v x w y z = none
    by true false u v x w y z = none
    by false l u v x w y z = none

-- the part that it is
record Ended (r : Reading) (s : List ℕ) (f e : ℕ) : Type 0 where
  part : Part
  digits : r ≡ Strict → written part ≡ true
  spells : Bracket (piece s f e) part
  whole : part.left ≡ []
  few : length part.run ≤ 9
  from : f ≤ e
  to : e ≤ length s

-- a run of one digit at least is not empty
some-digits : (r : Reading) (s : List ℕ) (i j : ℕ) → j ≤ length s → least_digits r ≤ j - i → r ≡ Strict → not (is_empty (piece s i j)) ≡ true
some-digits First s i j h l e = let z : ◌≡◌ {A = ℕ} 0 1 = cc in absurd (omega arith)
some-digits Strict s i j h l e = rw (piece-empty s i j h, lt-ltb i j (omega arith))

ended : (r : Reading) (s : List ℕ) (f e : ℕ) → Closed r s f e → f ≤ length s → Ended r s f e
unfolding absent written
ended r s f _ none h = record { part = absent []; digits = λ q. refl; spells = rw (piece-none s f) unbracketed; whole = refl; few = omega arith; from = omega arith; to = h }
ended r s f _ (shut b d n z) h =
    let c = digits_end s (f + 1) in
    let l : f < length s = byte-within s f 40 (lit< tt) b in
    let m : c < length s = byte-within s c 41 (lit< tt) z in
    let g : f + 1 ≤ c = digits_from s (f + 1) in
    let q : f < c + 1 = omega arith in
    let k : length (piece s (f + 1) c) ≤ 9 = rw (piece-length s (f + 1) c (omega arith)) n in
    record {
      part = record { here = true; signed = []; run = piece s (f + 1) c; left = [] };
      digits = some-digits r s (f + 1) c (omega arith) d;
      spells = rw (piece-first s f (c + 1) q l, piece-last s (f + 1) c g m, b, z) (bracketed (piece s (f + 1) c) (digits-at s (f + 1)));
      whole = refl;
      few = k;
      from = omega arith;
      to = omega arith;
    }

-- what is found at o, up to e
pub record Plain (r : Reading) (s : List ℕ) (o e : ℕ) : Type 0 where
  pub within : e ≤ length s
  pub stops : word_stops s e ≡ true
  pub kept : is_number (parts (piece s o e)) ≡ true
  pub number : number_of r (piece s o e) ≡ Is (meaning (parts (piece s o e)))
  pub uncertain : (meaning (parts (piece s o e))).uncertain ≡ is 41 (get_or s (e - 1) 0)

-- the word's pieces, one behind the other: the cuts a, i, p and f bound them, and e ends the bracket
module _ (r : Reading) (s : List ℕ) (o : ℕ) (h : o ≤ length s) where
  a : ℕ
  a = after 43 45 s o

  i : ℕ
  i = digits_end s a

  p : ℕ
  p = after 46 46 s i

  f : ℕ
  f = digits_end s p

  signed : a ≤ length s
  unfolding a
  signed = after-within 43 45 s o (lit< tt) (lit< tt) h

  integer : Run s a i
  unfolding i
  integer = run-here s a signed

  behind : p ≤ length s
  unfolding p
  behind = after-within 46 46 s i (lit< tt) (lit< tt) integer.to

  fraction : Run s p f
  unfolding f
  fraction = run-here s p behind

  joined : (e : ℕ) → f ≤ e → piece s o e ≡ piece s o a ++ (piece s a i ++ (piece s i f ++ piece s f e))
  unfolding a p
  joined e l =
      let oa : o ≤ a = after-from 43 45 s o in
      let ai : a ≤ i = integer.from in
      let ip : i ≤ p = after-from 46 46 s i in
      let pf : p ≤ f = fraction.from in
      piece-join s o a e oa (omega arith)
      ∙ ap (λ (r : List ℕ). piece s o a ++ r) (piece-join s a i e ai (omega arith) ∙ ap (λ (r : List ℕ). piece s a i ++ r) (piece-join s i f e (omega arith) l))

  spelled : (e : ℕ) → (b : Ended r s f e) →
      parts (piece s o e) ≡ record { sgn = piece s o a; int = piece s a i; frac = piece s p f; exp = absent (piece s f e); unc = b.part }
  unfolding a i p f
  spelled e b =
      rw (joined e b.from)
      (parts-spell (piece s a i) (sign_at s o) (digits-at s a) (point-spells s i p (pointed-at s i) (digits-end-twice s a) (unscaled b.spells)))

  module _ (few : i - a ≤ 9) (places : f - p ≤ 18) (some : 1 ≤ i - a + (f - p)) where
    digit : (not (ltb a i) && not (ltb p f)) ≡ false
    digit = by (dec_lt a i)
      where
        by : Dec (a < i) → (not (ltb a i) && not (ltb p f)) ≡ false
        by (yes l) = rw (lt-ltb a i l)
        by (no l) =
            let m : p < f = omega arith in
            rw (lt-ltb p f m) (and_none (not (ltb a i)))
          where
            and_none : (t : Bool) → (t && false) ≡ false
            and_none true = refl
            and_none false = refl

    is-number : (e : ℕ) → Ended r s f e → is_number (parts (piece s o e)) ≡ true
    unfolding is_number is_empty
    is-number e b = rw (spelled e b, b.whole, piece-empty s a i integer.to, piece-empty s p f fraction.to, digit)

    counts : (e : ℕ) → Ended r s f e → counts_as r (parts (piece s o e)) ≡ true
    counts e b = by r refl
      where
        unc : (q : Reading) → r ≡ q → q ≡ Strict → written (parts (piece s o e)).unc ≡ true
        unc q g k = rw (spelled e b) (b.digits (g ∙ k))

        exp : written (parts (piece s o e)).exp ≡ true
        exp = rw (spelled e b) (unfold written absent in refl)

        by : (q : Reading) → r ≡ q → counts_as q (parts (piece s o e)) ≡ true
        by First g = is-number e b
        by Strict g = unfold is_numeric in rw (is-number e b, exp, unc Strict g refl)

    keeps : (e : ℕ) → Ended r s f e → within (parts (piece s o e)) ≡ true
    unfolding within absent
    keeps e b =
        rw (
          spelled e b,
          piece-length s a i integer.to,
          piece-length s p f fraction.to,
          le-leb (i - a) 9 few,
          le-leb (f - p) 18 places,
          le-leb _ 9 b.few,
        )

    -- without a bracket the last byte is a digit or the point
    no-bracket : is 41 (get_or s (f - 1) 0) ≡ false
    unfolding is p
    no-bracket = by (dec_lt p f)
      where
        digit-no : (b : ℕ) → is_digit b ≡ true → is 41 b ≡ false
        digit-no b d = digit_not (is 41) refl b d

        short : (q : ℕ) → Pointed s i q → q ≡ f → f - p ≡ 0 → is 41 (get_or s (f - 1) 0) ≡ false
        short _ none e n = digit-no _ (integer.all (f - 1) (omega arith) (omega arith))
        short _ (one b) e n =
            let k : f - 1 ≡ i = omega arith in
            rw (k, b)

        by : Dec (p < f) → is 41 (get_or s (f - 1) 0) ≡ false
        by (yes l) = digit-no _ (fraction.all (f - 1) (omega arith) (omega arith))
        by (no l) = short p (pointed-at s i) (omega (arith, fraction.from)) (omega arith)

    marked : (e : ℕ) (c : Closed r s f e) (l : f ≤ length s) → (ended r s f e c l).part.here ≡ is 41 (get_or s (e - 1) 0)
    unfolding ended absent is
    marked _ none l = sym no-bracket
    marked _ (shut b d n z) l =
        let c = digits_end s (f + 1) in
        let k : c + 1 - 1 ≡ c = omega arith in
        rw (k, z)

    plain-to : (e : ℕ) → Closed r s f e → word_stops s e ≡ true → Plain r s o e
    unfolding number_of judged meaning
    plain-to e c w =
        let b : Ended r s f e = ended r s f e c fraction.to in
        let n = is-number e b in
        let m = counts e b in
        let k = keeps e b in
        record {
          within = b.to;
          stops = w;
          kept = n;
          number = rw (m, k);
          uncertain = rw (spelled e b) (marked e c fraction.to);
        }

pub plain : (r : Reading) (s : List ℕ) (o : ℕ) → o < length s → o < decimal_end r s o → Plain r s o (decimal_end r s o)
unfolding decimal_end a i p f
plain r s o h m = by (leb (i' - a') 9 && (leb (f' - p') 18 && (leb 1 (i' - a' + (f' - p')) && word_stops s e'))) refl m
  where
    a' : ℕ
    a' = after 43 45 s o

    i' : ℕ
    i' = digits_end s a'

    p' : ℕ
    p' = after 46 46 s i'

    f' : ℕ
    f' = digits_end s p'

    e' : ℕ
    e' = bracket_end r s f'

    by : (t : Bool) → (leb (i' - a') 9 && (leb (f' - p') 18 && (leb 1 (i' - a' + (f' - p')) && word_stops s e'))) ≡ t → o < cond t e' o → Plain r s o (cond t e' o)
    by false q l = absurd (omega arith)
    by true q l =
        let q2 = and_r (leb (i' - a') 9) _ q in
        let q3 = and_r (leb (f' - p') 18) _ q2 in
        let q4 = and_r (leb 1 (i' - a' + (f' - p'))) _ q3 in
        plain-to r s o (omega arith) (leb-true _ _ (and_l (leb (i' - a') 9) _ q)) (leb-true _ _ (and_l (leb (f' - p') 18) _ q2)) (leb-true _ _ (and_l (leb 1 (i' - a' + (f' - p'))) _ q3)) e' (closed_at r s f') q4

-- each of its bytes passes a test that passes at what numbers have
pub plain-bytes : (g : ℕ → Bool) → all_below (λ k. g (48 + k)) 10 ≡ true → all g others ≡ true → (r : Reading) (s : List ℕ) (o e : ℕ) → Plain r s o e → (k : ℕ) → o ≤ k → k < e → g (get_or s k 0) ≡ true
unfolding piece
plain-bytes g tens rest r s o e x k l h =
    let n : o + (k - o) ≡ k = omega arith in
    let m : k - o < e - o = omega arith in
    let w : k - o < length (piece s o e) = rw (piece-length s o e x.within) m in
    let q : get_or (take (e - o) (drop o s)) (k - o) 0 ≡ get_or s k 0 = get_or-take (e - o) (drop o s) (k - o) 0 m ∙ get_or-drop o s (k - o) 0 ∙ rw n in
    rw (← q) (all-at g (piece s o e) (k - o) (number-made g tens rest (piece s o e) x.kept) w)
