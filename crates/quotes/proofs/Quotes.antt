-- Laws of quotes and text fields. Assumes nothing.
use Prim.Native.Nat.{ℕ, zero, suc, ◌+◌, ◌-◌, ◌≤◌, ◌<◌}
use mathlib.Core.Path.{◌≡◌, refl, sym, ap, ◌∙◌}
use mathlib.Core.Bool.{Bool, true, false, cond, ◌&&◌, ◌||◌, and-false}
use mathlib.Core.List.{List, [], ◌∷◌}
use mathlib.Core.Option.{Option, none, some}
use native.Mathlib.Numerals.{add-one}
use native.Mathlib.Omega.{arith}
use borrow.Author.Tests.{eqb-true, eq-eqb, ne_eqb, lt-ltb, le-ltb, not-true, not-false}
use lib.Dec.{ltb}
use lib.ListN.{length, drop, get_or, drop_of_length-le}
use lib.Seq.{drop-cons}
use Rattle.text.specs.Bytes.{is, is_eol}
use Rattle.text.specs.Runs.{span_end, Within}
use Rattle.text.proofs.Bools.{and_r, or_l, or_r}
use Rattle.text.proofs.Runs.{span-from, span-ends}
use Rattle.std.specs.Prelude.{Option as Maybe, Some, None}
use Rattle.text.specs.Blocks.{clear}
use Rattle.rules.specs.declared.Reading.{Reading}
use Rattle.quotes.specs.Content.{in_quotes}
use Rattle.quotes.specs.Quotes.{more, quoted, quoted_by, field_in, field}
use Rattle.quotes.specs.Answers.{closing, mark_end, quote_end, field_end}
use Rattle.text.proofs.Blocks.{clear-least, clear-other, clear-mark, span-keeps}

or_right : (a b : Bool) → (a || b) ≡ true → a ≡ false → b ≡ true
or_right a b e f = rw f at e

-- byte by byte

closing-more : (o : ℕ) (r : Option ℕ) → closing o (more r) ≡ closing (o + 1) r
unfolding closing more
closing-more o none = refl
closing-more o (some n) = ap Some (omega arith)

module _ (m : ℕ) (s : List ℕ) (o : ℕ) where
  pub quote-go : o < length s → is m (get_or s o 0) ≡ false → is_eol (get_or s o 0) ≡ false → mark_end m s o ≡ mark_end m s (o + 1)
  unfolding mark_end quoted
  quote-go h e f = rw (drop-cons s o 0, e, f, closing-more, add-one)

  pub quote-here : o < length s → is m (get_or s o 0) ≡ true → mark_end m s o ≡ Some (o + 1)
  unfolding mark_end quoted closing
  quote-here h e = rw (drop-cons s o 0, e)

  pub quote-open : o < length s → is m (get_or s o 0) ≡ false → is_eol (get_or s o 0) ≡ true → mark_end m s o ≡ None
  unfolding mark_end quoted closing
  quote-open h e f = rw (drop-cons s o 0, e, f)

  pub quote-over : length s ≤ o → mark_end m s o ≡ None
  unfolding mark_end quoted closing
  quote-over h = rw (drop_of_length-le s h)

-- a byte of at least 14 ends no line, so that a block of such bytes without the mark may be skipped
high-plain : (b : ℕ) → 14 ≤ b → is_eol b ≡ false
unfolding is_eol
high-plain b h = rw (ne_eqb b 10 (λ e. omega arith), ne_eqb b 13 (λ e. omega arith))

pub clear-in-quotes : (m : ℕ) → Within (clear 14 m) (in_quotes m)
unfolding Within in_quotes
clear-in-quotes m b t = rw (clear-other 14 m b t, high-plain b (clear-least 14 m b t))

-- behind the bytes that may stand in quotes: the mark, or none on this line
module _ (m : ℕ) (s : List ℕ) (o e : ℕ) (q : e ≡ span_end (in_quotes m) s o) where
  mark-run : mark_end m s o ≡ mark_end m s e
  unfolding in_quotes
  mark-run = rw q (span-keeps (mark_end m s) (in_quotes m) s o (λ k l h t.
      let n : (is m (get_or s k 0) || is_eol (get_or s k 0)) ≡ false = not-true _ t in
      quote-go m s k h (or_l _ _ n) (or_r _ _ n)))

  pub run-mark : e < length s → get_or s e 0 ≡ m → mark_end m s o ≡ Some (e + 1)
  unfolding is
  run-mark h i = mark-run ∙ quote-here m s e h (eq-eqb _ _ i)

  pub run-other : e < length s → (get_or s e 0 ≡ m → ⊥) → mark_end m s o ≡ None
  unfolding is in_quotes
  run-other h i =
      let p : in_quotes m (get_or s e 0) ≡ false = rw q (span-ends (in_quotes m) s o (rw q at h)) in
      let n : is m (get_or s e 0) ≡ false = ne_eqb _ _ i in
      mark-run ∙ quote-open m s e h n (or_right _ _ (not-false _ p) n)

  pub run-over : length s ≤ e → mark_end m s o ≡ None
  run-over h = mark-run ∙ quote-over m s e h

-- the end of a text field from offset o on; the flag: a byte of a line end stands before
unfoldable pub field_from : Bool → List ℕ → ℕ → Maybe ℕ
field_from eol s o = closing o (field_in eol (drop o s))

pub field-all : (s : List ℕ) (o : ℕ) → field_end s o ≡ field_from false s o
unfolding field_end field field_from
field-all s o = refl

module _ (eol : Bool) (s : List ℕ) (o : ℕ) where
  pub field-go : o < length s → (eol && is 59 (get_or s o 0)) ≡ false → field_from eol s o ≡ field_from (is_eol (get_or s o 0)) s (o + 1)
  unfolding field_from field_in
  field-go h e = rw (drop-cons s o 0, e, closing-more, add-one)

  pub field-here : o < length s → (eol && is 59 (get_or s o 0)) ≡ true → field_from eol s o ≡ Some (o + 1)
  unfolding field_from field_in closing
  field-here h e = rw (drop-cons s o 0, e)

  pub field-over : length s ≤ o → field_from eol s o ≡ None
  unfolding field_from field_in closing
  field-over h = rw (drop_of_length-le s h)

-- by its `;`: the first that has a byte of a line end before it, at the field's start or later, closes the field

-- such a byte stands before offset k
abbrev line_before : List ℕ → ℕ → ℕ → Bool
line_before s o k = ltb o k && is_eol (get_or s (k - 1) 0)

-- the end of a field that starts at o, from offset k on
unfoldable pub field_past : List ℕ → ℕ → ℕ → Maybe ℕ
field_past s o k = field_from (line_before s o k) s k

pub past-start : (s : List ℕ) (o : ℕ) → field_end s o ≡ field_past s o o
unfolding field_past
past-start s o = field-all s o ∙ rw (le-ltb o o (omega arith))

past-go : (s : List ℕ) (o k : ℕ) → o ≤ k → k < length s → (line_before s o k && is 59 (get_or s k 0)) ≡ false → field_past s o k ≡ field_past s o (k + 1)
unfolding field_past
past-go s o k l h e =
    let before : k + 1 - 1 ≡ k = omega arith in
    field-go (line_before s o k) s k h e ∙ rw (lt-ltb o (k + 1) (omega arith), before)

module _ (s : List ℕ) (o k e : ℕ) (l : o ≤ k) (q : e ≡ span_end (clear 0 59) s k) where
  past-mark : field_past s o k ≡ field_past s o e
  past-mark = rw q (span-keeps (field_past s o) (clear 0 59) s k (λ i m h t. past-go s o i (omega arith) h (rw (clear-other 0 59 (get_or s i 0) t, and-false))))

  mark-here : e < length s → is 59 (get_or s e 0) ≡ true
  mark-here h =
      let t : clear 0 59 (get_or s e 0) ≡ false = rw q (span-ends (clear 0 59) s k (rw q at h)) in
      not-false (is 59 (get_or s e 0)) (sym (clear-mark 59 (get_or s e 0)) ∙ t)

  pub past-last : length s ≤ e → field_past s o k ≡ None
  unfolding field_past
  past-last h = past-mark ∙ field-over (line_before s o e) s e h

  pub past-here : e < length s → o < e → is_eol (get_or s (e - 1) 0) ≡ true → field_past s o k ≡ Some (e + 1)
  unfolding field_past
  past-here h i f = past-mark ∙ field-here (line_before s o e) s e h (rw (lt-ltb o e i, f, mark-here h))

  pub past_first : e < length s → e ≤ o → field_past s o k ≡ field_past s o (e + 1)
  past_first h i = past-mark ∙ past-go s o e (omega (arith, q, span-from (clear 0 59) s k)) h (rw (le-ltb o e i))

  pub past-plain : e < length s → is_eol (get_or s (e - 1) 0) ≡ false → field_past s o k ≡ field_past s o (e + 1)
  past-plain h f = past-mark ∙ past-go s o e (omega (arith, q, span-from (clear 0 59) s k)) h (rw (f, and-false))

-- a closing found lies behind the start, at its length
closing-behind : (o e : ℕ) (r : Option ℕ) → closing o r ≡ Some e → (o ≤ e) × (r ≡ some (e - o))
unfolding closing
closing-behind o e none q =
    let z : ◌≡◌ {A = ℕ} 0 1 = cc in
    absurd (omega arith)
closing-behind o e (some n) q =
    let p : o + n ≡ e = cc in
    (omega arith, ap some (omega arith))

closing-nothing : (o : ℕ) (r : Option ℕ) → closing o r ≡ None → r ≡ none
unfolding closing
closing-nothing o none q = refl
closing-nothing o (some n) q =
    let z : ◌≡◌ {A = ℕ} 0 1 = cc in
    absurd (omega arith)

pub mark-behind : (m : ℕ) (s : List ℕ) (o e : ℕ) → mark_end m s o ≡ Some e → (o ≤ e) × (quoted m (drop o s) ≡ some (e - o))
unfolding mark_end
mark-behind m s o e q = closing-behind o e (quoted m (drop o s)) q

pub mark-nothing : (m : ℕ) (s : List ℕ) (o : ℕ) → mark_end m s o ≡ None → quoted m (drop o s) ≡ none
unfolding mark_end
mark-nothing m s o q = closing-nothing o (quoted m (drop o s)) q

pub quote-behind : (r : Reading) (m : ℕ) (s : List ℕ) (o e : ℕ) → quote_end r m s o ≡ Some e → (o ≤ e) × (quoted_by r m (drop o s) ≡ some (e - o))
unfolding quote_end
quote-behind r m s o e q = closing-behind o e (quoted_by r m (drop o s)) q

pub quote-nothing : (r : Reading) (m : ℕ) (s : List ℕ) (o : ℕ) → quote_end r m s o ≡ None → quoted_by r m (drop o s) ≡ none
unfolding quote_end
quote-nothing r m s o q = closing-nothing o (quoted_by r m (drop o s)) q

pub field-behind : (s : List ℕ) (o e : ℕ) → field_end s o ≡ Some e → (o ≤ e) × (field (drop o s) ≡ some (e - o))
unfolding field_end
field-behind s o e q = closing-behind o e (field (drop o s)) q

pub field-nothing : (s : List ℕ) (o : ℕ) → field_end s o ≡ None → field (drop o s) ≡ none
unfolding field_end
field-nothing s o q = closing-nothing o (field (drop o s)) q

-- the first n bytes of s end with the mark m
pub record Ends (m : ℕ) (s : List ℕ) (n : ℕ) : Type 0 where
  pub pos : 0 < n
  pub fits : n ≤ length s
  pub last : get_or s (n - 1) 0 ≡ m

ends_more : (m b : ℕ) (s : List ℕ) (n : ℕ) → Ends m s n → Ends m (b ∷ s) (suc n)
ends_more m b s zero i = absurd (omega (arith, i.pos))
ends_more m b s (suc n) i =
    let p : suc n - 1 ≡ n = omega arith in
    let q : suc (suc n) - 1 ≡ suc n = omega arith in
    record { pos = omega arith; fits = omega (arith, i.fits); last = rw q (rw p at i.last) }

pub ends-step : (m b : ℕ) (s : List ℕ) (n : ℕ) (t u : Bool) (r : Option ℕ) → (t ≡ true → b ≡ m) → ((k : ℕ) → r ≡ some k → Ends m s k) → cond t (some 1) (cond u none (more r)) ≡ some n → Ends m (b ∷ s) n
unfolding more
ends-step m b s n true u r f g e =
    let q : 1 ≡ n = cc in
    rw (← q) (record { pos = omega arith; fits = omega arith; last = f refl })
ends-step m b s n false true r f g e =
    let z : ◌≡◌ {A = ℕ} 0 1 = cc in
    absurd (omega arith)
ends-step m b s n false false none f g e =
    let z : ◌≡◌ {A = ℕ} 0 1 = cc in
    absurd (omega arith)
ends-step m b s n false false (some k) f g e =
    let q : suc k ≡ n = cc in
    rw (← q) (ends_more m b s k (g k refl))

pub quote-ends : (m : ℕ) (s : List ℕ) (n : ℕ) → quoted m s ≡ some n → Ends m s n
unfolding quoted is
quote-ends m [] n e =
    let z : ◌≡◌ {A = ℕ} 0 1 = cc in
    absurd (omega arith)
quote-ends m (b ∷ s) n e = ends-step m b s n (is m b) (is_eol b) (quoted m s) (eqb-true b m) (quote-ends m s) e

field_in-ends : (f : Bool) (s : List ℕ) (n : ℕ) → field_in f s ≡ some n → Ends 59 s n
unfolding field_in is
field_in-ends f [] n e =
    let z : ◌≡◌ {A = ℕ} 0 1 = cc in
    absurd (omega arith)
field_in-ends f (b ∷ s) n e = ends-step 59 b s n (f && is 59 b) false (field_in (is_eol b) s) (λ t. eqb-true b 59 (and_r f (is 59 b) t)) (field_in-ends (is_eol b) s) e

pub field-ends : (s : List ℕ) (n : ℕ) → field s ≡ some n → Ends 59 s n
unfolding field
field-ends s n e = field_in-ends false s n e

-- a quote stays on its line
pub quote-plain : (m : ℕ) → is_eol m ≡ false → (s : List ℕ) (n : ℕ) → quoted m s ≡ some n → (k : ℕ) → k < n → is_eol (get_or s k 0) ≡ false
unfolding quoted more is
quote-plain m p [] n e k l =
    let z : ◌≡◌ {A = ℕ} 0 1 = cc in
    absurd (omega arith)
quote-plain m p (b ∷ s) n e k l = by (is m b) (is_eol b) (quoted m s) k refl refl (quote-plain m p s) e l
  where
    by : (t u : Bool) (r : Option ℕ) (k : ℕ) → is m b ≡ t → is_eol b ≡ u → ((n : ℕ) → r ≡ some n → (k : ℕ) → k < n → is_eol (get_or s k 0) ≡ false) → cond t (some 1) (cond u none (more r)) ≡ some n → k < n → is_eol (get_or (b ∷ s) k 0) ≡ false
    by true u r zero i j f e l = rw (eqb-true b m i) p
    by true u r (suc k) i j f e l =
        let q : 1 ≡ n = cc in
        absurd (omega arith)
    by false true r k i j f e l =
        let z : ◌≡◌ {A = ℕ} 0 1 = cc in
        absurd (omega arith)
    by false false none k i j f e l =
        let z : ◌≡◌ {A = ℕ} 0 1 = cc in
        absurd (omega arith)
    by false false (some d) zero i j f e l = j
    by false false (some d) (suc k) i j f e l =
        let q : suc d ≡ n = cc in
        f d refl k (omega arith)
