-- Laws of space and comments. Assumes nothing.
use Prim.Native.Nat.{ℕ, suc, ◌+◌, ◌≤◌, ◌<◌}
use mathlib.Core.Path.{◌≡◌, refl, sym, ap, ◌∙◌}
use mathlib.Core.Bool.{Bool, true, false, cond, not, ◌||◌, true≢false}
use mathlib.Core.List.{List, [], ◌∷◌}
use native.Mathlib.Numerals.{add-one}
use native.Mathlib.Nat.{add-suc, add-zero, suc-add, zero-add}
use native.Mathlib.Omega.{arith}
use borrow.Author.Tests.{eqb-true, ne_eqb, leb-true, leb-false, ltb-true}
use lib.Dec.{leb, ltb, eqb}
use lib.ListN.{length, drop, get_or, length-drop, drop_of_length-le}
use lib.Seq.{drop-cons, drop-drop, get_or-drop}
use Rattle.text.specs.Bytes.{is, is_eol, is_space}
use Rattle.places.specs.declared.Place.{Place}
use Rattle.places.specs.Places.{place_at, Whole, IsPlace}
use Rattle.places.proofs.Places.{whole_before, place-offset, place-own}
use Rattle.gaps.specs.Gaps.{gap_byte, gap_then, gap_in, gap, gap_end, shows_no_gap}
use Rattle.text.specs.Runs.{span, span_end}
use Rattle.places.specs.Lines.{in_line, line_end}
use Rattle.text.proofs.Bools.{or_l, or_r, or_cases}
use Rattle.text.proofs.Blocks.{span-keeps}
use Rattle.places.proofs.Lines.{line-go, line-from}

-- byte by byte
pub gap-go : (m : Bool) (s : List ℕ) (at : ℕ) → at < length s → gap_byte m (get_or s at 0) ≡ true → at + gap_in m (drop at s) ≡ at + 1 + gap_in (gap_then m (get_or s at 0)) (drop (at + 1) s)
unfolding gap_in
gap-go m s at h g = rw (drop-cons s at 0, g, add-one, add-suc, suc-add)

pub gap-stop : (m : Bool) (s : List ℕ) (at : ℕ) → at < length s → gap_byte m (get_or s at 0) ≡ false → at + gap_in m (drop at s) ≡ at
unfolding gap_in
gap-stop m s at h g = rw (drop-cons s at 0, g, add-zero)

pub gap-over : (m : Bool) (s : List ℕ) (at : ℕ) → length s ≤ at → at + gap_in m (drop at s) ≡ at
unfolding gap_in
gap-over m s at h = rw (drop_of_length-le s h, add-zero)

gap_in-le : (m : Bool) (s : List ℕ) → gap_in m s ≤ length s
unfolding gap_in
gap_in-le m [] = omega arith
gap_in-le m (b ∷ s) = by (gap_byte m b) (gap_in-le (gap_then m b) s)
  where
    by : (t : Bool) → gap_in (gap_then m b) s ≤ length s → cond t (suc (gap_in (gap_then m b) s)) 0 ≤ suc (length s)
    by true h = omega arith
    by false h = omega arith

pub gap_from : (s : List ℕ) (o : ℕ) → o ≤ gap_end s o
unfolding gap_end gap
gap_from s o = omega arith

pub gap_within : (s : List ℕ) (o : ℕ) → o ≤ length s → gap_end s o ≤ length s
unfolding gap_end gap
gap_within s o h = omega (arith, gap_in-le false (drop o s), length-drop o s)

-- what is not skipped is no byte of a line end
eol-gap_byte : (m : Bool) (b : ℕ) → gap_byte m b ≡ false → is_eol b ≡ false
unfolding is_eol is_space gap_byte is
eol-gap_byte true b e = absurd (true≢false e)
eol-gap_byte false b e =
    let sp : is_space b ≡ false = or_l (is_space b) _ e in
    let e13 : eqb b 13 ≡ false = or_r (eqb b 32 || eqb b 9 || eqb b 10) (eqb b 13) sp in
    let e10 : eqb b 10 ≡ false = or_r (eqb b 32 || eqb b 9) (eqb b 10) (or_l (eqb b 32 || eqb b 9 || eqb b 10) (eqb b 13) sp) in
    rw (e10, e13)

stops : (m : Bool) (s : List ℕ) → is_eol (get_or s (gap_in m s) 0) ≡ false
unfolding gap_in
stops m [] = unfold is_eol in refl
stops m (b ∷ s) = by (gap_byte m b) refl (stops (gap_then m b) s)
  where
    by : (t : Bool) → gap_byte m b ≡ t → is_eol (get_or s (gap_in (gap_then m b) s) 0) ≡ false → is_eol (get_or (b ∷ s) (cond t (suc (gap_in (gap_then m b) s)) 0) 0) ≡ false
    by true e h = h
    by false e h = eol-gap_byte m b e

-- behind space and comments stands no byte of a line end
pub gap-stops : (s : List ℕ) (o : ℕ) → is_eol (get_or s (gap_end s o) 0) ≡ false
unfolding gap_end gap
gap-stops s o = rw (← get_or-drop o s (gap_in false (drop o s)) 0) (stops false (drop o s))

pub gap-past : (s : List ℕ) (o : ℕ) → length s ≤ o → gap_end s o ≡ o
unfolding gap_end gap
gap-past s o h = gap-over false s o h

-- of a text by itself
pub gap-fits : (s : List ℕ) → gap s ≤ length s
unfolding gap
gap-fits s = gap_in-le false s

gap_in-rest : (c : Bool) (s : List ℕ) → gap_in false (drop (gap_in c s) s) ≡ 0
unfolding gap_in gap_byte
gap_in-rest c [] = refl
gap_in-rest c (b ∷ s) = by c (gap_byte c b) refl (gap_in-rest (gap_then c b) s)
  where
    by : (c : Bool) (t : Bool) → gap_byte c b ≡ t → gap_in false (drop (gap_in (gap_then c b) s) s) ≡ 0 → gap_in false (drop (cond t (suc (gap_in (gap_then c b) s)) 0) (b ∷ s)) ≡ 0
    by c true e h = h
    by true false e h = absurd (true≢false e)
    by false false e h = rw e

-- behind space and comments no more of them stand
pub gap-rest : (s : List ℕ) → gap (drop (gap s) s) ≡ 0
unfolding gap
gap-rest s = gap_in-rest false s

pub gap-none : (s : List ℕ) (o : ℕ) → gap (drop (gap_end s o) s) ≡ 0
unfolding gap_end
gap-none s o = rw (← drop-drop (gap (drop o s)) o s) (gap-rest (drop o s))

-- by the byte that stands there: over a space, over a comment to its line's end, not over another byte

space-gap : (b : ℕ) → is_space b ≡ true → gap_byte false b ≡ true
unfolding gap_byte
space-gap b e = rw e

-- no space is `#`
space-plain : (b : ℕ) → is_space b ≡ true → is 35 b ≡ false
unfolding is_space is
space-plain b e =
    or_cases (eqb b 32 || eqb b 9 || eqb b 10) (eqb b 13)
    (or_cases (eqb b 32 || eqb b 9) (eqb b 10) (or_cases (eqb b 32) (eqb b 9) (λ t. by 32 (eqb-true b 32 t) refl) (λ t. by 9 (eqb-true b 9 t) refl)) (λ t. by 10 (eqb-true b 10 t) refl))
    (λ t. by 13 (eqb-true b 13 t) refl)
    e
  where
    by : (n : ℕ) → b ≡ n → eqb n 35 ≡ false → eqb b 35 ≡ false
    by n q h = rw q h

-- a byte of a line end is a space
eol-space : (b : ℕ) → is_eol b ≡ true → is_space b ≡ true
unfolding is_eol is_space
eol-space b e = or_cases (eqb b 10) (eqb b 13) (λ t. by 10 (eqb-true b 10 t) refl) (λ t. by 13 (eqb-true b 13 t) refl) e
  where
    by : (n : ℕ) → b ≡ n → is_space n ≡ true → is_space b ≡ true
    by n q h = rw q h

pub gap-space : (s : List ℕ) (o : ℕ) → o < length s → is_space (get_or s o 0) ≡ true → gap_end s o ≡ gap_end s (o + 1)
unfolding gap_end gap gap_then
gap-space s o h e = gap-go false s o h (space-gap (get_or s o 0) e) ∙ rw (space-plain (get_or s o 0) e)

-- over the run of space that it starts with
pub gap-run : (s : List ℕ) (o : ℕ) → gap_end s o ≡ gap_end s (span_end is_space s o)
gap-run s o = span-keeps (gap_end s) is_space s o (λ k l h t. gap-space s k h t)

pub gap_other : (s : List ℕ) (o : ℕ) → o < length s → is_space (get_or s o 0) ≡ false → ¬ (get_or s o 0 ≡ 35) → gap_end s o ≡ o
unfolding gap_end gap gap_byte is
gap_other s o h e f = gap-stop false s o h (rw (e, ne_eqb (get_or s o 0) 35 f))

-- in a comment, to the line's end
comment-line : (s : List ℕ) → gap_in true s ≡ span in_line s + gap_in false (drop (span in_line s) s)
unfolding gap_in span gap_byte gap_then in_line
comment-line [] = refl
comment-line (b ∷ s) = by (is_eol b) refl (comment-line s)
  where
    by : (t : Bool) → is_eol b ≡ t → gap_in true s ≡ span in_line s + gap_in false (drop (span in_line s) s) →
        suc (gap_in (not t) s) ≡ cond (not t) (suc (span in_line s)) 0 + gap_in false (drop (cond (not t) (suc (span in_line s)) 0) (b ∷ s))
    by true e h = rw (space-plain b (eol-space b e), eol-space b e, zero-add)
    by false e h = omega (arith, h)

comment-on : (s : List ℕ) (o : ℕ) → o + gap_in true (drop o s) ≡ gap_end s (line_end s o)
unfolding gap_end gap line_end span_end
comment-on s o = rw (comment-line (drop o s), drop-drop (span in_line (drop o s)) o s) (omega arith)

hash-plain : (b : ℕ) → b ≡ 35 → is_eol b ≡ false
unfolding is_eol
hash-plain b q = rw q

hash-gap : (b : ℕ) → b ≡ 35 → gap_byte false b ≡ true
unfolding gap_byte is_space is
hash-gap b q = rw q

hash-then : (b : ℕ) → b ≡ 35 → gap_then false b ≡ true
unfolding gap_then is
hash-then b q = rw q

module _ (s : List ℕ) (o : ℕ) (h : o < length s) (q : get_or s o 0 ≡ 35) where
  pub gap-comment : gap_end s o ≡ gap_end s (line_end s o)
  unfolding gap_end gap
  gap-comment =
      gap-go false s o h (hash-gap (get_or s o 0) q)
      ∙ ap (λ (m : Bool). o + 1 + gap_in m (drop (o + 1) s)) (hash-then (get_or s o 0) q)
      ∙ comment-on s (o + 1)
      ∙ ap (gap_end s) (sym (line-go s o h (hash-plain (get_or s o 0) q)))

  -- a comment has a byte
  pub comment-goes : o < line_end s o
  comment-goes = omega (arith, line-go s o h (hash-plain (get_or s o 0) q), line-from s (o + 1))

-- over the run of space bytes that it starts with
space-byte : (b : ℕ) → is 32 b ≡ true → is_space b ≡ true
unfolding is is_space
space-byte b e = rw e

space-run : (s : List ℕ) → gap_in false s ≡ span (is 32) s + gap_in false (drop (span (is 32) s) s)
unfolding gap_in gap_then span
space-run [] = refl
space-run (b ∷ s) = by (is 32 b) refl (space-run s)
  where
    by : (t : Bool) → is 32 b ≡ t → gap_in false s ≡ span (is 32) s + gap_in false (drop (span (is 32) s) s) →
        cond (gap_byte false b) (suc (gap_in (gap_then false b) s)) 0 ≡ cond t (suc (span (is 32) s)) 0 + gap_in false (drop (cond t (suc (span (is 32) s)) 0) (b ∷ s))
    by true e h = rw (space-gap b (space-byte b e), space-plain b (space-byte b e)) (omega (arith, h))
    by false e h = sym (zero-add _)

pub gap-spaces : (s : List ℕ) (o : ℕ) → gap_end s (span_end (is 32) s o) ≡ gap_end s o
unfolding gap_end gap span_end
gap-spaces s o = rw (← drop-drop (span (is 32) (drop o s)) o s) (omega (arith, space-run (drop o s)))

-- one look may show that there is none
above-hash : (b : ℕ) → 35 < b → is_space b ≡ false
unfolding is_space
above-hash b h = rw (ne_eqb b 32 (omega arith), ne_eqb b 9 (omega arith), ne_eqb b 10 (omega arith), ne_eqb b 13 (omega arith))

pub gap-shown : (s : List ℕ) (o : ℕ) → shows_no_gap s o ≡ true → gap_end s o ≡ o
unfolding shows_no_gap
gap-shown s o e = by (leb (length s) o) refl e
  where
    by : (t : Bool) → leb (length s) o ≡ t → (t || ltb 35 (get_or s o 0)) ≡ true → gap_end s o ≡ o
    by true q e = gap-past s o (leb-true (length s) o q)
    by false q e =
        let h : o < length s = leb-false (length s) o q in
        let above : 35 < get_or s o 0 = ltb-true 35 (get_or s o 0) e in
        gap_other s o h (above-hash (get_or s o 0) above) (omega arith)

-- where it does not, a byte stands there
pub gap-inside : (s : List ℕ) (o : ℕ) → shows_no_gap s o ≡ false → o < length s
unfolding shows_no_gap
gap-inside s o e = by (leb (length s) o) refl e
  where
    by : (t : Bool) → leb (length s) o ≡ t → (t || ltb 35 (get_or s o 0)) ≡ false → o < length s
    by true q e = absurd (true≢false e)
    by false q e = leb-false (length s) o q

-- an LF and space bytes, and one look shows that no more stands behind them
pub gap-line : (s : List ℕ) (o : ℕ) → o < length s → get_or s o 0 ≡ 10 → (e : ℕ) → e ≡ span_end (is 32) s (o + 1) → shows_no_gap s e ≡ true
    → e ≡ gap_end s o
gap-line s o h z e w shown =
    let first : gap_end s o ≡ gap_end s (o + 1) = gap-space s o h (unfold is_space in rw z) in
    sym (first ∙ sym (gap-spaces s (o + 1)) ∙ ap (gap_end s) (sym w) ∙ gap-shown s e shown)

-- no line end is parted behind space and comments, so that a place there is one to go on from
pub gap-whole : (s : List ℕ) (o : ℕ) → Whole s (gap_end s o)
gap-whole s o = whole_before s (gap_end s o) (gap-stops s o)

pub is-gap-end : (s : List ℕ) (p q : Place) → IsPlace s p → q ≡ place_at s (gap_end s p.offset) → IsPlace s q
is-gap-end s p q i e =
    let o : q.offset ≡ gap_end s p.offset = place-offset s q (gap_end s p.offset) e in
    record {
      at = place-own s q (gap_end s p.offset) e;
      whole = rw o (gap-whole s p.offset);
      within = rw o (gap_within s p.offset i.within);
    }
