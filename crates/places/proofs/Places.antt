-- Laws of places. Assumes nothing.
use Prim.Native.Nat.{ℕ, zero, suc, ◌+◌, ◌-◌, ◌≤◌, ◌<◌}
use mathlib.Core.Path.{◌≡◌, refl, sym, ap, ◌∙◌}
use mathlib.Core.Bool.{Bool, true, false, cond, and-false}
use mathlib.Core.List.{List, [], ◌∷◌, ◌++◌}
use native.Mathlib.Numerals.{add-one}
use native.Mathlib.Nat.{add-zero}
use native.Mathlib.Omega.{arith}
use borrow.Author.Tests.{eqb-true}
use lib.Dec.{eqb}
use lib.ListN.{length, take, get_or, length-take}
use lib.Seq.{take-suc, take_all, get_or-take, length-take-le}
use Rattle.places.specs.declared.Place.{Place}
use Rattle.places.specs.declared.Scan.{Scan}
use Rattle.text.specs.Bytes.{is, is_eol}
use Rattle.places.specs.Lines.{line_end}
use Rattle.text.specs.Runs.{span_end}
use Rattle.places.specs.Places.{start, over, step, scan, scan_at, place_at, closes, along as along_of, Whole, IsPlace}
use Rattle.text.proofs.Bools.{or_l, or_r}
use Rattle.text.proofs.Runs.{span-from, span-within, span-all}
use Rattle.places.proofs.Lines.{line-go, line-from, line-within, line_plain}

-- Scanning

pub scan-append : (c : Scan) (xs ys : List ℕ) → scan c (xs ++ ys) ≡ scan (scan c xs) ys
unfolding scan
scan-append c [] ys = refl
scan-append c (x ∷ xs) ys = scan-append (step c x) xs ys

-- one byte more
pub scan-take : (c : Scan) (s : List ℕ) (n : ℕ) → n < length s → scan c (take (n + 1) s) ≡ step (scan c (take n s)) (get_or s n 0)
unfolding scan
scan-take c s n h = rw (add-one, take-suc s n 0, scan-append)

pub scan_at-suc : (s : List ℕ) (o : ℕ) → o < length s → scan_at s (o + 1) ≡ step (scan_at s o) (get_or s o 0)
unfolding scan_at
scan_at-suc s o h = scan-take start s o h

-- d is c but for half, and b closes a line end in both or in neither: one step over b makes them equal
pub record Like (c d : Scan) (b : ℕ) : Type 0 where
  pub line : c.line ≡ d.line
  pub column : c.column ≡ d.column
  pub closing : closes c.half b ≡ closes d.half b

pub like-self : (c : Scan) (b : ℕ) → Like c c b
like-self c b = record { line = refl; column = refl; closing = refl }

pub like-step : (c d : Scan) (b : ℕ) → Like c d b → step c b ≡ step d b
unfolding step
like-step c d b h = rw (h.closing, h.line, h.column)

pub like-next : (s : List ℕ) (at : ℕ) (c : Scan) → at < length s → Like c (scan_at s at) (get_or s at 0) → step c (get_or s at 0) ≡ scan_at s (at + 1)
like-next s at c h l = like-step c (scan_at s at) (get_or s at 0) l ∙ sym (scan_at-suc s at h)

-- a place is enough to go on from, where it parts no line end
pub like-whole : (s : List ℕ) (p : Place) → IsPlace s p → Like (record { line = p.line; column = p.column; half = 0 }) (scan_at s p.offset) (get_or s p.offset 0)
unfolding place_at Whole
like-whole s p i = record { line = ap (λ (q : Place). q.line) i.at; column = ap (λ (q : Place). q.column) i.at; closing = sym i.whole }

-- and gives the place where it ends
pub like-place : (s : List ℕ) (at to b : ℕ) (c : Scan) → at ≡ to → Like c (scan_at s at) b → record { offset = at; line = c.line; column = c.column } ≡ place_at s to
unfolding place_at
like-place s at to b c e h = rw (← e, h.line, h.column)

-- line and column are at most one more than the bytes passed
step_line : (c : Scan) (b : ℕ) → (step c b).line ≤ c.line + 1
unfolding step
step_line c b = by-eol (is_eol b)
  where
    by-closes : (t : Bool) → (over t c.line b).line ≤ c.line + 1
    by-closes true = omega arith
    by-closes false = omega arith

    by-eol : (t : Bool) → (cond t (over (closes c.half b) c.line b) (record { line = c.line; column = c.column + 1; half = 0 })).line ≤ c.line + 1
    by-eol true = by-closes (closes c.half b)
    by-eol false = omega arith

step-column : (c : Scan) (b : ℕ) → (step c b).column ≤ c.column + 1
unfolding step
step-column c b = by-eol (is_eol b)
  where
    by-closes : (t : Bool) → (over t c.line b).column ≤ c.column + 1
    by-closes true = omega arith
    by-closes false = omega arith

    by-eol : (t : Bool) → (cond t (over (closes c.half b) c.line b) (record { line = c.line; column = c.column + 1; half = 0 })).column ≤ c.column + 1
    by-eol true = by-closes (closes c.half b)
    by-eol false = omega arith

scan-line : (c : Scan) (s : List ℕ) → (scan c s).line ≤ c.line + length s
unfolding scan
scan-line c [] = omega arith
scan-line c (b ∷ s) = omega (arith, scan-line (step c b) s, step_line c b)

scan-column : (c : Scan) (s : List ℕ) → (scan c s).column ≤ c.column + length s
unfolding scan
scan-column c [] = omega arith
scan-column c (b ∷ s) = omega (arith, scan-column (step c b) s, step-column c b)

pub line-bound : (s : List ℕ) (o : ℕ) → (scan_at s o).line ≤ o + 1
unfolding scan_at
line-bound s o = omega (arith, scan-line start (take o s), length-take o s)

pub column-bound : (s : List ℕ) (o : ℕ) → (scan_at s o).column ≤ o + 1
unfolding scan_at
column-bound s o = omega (arith, scan-column start (take o s), length-take o s)

-- an offset where no line end stands parts none
pub whole_before : (s : List ℕ) (o : ℕ) → is_eol (get_or s o 0) ≡ false → Whole s o
unfolding Whole is_eol
whole_before s o e =
    let b = get_or s o 0 in
    let e10 : eqb b 10 ≡ false = or_l (eqb b 10) (eqb b 13) e in
    let e13 : eqb b 13 ≡ false = or_r (eqb b 10) (eqb b 13) e in
    rw (e10, e13, and-false, and-false)

-- the text's start
pub place-start : (s : List ℕ) → record { offset = 0; line = 1; column = 1 } ≡ place_at s 0
unfolding place_at scan_at scan
place-start s = refl

pub whole-start : (s : List ℕ) → Whole s 0
unfolding Whole scan_at scan
whole-start s = refl

-- over bytes that end no line

pub step-plain : (c : Scan) (b : ℕ) → is_eol b ≡ false → step c b ≡ record { line = c.line; column = c.column + 1; half = 0 }
unfolding step
step-plain c b e = rw e

-- n bytes on, the line is the same, the column n more, and no line end is begun
pub record Along (s : List ℕ) (o n : ℕ) : Type 0 where
  pub line : (scan_at s (o + n)).line ≡ (scan_at s o).line
  pub column : (scan_at s (o + n)).column ≡ (scan_at s o).column + n
  pub half : 0 < n → (scan_at s (o + n)).half ≡ 0

pub along : (s : List ℕ) (o n : ℕ) → o + n ≤ length s → ((k : ℕ) → o ≤ k → k < o + n → is_eol (get_or s k 0) ≡ false) → Along s o n
along s o zero h f =
    record {
      line = ap (λ (k : ℕ). (scan_at s k).line) (add-zero o);
      column = ap (λ (k : ℕ). (scan_at s k).column) (add-zero o) ∙ sym (add-zero (scan_at s o).column);
      half = λ p. absurd (omega arith);
    }
along s o (suc n) h f =
    let i : Along s o n = along s o n (omega arith) (λ k a b. f k a (omega arith)) in
    let k : o + suc n ≡ o + n + 1 = omega arith in
    let e : scan_at s (o + suc n) ≡ record { line = (scan_at s (o + n)).line; column = (scan_at s (o + n)).column + 1; half = 0 } =
    ap (scan_at s) k ∙ scan_at-suc s (o + n) (omega arith) ∙ step-plain (scan_at s (o + n)) (get_or s (o + n) 0) (f (o + n) (omega arith) (omega arith)) in
    record {
      line = ap (λ (c : Scan). c.line) e ∙ i.line;
      column = ap (λ (c : Scan). c.column) e ∙ omega (arith, i.column);
      half = λ p. ap (λ (c : Scan). c.half) e;
    }

-- as a scan keeps it
pub like-along : (s : List ℕ) (o e b : ℕ) (c : Scan) → o < e → e ≤ length s → ((k : ℕ) → o ≤ k → k < e → is_eol (get_or s k 0) ≡ false) → Like c (scan_at s o) b → Like (along_of c (e - o)) (scan_at s e) (get_or s e 0)
unfolding along_of
like-along s o e b c l h f i =
    let k : o + (e - o) ≡ e = omega arith in
    let a : Along s o (e - o) = along s o (e - o) (omega arith) (λ j u w. f j u (omega arith)) in
    record {
      line = i.line ∙ sym a.line ∙ ap (λ (j : ℕ). (scan_at s j).line) k;
      column = ap (λ (j : ℕ). j + (e - o)) i.column ∙ sym a.column ∙ ap (λ (j : ℕ). (scan_at s j).column) k;
      closing = ap (λ (j : ℕ). closes j (get_or s e 0)) (sym (a.half (omega arith)) ∙ ap (λ (j : ℕ). (scan_at s j).half) k);
    }

-- the rest of a line within the first n bytes
pub record Rest (s : List ℕ) (o n e : ℕ) : Type 0 where
  pub goes : o < e
  pub fits : e ≤ n
  pub plain : (k : ℕ) → o ≤ k → k < e → is_eol (get_or s k 0) ≡ false

pub line-rest : (s : List ℕ) (o n : ℕ) → o < n → n ≤ length s → is_eol (get_or s o 0) ≡ false → Rest s o n (line_end (take n s) o)
line-rest s o n l h e =
    let t = take n s in
    let w : length t ≡ n = length-take-le n s h in
    let f : (k : ℕ) → k < n → get_or t k 0 ≡ get_or s k 0 = λ k g. get_or-take n s k 0 g in
    let p : is_eol (get_or t o 0) ≡ false = rw (f o l) e in
    let fit : line_end t o ≤ n = omega (arith, line-within t o (omega arith)) in
    record {
      goes = omega (arith, line-go t o (omega arith) p, line-from t (o + 1));
      fits = fit;
      plain = λ k u v. rw (f k (omega arith)) at (line_plain t o k u v);
    }

pub place-along : (s : List ℕ) (p : Place) (e : ℕ) → p ≡ place_at s p.offset → p.offset ≤ e → e ≤ length s → ((k : ℕ) → p.offset ≤ k → k < e → is_eol (get_or s k 0) ≡ false) →
    record { offset = e; line = p.line; column = p.column + (e - p.offset) } ≡ place_at s e
unfolding place_at
place-along s p e q le h f =
    let k : p.offset + (e - p.offset) ≡ e = omega arith in
    let a : Along s p.offset (e - p.offset) = along s p.offset (e - p.offset) (omega arith) (λ j u w. f j u (omega arith)) in
    let l : (scan_at s e).line ≡ p.line = ap (λ (j : ℕ). (scan_at s j).line) (sym k) ∙ a.line ∙ sym (ap (λ (x : Place). x.line) q) in
    let c : (scan_at s e).column ≡ p.column + (e - p.offset) = ap (λ (j : ℕ). (scan_at s j).column) (sym k) ∙ a.column ∙ ap (λ (j : ℕ). j + (e - p.offset)) (sym (ap (λ (x : Place). x.column) q)) in
    rw (l, c)

pub place-column : (s : List ℕ) (p : Place) → p ≡ place_at s p.offset → p.column ≤ p.offset + 1
unfolding place_at
place-column s p e =
    let c : p.column ≡ (scan_at s p.offset).column = ap (λ (x : Place). x.column) e in
    rw c (column-bound s p.offset)

-- a place by its offset
pub place-offset : (s : List ℕ) (p : Place) (o : ℕ) → p ≡ place_at s o → p.offset ≡ o
unfolding place_at
place-offset s p o e = ap (λ (x : Place). x.offset) e

pub place-own : (s : List ℕ) (p : Place) (o : ℕ) → p ≡ place_at s o → p ≡ place_at s p.offset
place-own s p o e = e ∙ ap (place_at s) (sym (place-offset s p o e))

pub whole-along : (s : List ℕ) (o e : ℕ) → Whole s o → o ≤ e → e ≤ length s → ((k : ℕ) → o ≤ k → k < e → is_eol (get_or s k 0) ≡ false) → Whole s e
unfolding Whole
whole-along s o e w le h f = by (e - o) refl
  where
    by : (n : ℕ) → e - o ≡ n → closes (scan_at s e).half (get_or s e 0) ≡ false
    by zero q =
        let k : e ≡ o = omega arith in
        rw k w
    by (suc n) q =
        let k : e ≡ o + suc n = omega arith in
        let z : (scan_at s e).half ≡ 0 = ap (λ (j : ℕ). (scan_at s j).half) k ∙ (along s o (suc n) (omega arith) (λ j u v. f j u (omega arith))).half (omega arith) in
        rw z

pub place-line : (s : List ℕ) (p : Place) → p ≡ place_at s p.offset → p.line ≤ p.offset + 1
unfolding place_at
place-line s p e =
    let c : p.line ≡ (scan_at s p.offset).line = ap (λ (x : Place). x.line) e in
    rw c (line-bound s p.offset)

-- the steps that keep a place

pub is-start : (s : List ℕ) → IsPlace s (record { offset = 0; line = 1; column = 1 })
is-start s = record { at = place-start s; whole = whole-start s; within = omega arith }

-- over bytes that end no line
pub is-along : (s : List ℕ) (p q : Place) (e : ℕ) → IsPlace s p → q ≡ place_at s e → p.offset ≤ e → e ≤ length s → ((k : ℕ) → p.offset ≤ k → k < e → is_eol (get_or s k 0) ≡ false) → IsPlace s q
is-along s p q e i h l w f =
    let o : q.offset ≡ e = place-offset s q e h in
    record {
      at = place-own s q e h;
      whole = rw o (whole-along s p.offset e i.whole l w f);
      within = rw o w;
    }

-- over space bytes
space-plain : (b : ℕ) → is 32 b ≡ true → is_eol b ≡ false
unfolding is is_eol
space-plain b e = rw (eqb-true b 32 e)

pub is-spaces-end : (s : List ℕ) (p : Place) (e : ℕ) → IsPlace s p → e ≡ span_end (is 32) s p.offset → IsPlace s (record { offset = e; line = p.line; column = p.column + (e - p.offset) })
is-spaces-end s p e i h =
    let l : p.offset ≤ e = rw h (span-from (is 32) s p.offset) in
    let w : e ≤ length s = rw h (span-within (is 32) s p.offset i.within) in
    let f : (k : ℕ) → p.offset ≤ k → k < e → is_eol (get_or s k 0) ≡ false = λ k u v. space-plain (get_or s k 0) (span-all (is 32) s p.offset k u (rw h at v)) in
    is-along s p _ e i (place-along s p e i.at l w f) l w f

-- behind an LF another line starts, and goes on over space bytes
place-feed : (s : List ℕ) (p : Place) → IsPlace s p → p.offset < length s → get_or s p.offset 0 ≡ 10
    → record { offset = p.offset + 1; line = p.line + 1; column = 1 } ≡ place_at s (p.offset + 1)
unfolding place_at step is_eol
place-feed s p i h z = rw (← like-next s p.offset _ h (like-whole s p i), z)

pub place-next-line : (s : List ℕ) (p : Place) (e : ℕ) → IsPlace s p → p.offset < length s → get_or s p.offset 0 ≡ 10
    → e ≡ span_end (is 32) s (p.offset + 1) → record { offset = e; line = p.line + 1; column = e - p.offset } ≡ place_at s e
place-next-line s p e i h z w =
    let n = p.offset + 1 in
    let from : n ≤ e = rw w (span-from (is 32) s n) in
    let to : e ≤ length s = rw w (span-within (is 32) s n (omega arith)) in
    let f : (k : ℕ) → n ≤ k → k < e → is_eol (get_or s k 0) ≡ false = λ k u v. space-plain (get_or s k 0) (span-all (is 32) s n k u (rw w at v)) in
    let columns : e - p.offset ≡ 1 + (e - n) = omega arith in
    rw columns (place-along s (record { offset = n; line = p.line + 1; column = 1 }) e (place-feed s p i h z) from to f)

-- behind a byte that ends no line
pub whole-after : (s : List ℕ) (o : ℕ) → o < length s → is_eol (get_or s o 0) ≡ false → Whole s (o + 1)
unfolding Whole
whole-after s o h e =
    let z : (scan_at s (o + 1)).half ≡ 0 = ap (λ (c : Scan). c.half) (scan_at-suc s o h ∙ step-plain (scan_at s o) (get_or s o 0) e) in
    rw z

-- behind the text's end a place has the end's line and column
pub place-past : (s : List ℕ) (o : ℕ) (p : Place) → length s ≤ o → p ≡ place_at s (length s) → record { offset = o; line = p.line; column = p.column } ≡ place_at s o
unfolding place_at scan_at
place-past s o p h e =
    let l : p.line ≡ (scan start (take (length s) s)).line = ap (λ (q : Place). q.line) e in
    let c : p.column ≡ (scan start (take (length s) s)).column = ap (λ (q : Place). q.column) e in
    rw (l, c, take_all o s h, take_all (length s) s (omega arith))
