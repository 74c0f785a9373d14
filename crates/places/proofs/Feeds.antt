-- Laws of line feeds: where no CR stands, lines are counted by their LF, and the last one begins behind the last of them. Assumes nothing.
use Prim.Native.Nat.{ℕ, zero, suc, ◌+◌, ◌-◌, ◌*◌, ◌≤◌, ◌<◌}
use mathlib.Core.Path.{◌≡◌, refl, sym, ap, ◌∙◌}
use mathlib.Core.Bool.{Bool, true, false, cond, not, ◌&&◌, and-false}
use mathlib.Core.List.{List, [], ◌∷◌}
use native.Mathlib.Numerals.{add-one}
use native.Mathlib.Nat.{add-suc, add-zero, zero-add, zero-mul}
use native.Mathlib.Omega.{arith}
use borrow.Author.Tests.{ne_eqb}
use lib.Dec.{eqb, leb, leb-zero, leb-suc-suc}
use lib.ListN.{length, get_or, take, drop, length-take, length-drop}
use lib.Seq.{drop-drop}
use Rattle.std.specs.Simd.{first_chunks}
use Rattle.places.specs.declared.Place.{Place}
use Rattle.places.specs.declared.Scan.{Scan}
use Rattle.text.specs.Bytes.{is_eol}
use Rattle.text.specs.Runs.{span, runs}
use Rattle.text.specs.Parts.{part}
use Rattle.text.proofs.Parts.{part-at}
use Rattle.places.specs.Lines.{feed, feeds, no_carriage, feeds_or, last_start}
use Rattle.places.specs.Places.{step, scan_at, place_at, closes, Whole, IsPlace}
use Rattle.text.proofs.Bools.{and_l, and_r}
use Rattle.text.proofs.Runs.{runs_none, runs-more, runs-join, runs-less, runs-stop}
use Rattle.places.proofs.Places.{scan_at-suc, step-plain}

-- Counting

pub feed-le : (b : ℕ) → feed b ≤ 1
unfolding feed
feed-le b = by (eqb b 10)
  where
    by : (t : Bool) → cond t 1 0 ≤ 1
    by true = omega arith
    by false = omega arith

pub feeds-le : (n : ℕ) (s : List ℕ) (o : ℕ) → feeds n s o ≤ n
unfolding feeds
feeds-le zero s o = omega arith
feeds-le (suc n) s o = omega (arith, feeds-le n s o, feed-le (get_or s (o + n) 0))

pub feeds-none : (s : List ℕ) (o : ℕ) → feeds 0 s o ≡ 0
unfolding feeds
feeds-none s o = refl

feed-is : (b : ℕ) → eqb b 10 ≡ true → feed b ≡ 1
unfolding feed
feed-is b e = rw e

feed-not : (b : ℕ) → eqb b 10 ≡ false → feed b ≡ 0
unfolding feed
feed-not b e = rw e

feeds-suc : (n : ℕ) (s : List ℕ) (o r : ℕ) → feed (get_or s (o + n) 0) ≡ r → feeds (suc n) s o ≡ feeds n s o + r
unfolding feeds
feeds-suc n s o r e = rw e

feeds-more : (n : ℕ) (s : List ℕ) (o : ℕ) → feeds (n + 1) s o ≡ feeds n s o + feed (get_or s (o + n) 0)
unfolding feeds
feeds-more n s o = rw add-one

pub feeds-count : (n : ℕ) (s : List ℕ) (o count r : ℕ) → count ≡ feeds n s o → r ≡ feed (get_or s (o + n) 0) → count + r ≡ feeds (n + 1) s o
feeds-count n s o count r e f = rw (feeds-more n s o, e, f)

feeds-join : (n m : ℕ) (s : List ℕ) (o : ℕ) → feeds (n + m) s o ≡ feeds n s o + feeds m s (o + n)
unfolding feeds
feeds-join n zero s o = rw (add-zero n, add-zero (feeds n s o))
feeds-join n (suc m) s o =
    let k : o + (n + m) ≡ o + n + m = omega arith in
    rw (add-suc n m, k) (omega (arith, feeds-join n m s o))

-- CR as a block's loop keeps it
pub carriage-byte : (b : ℕ) → eqb b 13 ≡ not (no_carriage b)
unfolding no_carriage
carriage-byte b = by (eqb b 13)
  where
    by : (t : Bool) → t ≡ not (not t)
    by true = refl
    by false = refl

carriage : (b : ℕ) → b ≡ 13 → no_carriage b ≡ false
unfolding no_carriage
carriage b e = rw e

no-carriage : (b : ℕ) → ¬ (b ≡ 13) → no_carriage b ≡ true
unfolding no_carriage
no-carriage b e = rw (ne_eqb b 13 e)

pub feeds-or : (other n : ℕ) (s : List ℕ) (o : ℕ) → runs no_carriage n s o ≡ true → feeds n s o ≡ feeds_or other n s o
unfolding feeds_or
feeds-or other n s o e = rw e

pub feeds-other : (other n : ℕ) (s : List ℕ) (o : ℕ) → runs no_carriage n s o ≡ false → other ≡ feeds_or other n s o
unfolding feeds_or
feeds-other other n s o e = rw e

-- what an answer says
pub record Free (s : List ℕ) (o n count : ℕ) : Type 0 where
  pub free : runs no_carriage n s o ≡ true
  pub sum : count ≡ feeds n s o

pub feeds-told : (other n count : ℕ) (s : List ℕ) (o : ℕ) → count ≡ feeds_or other n s o → ¬ (count ≡ other) → Free s o n count
unfolding feeds_or
feeds-told other n count s o e d = by (runs no_carriage n s o) refl e
  where
    by : (t : Bool) → runs no_carriage n s o ≡ t → count ≡ cond t (feeds n s o) other → Free s o n count
    by true q e = record { free = q; sum = e }
    by false q e = absurd (d e)

pub other-told : (other n count : ℕ) (s : List ℕ) (o : ℕ) → count ≡ feeds_or other n s o → n < other → count ≡ other → runs no_carriage n s o ≡ false
unfolding feeds_or
other-told other n count s o e h d = by (runs no_carriage n s o) refl e
  where
    by : (t : Bool) → runs no_carriage n s o ≡ t → count ≡ cond t (feeds n s o) other → runs no_carriage n s o ≡ false
    by true q e = absurd (omega (arith, feeds-le n s o))
    by false q e = q

-- up to here no CR stands, and count bytes are LF
pub record Counted (s : List ℕ) (at count : ℕ) : Type 0 where
  pub free : runs no_carriage at s 0 ≡ true
  pub sum : count ≡ feeds at s 0

pub counted_start : (s : List ℕ) → Counted s 0 0
counted_start s = record { free = runs_none no_carriage s 0; sum = sym (feeds-none s 0) }

module _ (s : List ℕ) (at count : ℕ) (c : Counted s at count) where
  pub counted-le : count ≤ at
  counted-le = omega (arith, c.sum, feeds-le at s 0)

  pub counted-block : (n r : ℕ) → Free s at n r → Counted s (at + n) (count + r)
  counted-block n r f =
      record {
        free = runs-join no_carriage s 0 at n c.free ∙ rw (zero-add at) f.free;
        sum = rw (feeds-join at n s 0, zero-add at, ← f.sum, ← c.sum);
      }

  pub counted-byte : at < length s → ¬ (get_or s at 0 ≡ 13) → Counted s (at + 1) (count + feed (get_or s at 0))
  counted-byte h d =
      record {
        free = rw (runs-more no_carriage s 0 at (omega arith), zero-add at, c.free, no-carriage (get_or s at 0) d);
        sum = rw (feeds-more at s 0, zero-add at, ← c.sum);
      }

  -- a CR further on
  pub counted-other : (n to other : ℕ) → runs no_carriage n s at ≡ false → at + n ≤ to → other ≡ feeds_or other to s 0
  counted-other n to other e h = feeds-other other to s 0 (runs-less no_carriage s 0 (at + n) to h (runs-join no_carriage s 0 at n c.free ∙ rw (zero-add at) e))

  pub counted-carriage : (to other : ℕ) → at < to → to ≤ length s → get_or s at 0 ≡ 13 → other ≡ feeds_or other to s 0
  counted-carriage to other h w e = counted-other 1 to other (runs-stop no_carriage s at (omega arith) (carriage (get_or s at 0) e)) (omega arith)

  pub counted-end : (to other : ℕ) → at ≡ to → count ≡ feeds_or other to s 0
  counted-end to other e = c.sum ∙ rw e (feeds-or other to s 0 (rw (← e) c.free))

-- A part by itself

module _ (s : List ℕ) (a : ℕ) where
  byte-part : (m k : ℕ) → k < m → get_or (take m (drop a s)) k 0 ≡ get_or s (a + k) 0
  unfolding part
  byte-part m k h = part-at s a m k h

  feeds-part : (n m : ℕ) → n ≤ m → feeds n (take m (drop a s)) 0 ≡ feeds n s a
  unfolding feeds
  feeds-part zero m h = refl
  feeds-part (suc n) m h = rw (zero-add n, byte-part m n (omega arith)) (ap (λ (k : ℕ). k + feed (get_or s (a + n) 0)) (feeds-part n m (omega arith)))

span-take : (p : ℕ → Bool) (n : ℕ) (l : List ℕ) → leb n (span p (take n l)) ≡ leb n (span p l)
unfolding span
span-take p zero l = leb-zero (span p (take 0 l)) ∙ sym (leb-zero (span p l))
span-take p (suc n) [] = refl
span-take p (suc n) (b ∷ l) = by (p b) (span-take p n l)
  where
    by : (t : Bool) → leb n (span p (take n l)) ≡ leb n (span p l) → leb (suc n) (cond t (suc (span p (take n l))) 0) ≡ leb (suc n) (cond t (suc (span p l)) 0)
    by true e = rw (leb-suc-suc, leb-suc-suc) e
    by false e = refl

runs-part : (p : ℕ → Bool) (n : ℕ) (s : List ℕ) (a : ℕ) → runs p n (take n (drop a s)) 0 ≡ runs p n s a
unfolding runs
runs-part p n s a = span-take p n (drop a s)

feeds_or-part : (other n : ℕ) (s : List ℕ) (a : ℕ) → feeds_or other n (take n (drop a s)) 0 ≡ feeds_or other n s a
unfolding feeds_or
feeds_or-part other n s a = rw (runs-part no_carriage n s a, feeds-part s a n n (omega arith))

-- what an answer says of a part that is lent by itself
pub part-feeds : (s : List ℕ) (a to r : ℕ) → a ≤ to → to ≤ length s → (let p = take (to - a) (drop a s) in r ≡ feeds_or (length p + 1) (length p) p 0) → r ≡ feeds_or (to - a + 1) (to - a) s a
part-feeds s a to r h w e =
    let size : length (take (to - a) (drop a s)) ≡ to - a = omega (arith, length-take (to - a) (drop a s), length-drop a s) in
    rw size at e ∙ feeds_or-part (to - a + 1) (to - a) s a

chunk-at : (n k i : ℕ) (s : List ℕ) → i < k → get_or (first_chunks n k s) i [] ≡ take n (drop (i * n) s)
chunk-at n zero i s h = absurd (omega arith)
chunk-at n (suc k) zero s h = rw zero-mul
chunk-at n (suc k) (suc i) s h =
    let e : n + i * n ≡ suc i * n = omega arith in
    chunk-at n k i (drop n s) (omega arith) ∙ rw (drop-drop, e)

-- what an answer says of one of the blocks that a part is cut into
pub block-feeds : (s : List ℕ) (m k r : ℕ) (bs : List (List ℕ)) → bs ≡ first_chunks 32 m s → k < m → r ≡ feeds_or 255 32 (get_or bs k []) 0 → r ≡ feeds_or 255 32 s (k * 32)
block-feeds s m k r bs e h g = g ∙ rw (e, chunk-at 32 m k s h) (feeds_or-part 255 32 s (k * 32))

-- Where the last line begins

pub last_none : (s : List ℕ) (o : ℕ) → last_start (o - o) s o ≡ o
unfolding last_start
last_none s o = let z : o - o ≡ 0 = omega arith in rw z

module _ (s : List ℕ) (o at : ℕ) (h : o < at) where
  pub last-here : get_or s (at - 1) 0 ≡ 10 → last_start (at - o) s o ≡ at
  unfolding last_start
  last-here e =
      let k : at - o ≡ suc (at - 1 - o) = omega arith in
      let j : o + (at - 1 - o) ≡ at - 1 = omega arith in
      rw (k, j, e) (omega arith)

  pub last-before : ¬ (get_or s (at - 1) 0 ≡ 10) → last_start (at - o) s o ≡ last_start (at - 1 - o) s o
  unfolding last_start
  last-before d =
      let k : at - o ≡ suc (at - 1 - o) = omega arith in
      let j : o + (at - 1 - o) ≡ at - 1 = omega arith in
      rw (k, j, ne_eqb (get_or s (at - 1) 0) 10 d)

last-suc : (n : ℕ) (s : List ℕ) (o : ℕ) → eqb (get_or s (o + n) 0) 10 ≡ true → last_start (suc n) s o ≡ o + n + 1
unfolding last_start
last-suc n s o e = rw e

last-same : (n : ℕ) (s : List ℕ) (o : ℕ) → eqb (get_or s (o + n) 0) 10 ≡ false → last_start (suc n) s o ≡ last_start n s o
unfolding last_start
last-same n s o e = rw e

pub last_within : (n : ℕ) (s : List ℕ) (o : ℕ) → last_start n s o ≤ o + n
unfolding last_start
last_within zero s o = omega arith
last_within (suc n) s o = by (eqb (get_or s (o + n) 0) 10) (last_within n s o)
  where
    by : (t : Bool) → last_start n s o ≤ o + n → cond t (o + n + 1) (last_start n s o) ≤ o + suc n
    by true h = omega arith
    by false h = omega arith

-- The place behind n bytes without CR

pub record Fed (s : List ℕ) (o n : ℕ) : Type 0 where
  pub line : (scan_at s (o + n)).line ≡ (scan_at s o).line + feeds n s o
  pub none : feeds n s o ≡ 0 → (scan_at s (o + n)).column ≡ (scan_at s o).column + n
  pub some : 0 < feeds n s o → (scan_at s (o + n)).column + last_start n s o ≡ 1 + (o + n)
  pub half : 0 < n → eqb (scan_at s (o + n)).half 13 ≡ false

-- neither LF nor another byte closes a line end that a CR began
opens : (s : List ℕ) (o n : ℕ) → Whole s o → (0 < n → eqb (scan_at s (o + n)).half 13 ≡ false) → eqb (get_or s (o + n) 0) 13 ≡ false → closes (scan_at s (o + n)).half (get_or s (o + n) 0) ≡ false
unfolding Whole
opens s o zero w f e = rw (add-zero o) w
opens s o (suc n) w f e = rw (f (omega arith), e, and-false)

step-feed : (c : Scan) (b : ℕ) → eqb b 10 ≡ true → closes c.half b ≡ false → step c b ≡ record { line = c.line + 1; column = 1; half = b }
unfolding step is_eol
step-feed c b e d = rw (d, e)

no-eol : (b : ℕ) → eqb b 10 ≡ false → eqb b 13 ≡ false → is_eol b ≡ false
unfolding is_eol
no-eol b e d = rw (e, d)

fed-more : (s : List ℕ) (o n : ℕ) → o + n < length s → Whole s o → eqb (get_or s (o + n) 0) 13 ≡ false → Fed s o n → Fed s o (suc n)
fed-more s o n h w plain i = by (eqb b 10) refl
  where
    b : ℕ
    b = get_or s (o + n) 0

    next : scan_at s (o + suc n) ≡ step (scan_at s (o + n)) b
    next = let k : o + suc n ≡ o + n + 1 = omega arith in ap (scan_at s) k ∙ scan_at-suc s (o + n) (omega arith)

    by : (t : Bool) → eqb b 10 ≡ t → Fed s o (suc n)
    by true q =
        let c : scan_at s (o + suc n) ≡ record { line = (scan_at s (o + n)).line + 1; column = 1; half = b } = next ∙ step-feed (scan_at s (o + n)) b q (opens s o n w i.half plain) in
        let l : (scan_at s (o + suc n)).line ≡ (scan_at s (o + n)).line + 1 = ap (λ (x : Scan). x.line) c in
        let k : (scan_at s (o + suc n)).column ≡ 1 = ap (λ (x : Scan). x.column) c in
        let f : feeds (suc n) s o ≡ feeds n s o + 1 = feeds-suc n s o 1 (feed-is b q) in
        record {
          line = omega (arith, i.line);
          none = λ u. absurd (omega arith);
          some = λ u. omega (arith, last-suc n s o q);
          half = λ u. ap (λ (x : Scan). eqb x.half 13) c ∙ plain;
        }
    by false q =
        let c : scan_at s (o + suc n) ≡ record { line = (scan_at s (o + n)).line; column = (scan_at s (o + n)).column + 1; half = 0 } = next ∙ step-plain (scan_at s (o + n)) b (no-eol b q plain) in
        let l : (scan_at s (o + suc n)).line ≡ (scan_at s (o + n)).line = ap (λ (x : Scan). x.line) c in
        let k : (scan_at s (o + suc n)).column ≡ (scan_at s (o + n)).column + 1 = ap (λ (x : Scan). x.column) c in
        let f : feeds (suc n) s o ≡ feeds n s o + 0 = feeds-suc n s o 0 (feed-not b q) in
        record {
          line = omega (arith, i.line);
          none = λ u. omega (arith, i.none (omega arith));
          some = λ u. omega (arith, last-same n s o q, i.some (omega arith));
          half = λ u. ap (λ (x : Scan). eqb x.half 13) c;
        }

fed : (s : List ℕ) (o n : ℕ) → o + n ≤ length s → Whole s o → runs no_carriage n s o ≡ true → Fed s o n
fed s o zero h w e =
    let z : feeds 0 s o ≡ 0 = feeds-none s o in
    record {
      line = ap (λ (k : ℕ). (scan_at s k).line) (add-zero o) ∙ omega arith;
      none = λ u. ap (λ (k : ℕ). (scan_at s k).column) (add-zero o) ∙ omega arith;
      some = λ u. absurd (omega arith);
      half = λ u. absurd (omega arith);
    }
fed s o (suc n) h w e =
    let b = get_or s (o + n) 0 in
    let both : (runs no_carriage n s o && no_carriage b) ≡ true = sym (runs-more no_carriage s o n (omega arith)) ∙ rw (add-one n) e in
    fed-more s o n (omega arith) w (carriage-byte b ∙ rw (and_r (runs no_carriage n s o) (no_carriage b) both)) (fed s o n (omega arith) w (and_l (runs no_carriage n s o) (no_carriage b) both))

module _ (s : List ℕ) (p : Place) (to count : ℕ) (i : IsPlace s p) (l : p.offset ≤ to) (h : to ≤ length s) (f : Free s p.offset (to - p.offset) count) where
  there : Fed s p.offset (to - p.offset)
  there = fed s p.offset (to - p.offset) (omega arith) i.whole f.free

  arrives : p.offset + (to - p.offset) ≡ to
  arrives = omega arith

  its-line : (scan_at s to).line ≡ p.line + count
  unfolding place_at
  its-line =
      let m : p.line ≡ (scan_at s p.offset).line = ap (λ (q : Place). q.line) i.at in
      let e : (scan_at s to).line ≡ (scan_at s p.offset).line + feeds (to - p.offset) s p.offset = rw arrives at there.line in
      omega (arith, f.sum)

  -- on the line itself
  pub place_same : count ≡ 0 → record { offset = to; line = p.line; column = p.column + (to - p.offset) } ≡ place_at s to
  unfolding place_at
  place_same z =
      let m : p.column ≡ (scan_at s p.offset).column = ap (λ (q : Place). q.column) i.at in
      let e : (scan_at s to).column ≡ (scan_at s p.offset).column + (to - p.offset) = rw arrives at (there.none (sym f.sum ∙ z)) in
      let line : (scan_at s to).line ≡ p.line = omega (arith, its-line) in
      let column : (scan_at s to).column ≡ p.column + (to - p.offset) = omega arith in
      rw (line, column)

  -- on a later one
  pub place-later : 0 < count → record { offset = to; line = p.line + count; column = to - last_start (to - p.offset) s p.offset + 1 } ≡ place_at s to
  unfolding place_at
  place-later z =
      let e : (scan_at s to).column + last_start (to - p.offset) s p.offset ≡ 1 + to = rw arrives at (there.some (rw f.sum at z)) in
      let w : last_start (to - p.offset) s p.offset ≤ to = rw arrives at (last_within (to - p.offset) s p.offset) in
      let column : (scan_at s to).column ≡ to - last_start (to - p.offset) s p.offset + 1 = omega arith in
      rw (its-line, column)
