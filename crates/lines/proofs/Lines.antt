-- Laws of lines and control bytes: lines that keep their limit are passed over many at once, and what is found is the
-- earlier of two scans. Assumes nothing.
use Prim.Native.Nat.{ℕ, zero, suc, ◌+◌, ◌-◌, ◌≤◌, ◌<◌}
use mathlib.Core.Path.{◌≡◌, refl, sym, ap, ◌∙◌}
use mathlib.Core.Bool.{Bool, true, false, not, cond, ◌&&◌, ◌||◌, and-false, or-true}
use mathlib.Core.List.{List, [], ◌∷◌, ◌++◌}
use native.Mathlib.Nat.{zero-add}
use native.Mathlib.Numerals.{add-one}
use native.Mathlib.Omega.{arith}
use borrow.Author.Tests.{eq-eqb, ne_eqb, eqb-true, eqb-false, ltb-true, ltb-false, lt-ltb, le-ltb, leb-true, leb-false, lt-leb, le-leb}
use lib.Dec.{eqb, ltb, leb}
use lib.ListN.{length, drop, get_or, drop_of_length-le}
use lib.Seq.{drop-cons}
use Rattle.std.specs.Prelude.{Result, Ok, Err}
use Rattle.text.specs.Bytes.{is, is_ascii, is_eol}
use Rattle.text.specs.Runs.{span, span_end, runs}
use Rattle.text.specs.Blocks.{clear}
use Rattle.text.proofs.Bools.{and_l, and_r}
use Rattle.text.proofs.Blocks.{clear-least, block-keeps}
use Rattle.text.proofs.Runs.{span-le, span-end, span-block, runs-met}
use Rattle.lines.specs.declared.Flaw.{Flaw}
use Rattle.lines.specs.declared.Flaw.TheVariants.{LongLine, Control}
use Rattle.lines.specs.Ends.{behind_last}
use Rattle.lines.specs.Lines.{is_control, no_control, is_plain, is_printed, column, is_long, short, screen_from, screened, is_fine, fits}

-- Lines

-- where the first byte stands that is one too many, from offset o on; c bytes of its line stand before
unfoldable pub short_at : ℕ → List ℕ → ℕ → ℕ
short_at c s o = o + short c (drop o s)

pub short-start : (c : ℕ) (s : List ℕ) → short c s ≡ short_at c s 0
unfolding short_at
short-start c s = sym (omega arith)

module _ (c : ℕ) (s : List ℕ) (o : ℕ) where
  short-go : o < length s → is_eol (get_or s o 0) ≡ false → c < 2048 → short_at c s o ≡ short_at (c + 1) s (o + 1)
  unfolding short_at short is_long column
  short-go h e l = rw (drop-cons s o 0 h, ne_eqb c 2048 (λ q. omega arith), e, add-one o, add-one c) (omega arith)

  short-eol : o < length s → is_eol (get_or s o 0) ≡ true → short_at c s o ≡ short_at 0 s (o + 1)
  unfolding short_at short is_long column
  short-eol h e = rw (drop-cons s o 0 h, e, and-false (eqb c 2048), add-one o) (omega arith)

  short-here : o < length s → is_eol (get_or s o 0) ≡ false → c ≡ 2048 → short_at c s o ≡ o
  unfolding short_at short is_long
  short-here h e l = rw (drop-cons s o 0 h, eq-eqb c 2048 l, e) (omega arith)

  short-over : length s ≤ o → short_at c s o ≡ o
  unfolding short_at short
  short-over h = rw (drop_of_length-le s h) (omega arith)

-- bytes of one line, as many as it may have
short-run : (n : ℕ) (c : ℕ) (s : List ℕ) (o : ℕ) → o + n ≤ length s → c + n ≤ 2048
    → ((k : ℕ) → o ≤ k → k < o + n → is_eol (get_or s k 0) ≡ false) → short_at c s o ≡ short_at (c + n) s (o + n)
short-run zero c s o h l f =
    let a : c + 0 ≡ c = omega arith in
    let b : o + 0 ≡ o = omega arith in
    rw (a, b)
short-run (suc n) c s o h l f =
    let a : c + suc n ≡ c + 1 + n = omega arith in
    let b : o + suc n ≡ o + 1 + n = omega arith in
    let on = short-run n (c + 1) s (o + 1) (omega arith) (omega arith) (λ k m u. f k (omega arith) (omega arith)) in
    rw (a, b) (short-go c s o (omega arith) (f o (omega arith) (omega arith)) (omega arith) ∙ on)

-- bytes of any lines, no more than the first has room for: so many then stand on the last of these lines
short_on : (n c : ℕ) (s : List ℕ) (o : ℕ) → o + n ≤ length s → c + n ≤ 2048
    → (d : ℕ) × short_at c s o ≡ short_at d s (o + n)
short_on zero c s o h l = (c, let z : o + 0 ≡ o = omega arith in rw z)
short_on (suc n) c s o h l = by (is_eol (get_or s o 0)) refl (λ d. short_on n d s (o + 1) (omega arith))
  where
    next : o + 1 + n ≡ o + suc n
    next = omega arith

    by : (t : Bool) → is_eol (get_or s o 0) ≡ t
        → ((d : ℕ) → d + n ≤ 2048 → (e : ℕ) × short_at d s (o + 1) ≡ short_at e s (o + 1 + n))
        → (d : ℕ) × short_at c s o ≡ short_at d s (o + suc n)
    by true e f =
        let on = f 0 (omega arith) in
        (on.0, short-eol c s o (omega arith) e ∙ rw next at on.1)
    by false e f =
        let on = f (c + 1) (omega arith) in
        (on.0, short-go c s o (omega arith) e (omega arith) ∙ rw next at on.1)

-- behind the last line end of some bytes, from their end back: a byte that ends a line, one that ends none
module _ (s : List ℕ) (o n k : ℕ) (z : n ≡ suc k) where
  pub last-here : is_eol (get_or s (o + k) 0) ≡ true → behind_last s o n ≡ o + k + 1
  unfolding behind_last
  last-here e = rw (z, e, add-one (o + k))

  pub last-back : is_eol (get_or s (o + k) 0) ≡ false → behind_last s o n ≡ behind_last s o k
  unfolding behind_last
  last-back e = rw (z, e)

pub last_none : (s : List ℕ) (o : ℕ) → behind_last s o 0 ≡ o
unfolding behind_last
last_none s o = refl

-- a byte of at least 14 ends no line, so that a block of such bytes at the end may be skipped
high-no-eol : (b : ℕ) → 14 ≤ b → is_eol b ≡ false
unfolding is_eol
high-no-eol b h = rw (ne_eqb b 10 (λ e. omega arith), ne_eqb b 13 (λ e. omega arith))

pub last_block : (s : List ℕ) (o n at : ℕ) → 16 ≤ n → at ≡ o + n - 16 → runs (clear 14 0) 16 s at ≡ true
    → behind_last s o n ≡ behind_last s o (n - 16)
last_block s o n at h z e =
    let back : (k : ℕ) → at ≤ k → k < length s → clear 14 0 (get_or s k 0) ≡ true → behind_last s o (k - o) ≡ behind_last s o (k + 1 - o) =
    λ k l u t.
    let here : o + (k - o) ≡ k = omega arith in
    sym (last-back s o (k + 1 - o) (k - o) (omega arith) (rw here (high-no-eol (get_or s k 0) (clear-least 14 0 (get_or s k 0) t)))) in
    let from : at - o ≡ n - 16 = omega arith in
    let to : at + 16 - o ≡ n = omega arith in
    let kept = block-keeps (λ k. behind_last s o (k - o)) (clear 14 0) s at back 16 e in
    sym (rw (from, to) at kept)

last-le : (s : List ℕ) (o n : ℕ) → behind_last s o n ≤ o + n
last-le s o zero = omega (arith, last_none s o)
last-le s o (suc n) = by (is_eol (get_or s (o + n) 0)) refl (last-le s o n)
  where
    by : (t : Bool) → is_eol (get_or s (o + n) 0) ≡ t → behind_last s o n ≤ o + n → behind_last s o (suc n) ≤ o + suc n
    by true e h = omega (arith, last-here s o (suc n) n refl e)
    by false e h = omega (arith, last-back s o (suc n) n refl e)

pub last_within : (s : List ℕ) (o n next : ℕ) → next ≡ behind_last s o n → o + n ≤ length s → next ≤ length s
last_within s o n next q h = omega (arith, last-le s o n)

-- without one, none of them ends a line
no_end : (s : List ℕ) (o n : ℕ) → behind_last s o n ≤ o → (k : ℕ) → o ≤ k → k < o + n → is_eol (get_or s k 0) ≡ false
no_end s o zero h k l u = absurd (omega arith)
no_end s o (suc n) h k l u = by (is_eol (get_or s (o + n) 0)) refl (eqb k (o + n)) refl (no_end s o n)
  where
    by : (t : Bool) → is_eol (get_or s (o + n) 0) ≡ t → (v : Bool) → eqb k (o + n) ≡ v
        → (behind_last s o n ≤ o → (k : ℕ) → o ≤ k → k < o + n → is_eol (get_or s k 0) ≡ false) → is_eol (get_or s k 0) ≡ false
    by true e v q f = absurd (omega (arith, last-here s o (suc n) n refl e))
    by false e true q f = rw (eqb-true k (o + n) q) e
    by false e false q f =
        let d : k ≡ o + n → ⊥ = eqb-false k (o + n) q in
        f (omega (arith, last-back s o (suc n) n refl e)) k l (omega arith)

-- with one, no byte before it is one too many
to_last : (n c : ℕ) (s : List ℕ) (o : ℕ) → o + n ≤ length s → c + n ≤ 2049 → o < behind_last s o n
    → short_at c s o ≡ short_at 0 s (behind_last s o n)
to_last zero c s o h l i = absurd (omega (arith, last_none s o))
to_last (suc n) c s o h l i = by (is_eol (get_or s (o + n) 0)) refl (to_last n c s o)
  where
    by : (t : Bool) → is_eol (get_or s (o + n) 0) ≡ t
        → (o + n ≤ length s → c + n ≤ 2049 → o < behind_last s o n → short_at c s o ≡ short_at 0 s (behind_last s o n))
        → short_at c s o ≡ short_at 0 s (behind_last s o (suc n))
    by true e f =
        let on = short_on n c s o (omega arith) (omega arith) in
        rw (last-here s o (suc n) n refl e) (on.1 ∙ short-eol on.0 s (o + n) (omega arith) e)
    by false e f =
        let back = last-back s o (suc n) n refl e in
        rw back (f (omega arith) (omega arith) (rw back at i))

-- where the line at o has so much room: all of the text fits, a byte is one too many, or more lines follow
module _ (c : ℕ) (s : List ℕ) (o room : ℕ) (z : c + room ≡ 2048) where
  pub rest-fits : o ≤ length s → length s - o ≤ room → short_at c s o ≡ length s
  rest-fits h l =
      let on = short_on (length s - o) c s o (omega arith) (omega arith) in
      let all : o + (length s - o) ≡ length s = omega arith in
      on.1 ∙ short-over on.0 s (o + (length s - o)) (omega arith) ∙ all

  module _ (n next : ℕ) (w : n ≡ room + 1) (h : room < length s - o) (q : next ≡ behind_last s o n) where
    pub line-long : next ≤ o → short_at c s o ≡ o + room
    line-long l =
        let none = no_end s o n (rw (← q) l) in
        short-run room c s o (omega arith) (omega arith) (λ k a b. none k a (omega arith))
        ∙ short-here (c + room) s (o + room) (omega arith) (none (o + room) (omega arith) (omega arith)) z

    pub lines_next : o < next → short_at c s o ≡ short_at 0 s next
    lines_next l = rw q (to_last n c s o (omega arith) (omega arith) (rw (← q) l))

-- Control bytes

control-start : (s : List ℕ) → span no_control s ≡ span_end no_control s 0
control-start s = sym (span-end no_control s 0 ∙ omega arith)

pub control-stop : (b : ℕ) → is_control b ≡ true → no_control b ≡ false
unfolding no_control
control-stop b e = rw e

pub control-go : (b : ℕ) → is_control b ≡ false → no_control b ≡ true
unfolding no_control
control-go b e = rw e

-- a byte that may stand in a text is no control byte, and ASCII
pub plain-control : (b : ℕ) → is_plain b ≡ true → no_control b ≡ true
unfolding is_plain
plain-control b e = and_r (is_ascii b) (no_control b) e

pub plain-ascii : (b : ℕ) → is_plain b ≡ true → is_ascii b ≡ true
unfolding is_plain
plain-ascii b e = and_l (is_ascii b) (no_control b) e

-- a class within another: its runs are runs of the other
pub span-wider : (p q : ℕ → Bool) → ((b : ℕ) → p b ≡ true → q b ≡ true) → (s : List ℕ) → span p s ≤ span q s
unfolding span
span-wider p q f [] = omega arith
span-wider p q f (b ∷ s) = by (p b) refl (span-wider p q f s)
  where
    by : (t : Bool) → p b ≡ t → span p s ≤ span q s → cond t (suc (span p s)) 0 ≤ cond (q b) (suc (span q s)) 0
    by true e h = rw (f b e) (omega arith)
    by false e h = omega arith

pub runs-wider : (p q : ℕ → Bool) → ((b : ℕ) → p b ≡ true → q b ≡ true) → (n : ℕ) (s : List ℕ) (o : ℕ)
    → runs p n s o ≡ true → runs q n s o ≡ true
unfolding runs
runs-wider p q f n s o e =
    let h : n ≤ span p (drop o s) = leb-true n (span p (drop o s)) e in
    le-leb n (span q (drop o s)) (omega (arith, span-wider p q f (drop o s)))

pub runs_same : (p q : ℕ → Bool) → ((b : ℕ) → p b ≡ q b) → (n : ℕ) (s : List ℕ) (o : ℕ) → runs p n s o ≡ runs q n s o
unfolding runs
runs_same p q f n s o =
    let z : span p (drop o s) ≡ span q (drop o s) =
    omega (arith, span-wider p q (λ b e. sym (f b) ∙ e) (drop o s), span-wider q p (λ b e. f b ∙ e) (drop o s)) in
    rw z

-- the run of bytes that may stand in a text is passed over at once
pub control-skip : (s : List ℕ) (at : ℕ) → at ≡ span is_plain s → span no_control s ≡ span_end no_control s at
control-skip s at q =
    let all : runs is_plain at s 0 ≡ true = (unfold runs in le-leb at (span is_plain s) (omega (arith, q))) in
    control-start s ∙ rw (zero-add at) at (span-block no_control s 0 at (runs-wider is_plain no_control plain-control at s 0 all))

-- as the scan of a block tests a byte
printed-byte : (x y b : ℕ)
    → ((((ltb b 32 || leb 127 b) && not (eqb b 10)) && not (eqb b x)) && not (eqb b y)) ≡ not (is_printed x y b)
unfolding is_printed is
printed-byte x y b =
    ends (ltb b 32) refl (leb 127 b) refl
    ∙ parted (leb 32 b && ltb b 127) (eqb b 10) (eqb b x) (eqb b y)
  where
    parted : (t u v w : Bool) → (((not t && not u) && not v) && not w) ≡ not ((u || (v || w)) || t)
    parted t true v w = rw (and-false (not t))
    parted t false true w = rw (and-false (not t && true))
    parted t false false true = rw (and-false ((not t && true) && true))
    parted true false false false = refl
    parted false false false false = refl

    ends : (t : Bool) → ltb b 32 ≡ t → (u : Bool) → leb 127 b ≡ u
        → ((((t || u) && not (eqb b 10)) && not (eqb b x)) && not (eqb b y))
        ≡ (((not (leb 32 b && ltb b 127) && not (eqb b 10)) && not (eqb b x)) && not (eqb b y))
    ends true e u g = let h : b < 32 = ltb-true b 32 e in rw (lt-leb 32 b h)
    ends false e true g =
        let h : 127 ≤ b = leb-true 127 b g in
        rw (le-ltb b 127 h, and-false (leb 32 b))
    ends false e false g =
        let h : 32 ≤ b = ltb-false b 32 e in
        let l : b < 127 = leb-false 127 b g in
        rw (le-leb 32 b h, lt-ltb b 127 l)

-- and as it keeps it: has such a byte been met
pub printed-met : (x y : ℕ) (s : List ℕ) (o n : ℕ) → o + n < length s
    → (not (runs (is_printed x y) n s o)
    || (((((ltb (get_or s (o + n) 0) 32 || leb 127 (get_or s (o + n) 0)) && not (eqb (get_or s (o + n) 0) 10)) && not (eqb (get_or s (o + n) 0) x)) && not (eqb (get_or s (o + n) 0) y))))
    ≡ not (runs (is_printed x y) (n + 1) s o)
printed-met x y s o n h = runs-met (is_printed x y) s o n _ h (printed-byte x y (get_or s (o + n) 0))

-- with tab and CR as the others it is what may stand in a text
pub printed-plain : (b : ℕ) → is_printed 9 13 b ≡ is_plain b
unfolding is_printed is_plain is_ascii no_control is_control is
printed-plain b = spaced (eqb b 10) refl (eqb b 9) refl (eqb b 13) refl
  where
    within : (t : Bool) → ltb b 32 ≡ t → (u : Bool) → eqb b 127 ≡ u → (v : Bool) → ltb b 127 ≡ v
        → (leb 32 b && v) ≡ (ltb b 128 && not (t || u))
    within true e u f v g =
        let h : b < 32 = ltb-true b 32 e in
        rw (lt-leb 32 b h, lt-ltb b 128 (omega arith))
    within false e true f v g =
        let z : b ≡ 127 = eqb-true b 127 f in
        rw (← g, z)
    within false e false f true g =
        let h : 32 ≤ b = ltb-false b 32 e in
        let l : b < 127 = ltb-true b 127 g in
        rw (le-leb 32 b h, lt-ltb b 128 (omega arith))
    within false e false f false g =
        let h : 127 ≤ b = ltb-false b 127 g in
        let d : b ≡ 127 → ⊥ = eqb-false b 127 f in
        rw (le-ltb b 128 (omega arith), and-false (leb 32 b))

    spaced : (t : Bool) → eqb b 10 ≡ t → (u : Bool) → eqb b 9 ≡ u → (v : Bool) → eqb b 13 ≡ v
        → ((t || (u || v)) || (leb 32 b && ltb b 127)) ≡ (ltb b 128 && not (not (u || (t || v)) && (ltb b 32 || eqb b 127)))
    spaced true e u f v g = let z : b ≡ 10 = eqb-true b 10 e in rw (z, or-true u)
    spaced false e true f v g = let z : b ≡ 9 = eqb-true b 9 f in rw z
    spaced false e false f true g = let z : b ≡ 13 = eqb-true b 13 g in rw z
    spaced false e false f false g = within (ltb b 32) refl (eqb b 127) refl (ltb b 127) refl

-- without them, such bytes may stand there too
pub lined-plain : (b : ℕ) → is_printed 10 10 b ≡ true → is_plain b ≡ true
unfolding is_printed is
lined-plain b e = sym (printed-plain b) ∙ fewer (eqb b 10) (eqb b 9 || eqb b 13) (leb 32 b && ltb b 127) e
  where
    fewer : (t u v : Bool) → ((t || (t || t)) || v) ≡ true → ((t || u) || v) ≡ true
    fewer true u v e = refl
    fewer false u v e = rw e (or-true u)

-- byte by byte
pub plain-start : (s : List ℕ) → span is_plain s ≡ span_end is_plain s 0
plain-start s = sym (span-end is_plain s 0 ∙ omega arith)

module _ (b : ℕ) where
  pub plain-stop : is_control b ≡ true → is_plain b ≡ false
  unfolding is_plain
  plain-stop e = rw (control-stop b e) (and-false (is_ascii b))

  pub plain-high : 128 ≤ b → is_plain b ≡ false
  unfolding is_plain is_ascii
  plain-high h = rw (le-ltb b 128 h)

  pub plain-go : is_control b ≡ false → b < 128 → is_plain b ≡ true
  unfolding is_plain is_ascii
  plain-go e h = rw (lt-ltb b 128 h) (control-go b e)

-- The earlier of the two, the line first at one byte

earlier : ℕ → ℕ → ℕ → ℕ → Result (Unit {0}) Flaw
earlier n o long control = cond (ltb control long) (Err (Control (o + control))) (cond (ltb long n) (Err (LongLine (o + long))) (Ok tt))

ltb-suc : (i j : ℕ) → ltb (suc i) (suc j) ≡ ltb i j
ltb-suc i j = by (ltb i j) refl
  where
    by : (t : Bool) → ltb i j ≡ t → ltb (suc i) (suc j) ≡ t
    by true e = let h : i < j = ltb-true i j e in lt-ltb (suc i) (suc j) (omega arith)
    by false e = let h : j ≤ i = ltb-false i j e in le-ltb (suc i) (suc j) (omega arith)

on_one : (n o i j : ℕ) → earlier (suc n) o (suc i) (suc j) ≡ earlier n (suc o) i j
unfolding earlier
on_one n o i j =
    let e : o + suc i ≡ suc o + i = omega arith in
    let f : o + suc j ≡ suc o + j = omega arith in
    rw (e, f, ltb-suc j i, ltb-suc i n)

scans : (c o : ℕ) (s : List ℕ) → screen_from c o s ≡ earlier (length s) o (short c s) (span no_control s)
unfolding screen_from short span no_control earlier
scans c o [] = refl
scans c o (b ∷ s) = by (is_long c b) (is_control b) (scans (column c b) (suc o) s)
  where
    by : (t u : Bool) → screen_from (column c b) (suc o) s ≡ earlier (length s) (suc o) (short (column c b) s) (span no_control s)
        → cond t (Err (LongLine o)) (cond u (Err (Control o)) (screen_from (column c b) (suc o) s)) ≡ earlier (suc (length s)) o (cond t 0 (suc (short (column c b) s))) (cond (not u) (suc (span no_control s)) 0)
    by true u ih =
        let e : o + 0 ≡ o = omega arith in
        rw (le-ltb (cond (not u) (suc (span no_control s)) 0) 0 (omega arith), lt-ltb 0 (suc (length s)) (omega arith), e)
    by false true ih =
        let e : o + 0 ≡ o = omega arith in
        rw (lt-ltb 0 (suc (short (column c b) s)) (omega arith), e)
    by false false ih = ih ∙ sym (on_one (length s) o (short (column c b) s) (span no_control s))

module _ (s : List ℕ) (long control : ℕ) (q : long ≡ short 0 s) (r : control ≡ span no_control s) where
  both : screened s ≡ earlier (length s) 0 long control
  unfolding screened
  both = rw (q, r) (scans 0 0 s)

  pub screen-control : control < long → Err (Control control) ≡ screened s
  unfolding earlier
  screen-control h = sym (both ∙ rw (lt-ltb control long h, zero-add))

  pub screen-long : long ≤ control → long < length s → Err (LongLine long) ≡ screened s
  unfolding earlier
  screen-long h l = sym (both ∙ rw (le-ltb control long h, lt-ltb long (length s) l, zero-add))

  pub screen-fine : long ≤ control → length s ≤ long → Ok tt ≡ screened s
  unfolding earlier
  screen-fine h l = sym (both ∙ rw (le-ltb control long h, le-ltb long (length s) l))

-- Bytes behind some of their line

-- which byte breaks a rule is another question
fine-anywhere : (c o q : ℕ) (s : List ℕ) → is_fine (screen_from c o s) ≡ is_fine (screen_from c q s)
unfolding screen_from is_fine
fine-anywhere c o q [] = refl
fine-anywhere c o q (b ∷ s) = by (is_long c b) (is_control b) (fine-anywhere (column c b) (suc o) (suc q) s)
  where
    by : (t u : Bool) → is_fine (screen_from (column c b) (suc o) s) ≡ is_fine (screen_from (column c b) (suc q) s)
        → is_fine (cond t (Err (LongLine o)) (cond u (Err (Control o)) (screen_from (column c b) (suc o) s))) ≡ is_fine (cond t (Err (LongLine q)) (cond u (Err (Control q)) (screen_from (column c b) (suc q) s)))
    by true u h = refl
    by false true h = refl
    by false false h = h

-- a text fits just where nothing is found in it
pub fits-screened : (s : List ℕ) → is_fine (screened s) ≡ fits 0 s
unfolding screened fits
fits-screened s = refl

pub fits-none : (c : ℕ) → fits c [] ≡ true
unfolding fits screen_from is_fine
fits-none c = refl

-- byte by byte
pub fits_by : (c b : ℕ) (s : List ℕ) → fits c (b ∷ s) ≡ (not (is_long c b) && (not (is_control b) && fits (column c b) s))
unfolding fits screen_from is_fine
fits_by c b s = by (is_long c b) (is_control b)
  where
    by : (t u : Bool) → is_fine (cond t (Err (LongLine 0)) (cond u (Err (Control 0)) (screen_from (column c b) 1 s))) ≡ (not t && (not u && is_fine (screen_from (column c b) 0 s)))
    by true u = refl
    by false true = refl
    by false false = fine-anywhere (column c b) 1 0 s

-- a byte that ends no line and may stand anywhere
fits_on : (c b : ℕ) (s : List ℕ) → c < 2048 → is_eol b ≡ false → is_control b ≡ false → fits c (b ∷ s) ≡ fits (suc c) s
unfolding is_long column
fits_on c b s h e f = fits_by c b s ∙ rw (ne_eqb c 2048 (λ q. omega arith), e, f)

-- as a printable one
module _ (b : ℕ) (l : 32 ≤ b) (u : b < 127) where
  no-eol : is_eol b ≡ false
  unfolding is_eol
  no-eol = rw (ne_eqb b 10 (λ e. omega arith), ne_eqb b 13 (λ e. omega arith))

  no-control : is_control b ≡ false
  unfolding is_control
  no-control = rw (le-ltb b 32 l, ne_eqb b 127 (λ e. omega arith), and-false (not (eqb b 9 || (eqb b 10 || eqb b 13))))

  pub fits-printable : (c : ℕ) (s : List ℕ) → c < 2048 → fits c (b ∷ s) ≡ fits (suc c) s
  fits-printable c s h = fits_on c b s h no-eol no-control

-- one too many
fits-over : (c b : ℕ) (s : List ℕ) → c ≡ 2048 → is_eol b ≡ false → fits c (b ∷ s) ≡ false
unfolding is_long
fits-over c b s h e = fits_by c b s ∙ rw (eq-eqb c 2048 h, e)

-- a control byte that may stand nowhere
fits-never : (c b : ℕ) (s : List ℕ) → is_control b ≡ true → fits c (b ∷ s) ≡ false
fits-never c b s e = fits_by c b s ∙ rw e (and-false (not (is_long c b)))

-- a byte more behind one line counts as one more before it
fits-mark : (m : ℕ) → is_eol m ≡ false → is_control m ≡ false → (n : ℕ) (c : List ℕ) → n < 2048 → ((k : ℕ) → k < length c → is_eol (get_or c k 0) ≡ false) → fits n (c ++ (m ∷ [])) ≡ fits (suc n) c
fits-mark m e f n [] h g = fits_on n m [] h e f
fits-mark m e f n (b ∷ c) h g = by (is_control b) refl (ltb (suc n) 2048) refl (λ l. fits-mark m e f (suc n) c l (λ k u. g (suc k) (omega arith)))
  where
    full : suc n ≡ 2048 → (d : List ℕ) → ((k : ℕ) → k < length d → is_eol (get_or d k 0) ≡ false) → fits (suc n) (d ++ (m ∷ [])) ≡ false
    full z [] k = fits-over (suc n) m [] z e
    full z (x ∷ d) k = fits-over (suc n) x (d ++ (m ∷ [])) z (k 0 (omega arith))

    rest : (k : ℕ) → k < length c → is_eol (get_or c k 0) ≡ false
    rest k l = g (suc k) (omega arith)

    by : (t : Bool) → is_control b ≡ t → (u : Bool) → ltb (suc n) 2048 ≡ u → (suc n < 2048 → fits (suc n) (c ++ (m ∷ [])) ≡ fits (suc (suc n)) c) → fits n (b ∷ (c ++ (m ∷ []))) ≡ fits (suc n) (b ∷ c)
    by true p u q ih = fits-never n b (c ++ (m ∷ [])) p ∙ sym (fits-never (suc n) b c p)
    by false p true q ih =
        let l : suc n < 2048 = ltb-true (suc n) 2048 q in
        fits_on n b (c ++ (m ∷ [])) h (g 0 (omega arith)) p ∙ ih l ∙ sym (fits_on (suc n) b c l (g 0 (omega arith)) p)
    by false p false q ih =
        let l : 2048 ≤ suc n = ltb-false (suc n) 2048 q in
        let z : suc n ≡ 2048 = omega arith in
        fits_on n b (c ++ (m ∷ [])) h (g 0 (omega arith)) p ∙ full z c rest ∙ sym (fits-over (suc n) b c z (g 0 (omega arith)))

-- a byte behind a line's end may always stand there
fits_last : (m : ℕ) → is_eol m ≡ false → is_control m ≡ false → (n : ℕ) (c : List ℕ) → (length c ≡ 0 → ⊥) → is_eol (get_or c (length c - 1) 0) ≡ true → fits n (c ++ (m ∷ [])) ≡ fits n c
fits_last m e f n [] h g = absurd (h refl)
fits_last m e f n (b ∷ []) h g =
    let on : fits (column n b) (m ∷ []) ≡ fits (column n b) [] = (unfold column in rw g (fits_on 0 m [] (omega arith) e f ∙ fits-none 1 ∙ sym (fits-none 0))) in
    fits_by n b (m ∷ []) ∙ ap (λ x. not (is_long n b) && (not (is_control b) && x)) on ∙ sym (fits_by n b [])
fits_last m e f n (b ∷ d ∷ c) h g =
    let here : suc (suc (length c)) - 1 ≡ suc (length c) = omega arith in
    let then : suc (length c) - 1 ≡ length c = omega arith in
    let last : is_eol (get_or (d ∷ c) (suc (length c) - 1) 0) ≡ true = rw then (rw here at g) in
    fits_by n b (d ∷ (c ++ (m ∷ []))) ∙ ap (λ x. not (is_long n b) && (not (is_control b) && x)) (fits_last m e f (column n b) (d ∷ c) (λ z. omega arith) last) ∙ sym (fits_by n b (d ∷ c))

-- a mark that closes
module _ (m : ℕ) (l : 32 ≤ m) (u : m < 127) where
  pub fits-quote : (n : ℕ) (c : List ℕ) → n < 2048 → ((k : ℕ) → k < length c → is_eol (get_or c k 0) ≡ false) → fits n (c ++ (m ∷ [])) ≡ fits (suc n) c
  fits-quote = fits-mark m (no-eol m l u) (no-control m l u)

  pub fits-field : (n : ℕ) (c : List ℕ) → (length c ≡ 0 → ⊥) → is_eol (get_or c (length c - 1) 0) ≡ true → fits n (c ++ (m ∷ [])) ≡ fits n c
  fits-field = fits_last m (no-eol m l u) (no-control m l u)

short-le : (c : ℕ) (s : List ℕ) → short c s ≤ length s
unfolding short
short-le c [] = omega arith
short-le c (b ∷ s) = by (is_long c b) (short-le (column c b) s)
  where
    by : (t : Bool) → short (column c b) s ≤ length s → cond t 0 (suc (short (column c b) s)) ≤ suc (length s)
    by true h = omega arith
    by false h = omega arith

-- where no control byte stands, the scan for long lines alone tells what is found
module _ (s : List ℕ) (long : ℕ) (q : long ≡ short 0 s) (p : length s ≤ span no_control s) where
  pub plain-long : long < length s → screened s ≡ Err (LongLine long)
  plain-long l = sym (screen-long s long (span no_control s) q refl (omega arith) l)

  pub plain-fine : length s ≤ long → screened s ≡ Ok tt
  plain-fine l = sym (screen-fine s long (span no_control s) q refl (omega (arith, q, short-le 0 s)) l)

-- by both scans
module _ (c : ℕ) (s : List ℕ) (long control : ℕ) (q : long ≡ short c s) (r : control ≡ span no_control s) where
  scanned : fits c s ≡ is_fine (earlier (length s) 0 long control)
  unfolding fits
  scanned = rw (q, r) (ap is_fine (scans c 0 s))

  pub fits-long : long < length s → fits c s ≡ false
  unfolding earlier is_fine
  fits-long h = scanned ∙ by (ltb control long)
    where
      by : (t : Bool) → is_fine (cond t (Err (Control (0 + control))) (cond (ltb long (length s)) (Err (LongLine (0 + long))) (Ok tt))) ≡ false
      by true = refl
      by false = rw (lt-ltb long (length s) h)

  pub fits-control : length s ≤ long → fits c s ≡ eqb control (length s)
  unfolding earlier is_fine
  fits-control h = scanned ∙ by (eqb control (length s)) refl
    where
      by : (t : Bool) → eqb control (length s) ≡ t → is_fine (cond (ltb control long) (Err (Control (0 + control))) (cond (ltb long (length s)) (Err (LongLine (0 + long))) (Ok tt))) ≡ t
      by true e =
          let z : control ≡ length s = eqb-true control (length s) e in
          rw (le-ltb control long (omega (arith, q, short-le c s)), le-ltb long (length s) h)
      by false e =
          let z : control ≡ length s → ⊥ = eqb-false control (length s) e in
          rw (lt-ltb control long (omega (arith, r, span-le no_control s)))
