-- Lines of a text that is fine, and of what is taken out of it. Proved: at each offset of a fine text some bytes of the line stand before, and what follows fits behind them
-- (column-at); a part fits where the whole does (fits-take), and further to the left (fits-left); behind bytes that end no line it fits so much further to the right (fits-skip).
-- Assumes nothing.
use Prim.Native.Nat.{ℕ, zero, suc, ◌+◌, ◌≤◌, ◌<◌}
use mathlib.Core.Bool.{true≢false, Bool, true, false, not, cond, ◌&&◌, and-false}
use mathlib.Core.Path.{◌≡◌, refl, sym, ap, ◌∙◌}
use mathlib.Core.List.{List, [], ◌∷◌}
use native.Mathlib.Omega.{arith}
use native.Mathlib.Numerals.{add-one}
use borrow.Author.Tests.{eqb-false, ne_eqb, not-true}
use lib.Dec.{eqb}
use lib.ListN.{length, take, drop, get_or, length-drop}
use lib.Seq.{drop-drop, get_or-drop}
use Rattle.text.specs.Bytes.{is_eol}
use Rattle.text.proofs.Bools.{and_l, and_r}
use Rattle.columns.specs.Before.{byte_before}
use Rattle.lines.specs.Lines.{is_control, column, is_long, fits}
use Rattle.lines.proofs.Lines.{fits-none, fits_by}

-- what the first byte of bytes that fit says
pub record Line (c b : ℕ) (s : List ℕ) : Type 0 where
  pub short : is_long c b ≡ false
  pub plain : is_control b ≡ false
  pub rest : fits (column c b) s ≡ true

pub line : (c b : ℕ) (s : List ℕ) → fits c (b ∷ s) ≡ true → Line c b s
line c b s e =
    let p : (not (is_long c b) && (not (is_control b) && fits (column c b) s)) ≡ true = sym (fits_by c b s) ∙ e in
    let r = and_r (not (is_long c b)) _ p in
    record { short = not-true _ (and_l (not (is_long c b)) _ p); plain = not-true _ (and_l (not (is_control b)) _ r); rest = and_r (not (is_control b)) _ r }

pub fits-take : (n c : ℕ) (s : List ℕ) → fits c s ≡ true → fits c (take n s) ≡ true
fits-take zero c s e = fits-none c
fits-take (suc n) c [] e = fits-none c
fits-take (suc n) c (b ∷ s) e =
    let l = line c b s e in
    fits_by c b (take n s) ∙ rw (l.short, l.plain) (fits-take n (column c b) s l.rest)

column-most : (c b : ℕ) → c ≤ 2048 → is_long c b ≡ false → column c b ≤ 2048
unfolding column is_long
column-most c b h e = by (is_eol b) (eqb c 2048) refl e
  where
    by : (x y : Bool) → eqb c 2048 ≡ y → (y && not x) ≡ false → cond x 0 (suc c) ≤ 2048
    by true y q r = omega arith
    by false true q r = absurd (true≢false r)
    by false false q r = let z : c ≡ 2048 → ⊥ = eqb-false c 2048 q in omega arith

pub fits-left : (d c : ℕ) (w : List ℕ) → d ≤ c → c ≤ 2048 → fits c w ≡ true → fits d w ≡ true
unfolding column is_long
fits-left d c [] h k e = fits-none d
fits-left d c (b ∷ w) h k e =
    let l = line c b w e in
    fits_by d b w ∙ rw (short (is_eol b) (eqb c 2048) refl l.short, l.plain) (fits-left (column d b) (column c b) w (left (is_eol b)) (column-most c b k l.short) l.rest)
  where
    short : (x y : Bool) → eqb c 2048 ≡ y → (y && not x) ≡ false → (eqb d 2048 && not x) ≡ false
    short true y r z = and-false (eqb d 2048)
    short false true r z = absurd (true≢false z)
    short false false r z =
        let m : c ≡ 2048 → ⊥ = eqb-false c 2048 r in
        rw (ne_eqb d 2048 (λ f. m (omega arith)))

    left : (x : Bool) → cond x 0 (suc d) ≤ cond x 0 (suc c)
    left true = omega arith
    left false = omega arith

-- c bytes of its line stand before offset o
pub record Column (s : List ℕ) (o : ℕ) : Type 0 where
  pub before : ℕ
  pub fine : fits before (drop o s) ≡ true
  pub most : before ≤ 2048
  pub right : is_eol (byte_before s o) ≡ false → 0 < before

rest_of : (s u : List ℕ) (b o : ℕ) → drop o s ≡ b ∷ u → drop (suc o) s ≡ u
rest_of s u b o q = rw (← add-one o, ← drop-drop 1 o s) (ap (drop 1) q)

byte_of : (s u : List ℕ) (b o : ℕ) → drop o s ≡ b ∷ u → byte_before s (suc o) ≡ b
unfolding byte_before
byte_of s u b o q =
    let z : o + 0 ≡ o = omega arith in
    rw (← z, ← get_or-drop o s 0 10, q)

pub column-at : (s : List ℕ) → fits 0 s ≡ true → (o : ℕ) → o ≤ length s → Column s o
unfolding byte_before is_eol
column-at s e zero h = record { before = 0; fine = e; most = omega arith; right = λ q. absurd (true≢false q) }
column-at s e (suc o) h = by (drop o s) refl (column-at s e o (omega arith))
  where
    right : (c b : ℕ) → is_eol b ≡ false → 0 < column c b
    right c b q = unfold column in rw q (omega arith)

    by : (u : List ℕ) → drop o s ≡ u → Column s o → Column s (suc o)
    by [] q x = absurd (omega (arith, length-drop o s, ap length q))
    by (b ∷ u) q x =
        let l = line x.before b u (ap (fits x.before) (sym q) ∙ x.fine) in
        record {
          before = column x.before b;
          fine = rw (rest_of s u b o q) l.rest;
          most = column-most x.before b x.most l.short;
          right = λ w. right x.before b (sym (ap is_eol (byte_of s u b o q)) ∙ w);
        }

-- behind j bytes that end no line
pub fits-skip : (j c : ℕ) (u : List ℕ) → c ≤ 2048 → j ≤ length u → ((i : ℕ) → i < j → is_eol (get_or u i 0) ≡ false) → fits c u ≡ true → (fits (c + j) (drop j u) ≡ true) × (c + j ≤ 2048)
unfolding column
fits-skip zero c u h k f e = let z : c + 0 ≡ c = omega arith in (rw z e, omega arith)
fits-skip (suc j) c [] h k f e = absurd (omega arith)
fits-skip (suc j) c (b ∷ u) h k f e =
    let l = line c b u e in
    let n : is_eol b ≡ false = f 0 (omega arith) in
    let z : c + suc j ≡ suc c + j = omega arith in
    let r : fits (suc c) u ≡ true = rw n at l.rest in
    let m : suc c ≤ 2048 = rw n at (column-most c b h l.short) in
    rw z (fits-skip j (suc c) u m (omega arith) (λ i q. f (suc i) (omega arith)) r)
