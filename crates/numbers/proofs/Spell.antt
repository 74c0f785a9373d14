-- What a word spells, in both directions. Proved: the parts of a word that is put together from a sign, digits, a point with digits, an exponent and a
-- bracket are what it was put together from (parts-spell); and a word whose parts leave nothing over is put together so (the views at the end). Assumes nothing.
use Prim.Native.Nat.{ℕ}
use mathlib.Core.Path.{◌≡◌, refl, sym, ap, ◌∙◌, subst}
use mathlib.Core.Bool.{Bool, true, false, not, cond, ◌&&◌, ◌||◌, true≢false, false≢true}
use mathlib.Core.List.{List, [], ◌∷◌, ◌++◌}
use borrow.Author.Tests.{eqb-true, not-true}
use lib.Dec.{eqb}
use Rattle.text.specs.Bytes.{is_digit, is}
use Rattle.text.proofs.Bools.{and_l, and_r, or_cases}
use Rattle.text.proofs.Ranges.{digit_not}
use Rattle.numbers.specs.Parts.{cut, cons_got, digits, sign, point, Part, absent, signed_digits, is_empty, exponent, close, bracket, parts}
use Rattle.numbers.specs.Cif.{all_digits, Sign, unsigned, plus, minus}

digit-no-sign : (c : ℕ) → is_digit c ≡ true → (is 43 c || is 45 c) ≡ false
unfolding is
digit-no-sign c d = digit_not (λ b. is 43 b || is 45 b) refl c d

digits-all : (ds r : List ℕ) → all_digits ds ≡ true → digits r ≡ cut [] r → digits (ds ++ r) ≡ cut ds r
unfolding digits all_digits cut cons_got
digits-all [] r a h = h
digits-all (d ∷ ds) r a h = rw (and_l (is_digit d) (all_digits ds) a, digits-all ds r (and_r (is_digit d) (all_digits ds) a) h)

-- where neither a digit nor a sign stands
record Quiet (w : List ℕ) : Type 0 where
  no_digit : digits w ≡ cut [] w
  no_sign : sign w ≡ cut [] w

quiet-nil : Quiet []
unfolding digits sign
quiet-nil = record { no_digit = refl; no_sign = refl }

sign-digits : (ds w : List ℕ) → all_digits ds ≡ true → sign w ≡ cut [] w → sign (ds ++ w) ≡ cut [] (ds ++ w)
unfolding sign all_digits
sign-digits [] w a h = h
sign-digits (d ∷ ds) w a h = rw (digit-no-sign d (and_l (is_digit d) (all_digits ds) a))

sign-took : {sg : List ℕ} (w : List ℕ) → Sign sg → sign w ≡ cut [] w → sign (sg ++ w) ≡ cut sg w
unfolding sign is
sign-took w unsigned h = h
sign-took w plus h = refl
sign-took w minus h = refl

-- the bracket, to the word's end: its bytes, and the part
pub data Bracket : List ℕ → Part → Type 0 where
  unbracketed : Bracket [] (absent [])
  bracketed : (ds : List ℕ) → all_digits ds ≡ true → Bracket (40 ∷ ds ++ 41 ∷ []) (record { here = true; signed = []; run = ds; left = [] })

-- the exponent and what follows: its bytes, the part, and what follows
pub data Exponent : List ℕ → Part → Part → Type 0 where
  unscaled : {w : List ℕ} {u : Part} → Bracket w u → Exponent w (absent w) u
  scaled : (c : ℕ) {sg w : List ℕ} {u : Part} (ds : List ℕ) → (is 101 c || is 69 c) ≡ true → Sign sg → all_digits ds ≡ true → is_empty (sg ++ (ds ++ w)) ≡ false → Bracket w u
      → Exponent (c ∷ sg ++ (ds ++ w)) (record { here = true; signed = sg; run = ds; left = w }) u

-- the point, its digits and what follows
pub data Point : List ℕ → List ℕ → Part → Part → Type 0 where
  whole : {w : List ℕ} {e u : Part} → Exponent w e u → Point w [] e u
  pointed : {w : List ℕ} {e u : Part} (ds : List ℕ) → all_digits ds ≡ true → Exponent w e u → Point (46 ∷ ds ++ w) ds e u

bracket-quiet : {w : List ℕ} {u : Part} → Bracket w u → Quiet w
unfolding digits sign is_digit is
bracket-quiet unbracketed = quiet-nil
bracket-quiet (bracketed ds a) = record { no_digit = refl; no_sign = refl }

bracket-took : {w : List ℕ} {u : Part} → Bracket w u → bracket w ≡ u
unfolding bracket close is cut
bracket-took unbracketed = refl
bracket-took (bracketed ds a) = rw (digits-all ds (41 ∷ []) a (unfold digits is_digit in refl))

bracket-unscaled : {w : List ℕ} {u : Part} → Bracket w u → exponent w ≡ absent w
unfolding exponent is
bracket-unscaled unbracketed = refl
bracket-unscaled (bracketed ds a) = refl

bracket-no-point : {w : List ℕ} {u : Part} → Bracket w u → point w ≡ cut [] w
unfolding point is
bracket-no-point unbracketed = refl
bracket-no-point (bracketed ds a) = refl

-- what holds of two bytes holds of a byte that is one of them
pub or_is : (P : ℕ → Type 0) (m n : ℕ) → P m → P n → (c : ℕ) → (is m c || is n c) ≡ true → P c
unfolding is
or_is P m n p q c e = or_cases (eqb c m) (eqb c n) (λ h. rw (eqb-true c m h) p) (λ h. rw (eqb-true c n h) q) e

exponent-quiet : {w : List ℕ} {e u : Part} → Exponent w e u → Quiet w
unfolding digits sign is_digit is
exponent-quiet (unscaled b) = bracket-quiet b
exponent-quiet (scaled c {sg} {w} ds l s a n b) = or_is (λ c. Quiet (c ∷ sg ++ (ds ++ w))) 101 69 (record { no_digit = refl; no_sign = refl }) (record { no_digit = refl; no_sign = refl }) c l

exponent-no-point : {w : List ℕ} {e u : Part} → Exponent w e u → point w ≡ cut [] w
unfolding point is
exponent-no-point (unscaled b) = bracket-no-point b
exponent-no-point (scaled c {sg} {w} ds l s a n b) = or_is (λ c. point (c ∷ sg ++ (ds ++ w)) ≡ cut [] (c ∷ sg ++ (ds ++ w))) 101 69 refl refl c l

exponent-took : {w : List ℕ} {e u : Part} → Exponent w e u → exponent w ≡ e
unfolding exponent signed_digits cut
exponent-took (unscaled b) = bracket-unscaled b
exponent-took (scaled c {sg} {w} ds l s a n b) =
    let q = bracket-quiet b in
    rw (l, n, sign-took (ds ++ w) s (sign-digits ds w a q.no_sign), digits-all ds w a q.no_digit)

exponent-then : {w : List ℕ} {e u : Part} → Exponent w e u → bracket e.left ≡ u
unfolding absent
exponent-then (unscaled b) = bracket-took b
exponent-then (scaled c ds l s a n b) = bracket-took b

point-quiet : {w f : List ℕ} {e u : Part} → Point w f e u → Quiet w
unfolding digits sign is_digit is
point-quiet (whole x) = exponent-quiet x
point-quiet (pointed ds a x) = record { no_digit = refl; no_sign = refl }

record Took (w f : List ℕ) (e u : Part) : Type 0 where
  took : (point w).got ≡ f
  then : exponent (point w).left ≡ e
  last : bracket e.left ≡ u

point-took : {w f : List ℕ} {e u : Part} → Point w f e u → Took w f e u
unfolding cut point is
point-took (whole x) = record {
  took = ap (λ c. c.got) (exponent-no-point x);
  then = ap (λ c. exponent c.left) (exponent-no-point x) ∙ exponent-took x;
  last = exponent-then x;
}
point-took (pointed {w} ds a x) = record {
  took = ap (λ c. c.got) (digits-all ds w a (exponent-quiet x).no_digit);
  then = ap (λ c. exponent c.left) (digits-all ds w a (exponent-quiet x).no_digit) ∙ exponent-took x;
  last = exponent-then x;
}

pub parts-spell : {sg w f : List ℕ} {e u : Part} (i : List ℕ) → Sign sg → all_digits i ≡ true → Point w f e u
    → parts (sg ++ (i ++ w)) ≡ record { sgn = sg; int = i; frac = f; exp = e; unc = u }
unfolding parts cut
parts-spell {sg} {w} i s a p =
    let q = point-quiet p in
    let t = point-took p in
    rw (sign-took (i ++ w) s (sign-digits i w a q.no_sign), digits-all i w a q.no_digit, t.took, t.then, t.last)

-- digits among what is put together make it not empty
pub not-empty : (sg ds r : List ℕ) → is_empty ds ≡ false → is_empty (sg ++ (ds ++ r)) ≡ false
unfolding is_empty
not-empty [] [] r h = absurd (true≢false h)
not-empty [] (d ∷ ds) r h = refl
not-empty (s ∷ sg) ds r h = refl

-- The other way: a word that is a number is put together as `parts-spell` says

pub digits-split : (s : List ℕ) → s ≡ (digits s).got ++ (digits s).left
unfolding digits cut cons_got
digits-split [] = refl
digits-split (b ∷ s) = go (is_digit b) (digits-split s)
  where
    go : (t : Bool) → s ≡ (digits s).got ++ (digits s).left → b ∷ s ≡ (cond t (cons_got b (digits s)) (cut [] (b ∷ s))).got ++ (cond t (cons_got b (digits s)) (cut [] (b ∷ s))).left
    go true e = ap {B = List ℕ} (λ r. b ∷ r) e
    go false e = refl

pub digits-got : (s : List ℕ) → all_digits (digits s).got ≡ true
unfolding digits cut cons_got all_digits
digits-got [] = refl
digits-got (b ∷ s) = go (is_digit b) refl (digits-got s)
  where
    go : (t : Bool) → is_digit b ≡ t → all_digits (digits s).got ≡ true → all_digits (cond t (cons_got b (digits s)) (cut [] (b ∷ s))).got ≡ true
    go true q e = rw (q, e)
    go false q e = refl

pub sign-split : (s : List ℕ) → s ≡ (sign s).got ++ (sign s).left
unfolding sign cut
sign-split [] = refl
sign-split (b ∷ s) = go (is 43 b || is 45 b)
  where
    go : (t : Bool) → b ∷ s ≡ (cond t (cut (b ∷ []) s) (cut [] (b ∷ s))).got ++ (cond t (cut (b ∷ []) s) (cut [] (b ∷ s))).left
    go true = refl
    go false = refl

pub sign-got : (s : List ℕ) → Sign (sign s).got
unfolding sign cut
sign-got [] = unsigned
sign-got (b ∷ s) = go (is 43 b || is 45 b) refl
  where
    go : (t : Bool) → (is 43 b || is 45 b) ≡ t → Sign (cond t (cut (b ∷ []) s) (cut [] (b ∷ s))).got
    go true e = or_is (λ c. Sign (c ∷ [])) 43 45 plus minus b e
    go false e = unsigned

pub empty-nil : (s : List ℕ) → is_empty s ≡ true → s ≡ []
unfolding is_empty
empty-nil [] e = refl
empty-nil (b ∷ s) e = absurd (false≢true e)

close-view : (b : ℕ) (s : List ℕ) (g l : List ℕ) → s ≡ g ++ l → all_digits g ≡ true → is 40 b ≡ true → is_empty (close (b ∷ s) g l).left ≡ true → Bracket (b ∷ s) (close (b ∷ s) g l)
unfolding close absent is_empty is
close-view b s g [] j a q e = absurd (false≢true e)
close-view b s g (c ∷ l) j a q e = go (is 41 c) refl e
  where
    go : (t : Bool) → is 41 c ≡ t → is_empty (cond t (record { here = true; signed = []; run = g; left = l }) (absent (b ∷ s))).left ≡ true → Bracket (b ∷ s) (cond t (record { here = true; signed = []; run = g; left = l }) (absent (b ∷ s)))
    go true r x = rw (j, eqb-true b 40 q, eqb-true c 41 r, empty-nil l x) (bracketed g a)
    go false r x = absurd (false≢true x)

pub bracket-view : (s : List ℕ) → is_empty (bracket s).left ≡ true → Bracket s (bracket s)
unfolding bracket absent is_empty
bracket-view [] e = unbracketed
bracket-view (b ∷ s) e = go (is 40 b) refl e
  where
    go : (t : Bool) → is 40 b ≡ t → is_empty (cond t (close (b ∷ s) (digits s).got (digits s).left) (absent (b ∷ s))).left ≡ true → Bracket (b ∷ s) (cond t (close (b ∷ s) (digits s).got (digits s).left) (absent (b ∷ s)))
    go true q x = close-view b s (digits s).got (digits s).left (digits-split s) (digits-got s) q x
    go false q x = absurd (false≢true x)

pub exponent-view : (s : List ℕ) {u : Part} → Bracket (exponent s).left u → Exponent s (exponent s) u
unfolding exponent absent signed_digits
exponent-view [] k = unscaled k
exponent-view (b ∷ s) {u} k = go ((is 101 b || is 69 b) && not (is_empty s)) refl k
  where
    go : (t : Bool) → ((is 101 b || is 69 b) && not (is_empty s)) ≡ t → Bracket (cond t (signed_digits (sign s)) (absent (b ∷ s))).left u → Exponent (b ∷ s) (cond t (signed_digits (sign s)) (absent (b ∷ s))) u
    go false q x = unscaled x
    go true q x =
        let l = (sign s).left in
        let j : s ≡ (sign s).got ++ ((digits l).got ++ (digits l).left) = sign-split s ∙ ap (λ r. (sign s).got ++ r) (digits-split l) in
        let n : is_empty ((sign s).got ++ ((digits l).got ++ (digits l).left)) ≡ false = ap is_empty (sym j) ∙ not-true (is_empty s) (and_r (is 101 b || is 69 b) (not (is_empty s)) q) in
        subst (λ r. Exponent (b ∷ r) (signed_digits (sign s)) u) (sym j) (scaled b (digits l).got (and_l (is 101 b || is 69 b) (not (is_empty s)) q) (sign-got s) (digits-got l) n x)

pub point-view : (s : List ℕ) {e u : Part} → Exponent (point s).left e u → Point s (point s).got e u
unfolding point cut is
point-view [] x = whole x
point-view (b ∷ s) {e} {u} x = go (eqb b 46) refl x
  where
    go : (t : Bool) → eqb b 46 ≡ t → Exponent (cond t (digits s) (cut [] (b ∷ s))).left e u → Point (b ∷ s) (cond t (digits s) (cut [] (b ∷ s))).got e u
    go false q y = whole y
    go true q y = rw (eqb-true b 46 q) (subst (λ r. Point (46 ∷ r) (digits s).got e u) (sym (digits-split s)) (pointed (digits s).got (digits-got s) y))
