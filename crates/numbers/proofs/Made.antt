-- What a number is made of. Proved: a test that passes at digits, `+`, `-`, `.`, `e`, `E`, `(` and `)` passes at each byte of a word that is a number
-- (number-made). Assumes nothing.
use Prim.Native.Nat.{ℕ, zero, suc, ◌+◌, ◌<◌}
use mathlib.Core.Path.{◌≡◌, refl, sym, ap, ◌∙◌, subst}
use mathlib.Core.Bool.{Bool, true, not, ◌&&◌}
use mathlib.Core.List.{List, [], ◌∷◌, ◌++◌}
use native.Mathlib.Omega.{arith}
use lib.ListN.{length, get_or}
use Rattle.text.specs.Bytes.{is_digit}
use Rattle.text.proofs.Bools.{and_l, and_r}
use Rattle.text.proofs.Ranges.{all_below, digit-is}
use Rattle.numbers.specs.Parts.{digits, sign, point, Part, is_empty, exponent, bracket, parts, is_number}
use Rattle.numbers.specs.Cif.{all_digits, Sign, unsigned, plus, minus}
use Rattle.numbers.proofs.Spell.{Bracket, unbracketed, bracketed, Exponent, unscaled, scaled, Point, whole, pointed, or_is, digits-split, digits-got, sign-split, sign-got, bracket-view, exponent-view, point-view}

-- each byte passes
unfoldable pub all : (ℕ → Bool) → List ℕ → Bool
all f [] = true
all f (b ∷ s) = f b && all f s

pub all-at : (f : ℕ → Bool) (s : List ℕ) (k : ℕ) → all f s ≡ true → k < length s → f (get_or s k 0) ≡ true
unfolding all
all-at f [] k e h = absurd (omega arith)
all-at f (b ∷ s) zero e h = and_l (f b) (all f s) e
all-at f (b ∷ s) (suc k) e h = all-at f s k (and_r (f b) (all f s) e) (omega arith)

-- what numbers have besides digits
unfoldable pub others : List ℕ
others = 43 ∷ 45 ∷ 46 ∷ 101 ∷ 69 ∷ 40 ∷ 41 ∷ []

module _ (f : ℕ → Bool) (tens : all_below (λ k. f (48 + k)) 10 ≡ true) (rest : all f others ≡ true) where
  other : (k : ℕ) → k < 7 → f (get_or others k 0) ≡ true
  unfolding others
  other k h = all-at f others k rest h

  all_append : (x y : List ℕ) → all f x ≡ true → all f y ≡ true → all f (x ++ y) ≡ true
  unfolding all
  all_append [] y p q = q
  all_append (b ∷ x) y p q = rw (and_l (f b) (all f x) p, all_append x y (and_r (f b) (all f x) p) q)

  all-each_digit : (ds : List ℕ) → all_digits ds ≡ true → all f ds ≡ true
  unfolding all all_digits
  all-each_digit [] a = refl
  all-each_digit (d ∷ ds) a = rw (digit-is f tens d (and_l (is_digit d) (all_digits ds) a), all-each_digit ds (and_r (is_digit d) (all_digits ds) a))

  all-sign : {sg : List ℕ} → Sign sg → all f sg ≡ true
  unfolding all others
  all-sign unsigned = refl
  all-sign plus = rw (other 0 (omega arith))
  all-sign minus = rw (other 1 (omega arith))

  all-bracket : {w : List ℕ} {u : Part} → Bracket w u → all f w ≡ true
  unfolding all others
  all-bracket unbracketed = refl
  all-bracket (bracketed ds a) = rw (other 5 (omega arith), all_append ds (41 ∷ []) (all-each_digit ds a) (rw (other 6 (omega arith))))

  all-exponent : {w : List ℕ} {e u : Part} → Exponent w e u → all f w ≡ true
  unfolding all others
  all-exponent (unscaled k) = all-bracket k
  all-exponent (scaled c {sg} {w} ds l s a n k) =
      rw (or_is (λ x. f x ≡ true) 101 69 (other 3 (omega arith)) (other 4 (omega arith)) c l, all_append sg (ds ++ w) (all-sign s) (all_append ds w (all-each_digit ds a) (all-bracket k)))

  all-point : {w g : List ℕ} {e u : Part} → Point w g e u → all f w ≡ true
  unfolding all others
  all-point (whole x) = all-exponent x
  all-point (pointed {w} ds a x) = rw (other 2 (omega arith), all_append ds w (all-each_digit ds a) (all-exponent x))

  pub number-made : (w : List ℕ) → is_number (parts w) ≡ true → all f w ≡ true
  unfolding is_number parts
  number-made w h =
      let s = sign w in
      let i = digits s.left in
      let g = point i.left in
      let e = exponent g.left in
      let q = bracket-view e.left (and_l (is_empty (bracket e.left).left) (not (is_empty i.got && is_empty g.got)) h) in
      let j : w ≡ s.got ++ (i.got ++ i.left) = sign-split w ∙ ap (λ r. s.got ++ r) (digits-split s.left) in
      subst (λ r. all f r ≡ true) (sym j)
      (all_append s.got _ (all-sign (sign-got w)) (all_append i.got _ (all-each_digit i.got (digits-got s.left)) (all-point (point-view i.left (exponent-view g.left q)))))
