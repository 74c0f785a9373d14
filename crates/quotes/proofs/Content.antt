-- Laws of contents between marks: a quote takes in a content and the mark behind it just where the content is plain, in the strict reading where it is plain by its rule; a
-- text field just where the content ends in a line end and holds no `;` behind one before. Assumes nothing.
use Prim.Native.Nat.{ℕ, suc, ◌+◌, ◌-◌, ◌≤◌, ◌<◌}
use mathlib.Core.Path.{◌≡◌, refl, sym, ◌∙◌}
use mathlib.Core.Bool.{Bool, true, false, not, cond, ◌&&◌, ◌||◌, and-false, or-true}
use mathlib.Core.List.{List, [], ◌∷◌, ◌++◌}
use mathlib.Core.Option.{Option, none, some}
use native.Mathlib.Omega.{arith}
use native.Mathlib.Numerals.{add-one}
use borrow.Author.Tests.{eq-eqb, ne_eqb}
use lib.Dec.{eqb, eqb-suc-suc}
use lib.ListN.{length, drop, get_or, drop_of_length-le}
use lib.Seq.{drop-cons}
use Rattle.text.specs.Bytes.{is, is_eol, is_space}
use Rattle.quotes.specs.Quotes.{more, quoted, ends_here, strict_quoted, field_in, field}
use Rattle.quotes.specs.Content.{in_quotes, plain, strict_plain, last_eol, ends_at, is_none}

-- a content is plain from an offset on: a byte that may stand there, the mark, a line end, the end
module _ (m : ℕ) (c : List ℕ) (o : ℕ) where
  pub plain-go : o < length c → is m (get_or c o 0) ≡ false → is_eol (get_or c o 0) ≡ false → plain m (drop o c) ≡ plain m (drop (o + 1) c)
  unfolding plain in_quotes
  plain-go h e f = rw (drop-cons c o 0, e, f, add-one)

  pub plain-mark : o < length c → is m (get_or c o 0) ≡ true → plain m (drop o c) ≡ false
  unfolding plain in_quotes
  plain-mark h e = rw (drop-cons c o 0, e)

  pub plain-eol : o < length c → is m (get_or c o 0) ≡ false → is_eol (get_or c o 0) ≡ true → plain m (drop o c) ≡ false
  unfolding plain in_quotes
  plain-eol h e f = rw (drop-cons c o 0, e, f)

  pub plain_over : length c ≤ o → plain m (drop o c) ≡ true
  unfolding plain
  plain_over h = rw (drop_of_length-le c h)

ends_more : (n : ℕ) (r : Option ℕ) → ends_at (suc n) (more r) ≡ ends_at n r
unfolding more
ends_more n none = refl
ends_more n (some m) = eqb-suc-suc m n

ends-short : (n : ℕ) → ends_at (suc (suc n)) (some 1) ≡ false
ends-short n = ne_eqb 1 (suc (suc n)) (λ e. omega arith)

-- a quote takes in a content and the mark behind it just where the content is plain
pub quoted-plain : (m : ℕ) (c : List ℕ) → ends_at (suc (length c)) (quoted m (c ++ (m ∷ []))) ≡ plain m c
unfolding quoted plain in_quotes is
quoted-plain m [] = rw (eq-eqb m m refl)
quoted-plain m (b ∷ c) = by (quoted-plain m c) (eqb b m) refl (is_eol b) refl
  where
    by : ends_at (suc (length c)) (quoted m (c ++ (m ∷ []))) ≡ plain m c → (t : Bool) → eqb b m ≡ t → (u : Bool) → is_eol b ≡ u → ends_at (suc (length (b ∷ c))) (quoted m (b ∷ (c ++ (m ∷ [])))) ≡ plain m (b ∷ c)
    by h true e u f = rw e (ends-short (length c))
    by h false e true f = rw (e, f)
    by h false e false f = rw (e, f) (ends_more (suc (length c)) (quoted m (c ++ (m ∷ []))) ∙ h)

-- in the strict reading: behind the mark no space, and else as if it did not stand before
strict-flag : (m : ℕ) → is_space m ≡ false → (c : List ℕ) → strict_plain true m c ≡ (not (ends_here (c ++ (m ∷ []))) && strict_plain false m c)
unfolding strict_plain ends_here
strict-flag m g [] = rw g
strict-flag m g (b ∷ c) = by (is_space b)
  where
    by : (t : Bool) → (not (t || is_eol b) && strict_plain (is m b) m c) ≡ (not t && (not (is_eol b) && strict_plain (is m b) m c))
    by true = refl
    by false = refl

-- a quote takes in a content and the mark behind it just where the content is plain by that rule
pub strict-plain : (m : ℕ) → is_space m ≡ false → (c : List ℕ) → ends_at (suc (length c)) (strict_quoted m (c ++ (m ∷ []))) ≡ strict_plain false m c
unfolding strict_quoted strict_plain ends_here is
strict-plain m g [] = rw (eq-eqb m m refl)
strict-plain m g (b ∷ c) = by (eqb b m) (ends_here (c ++ (m ∷ []))) refl (is_eol b) (strict_quoted m (c ++ (m ∷ []))) (strict-plain m g c)
  where
    by : (t u : Bool) → ends_here (c ++ (m ∷ [])) ≡ u → (v : Bool) (q : Option ℕ) → ends_at (suc (length c)) q ≡ strict_plain false m c
        → ends_at (suc (suc (length c))) (cond (t && u) (some 1) (cond v none (more q))) ≡ (not v && strict_plain t m c)
    by true true e v q h = ends-short (length c) ∙ sym (rw (strict-flag m g c, e) (and-false (not v)))
    by true false e true q h = refl
    by true false e false q h = ends_more (suc (length c)) q ∙ h ∙ sym (rw (strict-flag m g c, e))
    by false u e true q h = refl
    by false u e false q h = ends_more (suc (length c)) q ∙ h

-- a content is so plain from an offset on, where the mark stands before it or not: a byte that may stand there, a line end, space behind the mark, the end
module _ (e : Bool) (m : ℕ) (c : List ℕ) (o : ℕ) where
  pub strict-go : o < length c → (e && is_space (get_or c o 0)) ≡ false → is_eol (get_or c o 0) ≡ false → strict_plain e m (drop o c) ≡ strict_plain (is m (get_or c o 0)) m (drop (o + 1) c)
  unfolding strict_plain
  strict-go h s f = rw (drop-cons c o 0, s, f, add-one)

  pub strict-eol : o < length c → is_eol (get_or c o 0) ≡ true → strict_plain e m (drop o c) ≡ false
  unfolding strict_plain
  strict-eol h f = rw (drop-cons c o 0, f, or-true (e && is_space (get_or c o 0)))

  pub strict-space : o < length c → (e && is_space (get_or c o 0)) ≡ true → strict_plain e m (drop o c) ≡ false
  unfolding strict_plain
  strict-space h s = rw (drop-cons c o 0, s)

  pub strict-over : length c ≤ o → strict_plain e m (drop o c) ≡ true
  unfolding strict_plain
  strict-over h = rw (drop_of_length-le c h)

none_more : (r : Option ℕ) → is_none (more r) ≡ is_none r
unfolding more
none_more none = refl
none_more (some n) = refl

field-ends : (e : Bool) (c : List ℕ) → ends_at (suc (length c)) (field_in e (c ++ (59 ∷ []))) ≡ (is_none (field_in e c) && last_eol e c)
unfolding field_in last_eol is more
field-ends true [] = refl
field-ends false [] = refl
field-ends e (b ∷ c) = by (e && is 59 b) (field_in (is_eol b) (c ++ (59 ∷ []))) (field_in (is_eol b) c) (field-ends (is_eol b) c)
  where
    by : (t : Bool) (r q : Option ℕ) → ends_at (suc (length c)) r ≡ (is_none q && last_eol (is_eol b) c) → ends_at (suc (suc (length c))) (cond t (some 1) (more r)) ≡ (is_none (cond t (some 1) (more q)) && last_eol (is_eol b) c)
    by true r q h = ends-short (length c)
    by false r q h = ends_more (suc (length c)) r ∙ h ∙ rw (none_more q)

-- a text field takes in a content and the `;` behind it just where none closes it before and the content ends in a line end
pub field-content : (c : List ℕ) → ends_at (suc (length c)) (field (c ++ (59 ∷ []))) ≡ (is_none (field c) && last_eol false c)
unfolding field
field-content c = field-ends false c

-- the last byte of a content that is not empty
pub last-eol : (e : Bool) (c : List ℕ) → (length c ≡ 0 → ⊥) → last_eol e c ≡ is_eol (get_or c (length c - 1) 0)
unfolding last_eol
last-eol e [] h = absurd (h refl)
last-eol e (b ∷ []) h = refl
last-eol e (b ∷ d ∷ c) h =
    let here : suc (suc (length c)) - 1 ≡ suc (length c) = omega arith in
    let then : suc (length c) - 1 ≡ length c = omega arith in
    let more : last_eol (is_eol b) (d ∷ c) ≡ is_eol (get_or (d ∷ c) (suc (length c) - 1) 0) = last-eol (is_eol b) (d ∷ c) (λ z. omega arith) in
    rw here (rw then at more)

-- none in an empty one
pub last_none : (c : List ℕ) → length c ≡ 0 → last_eol false c ≡ false
unfolding last_eol
last_none [] h = refl
last_none (b ∷ c) h = absurd (omega arith)
