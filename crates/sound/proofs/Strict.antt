-- Values of the strict reading, taken out of their text. Proved: where rendering puts it, a bare value (bare-alone), a text field (field-alone) and a quoted value (quoted-alone) is
-- read as the same value, and no value has a kind of the first reading's quotes (no-mark). Assumes nothing.
use Prim.Native.Nat.{ℕ, zero, suc, ◌-◌, ◌≤◌, ◌<◌}
use mathlib.Core.Bool.{true≢false, false≢true, Bool, true, false, cond, ◌&&◌, ◌||◌, and-false}
use mathlib.Core.Path.{◌≡◌, refl, sym, ap, ◌∙◌}
use mathlib.Core.List.{List, [], ◌∷◌, ◌++◌}
use mathlib.Core.Option.{Option, none, some}
use native.Mathlib.Omega.{arith}
use borrow.Author.Tests.{eqb-true, eq-eqb}
use lib.Dec.{eqb}
use lib.ListN.{length, take, drop}
use lib.Seq.{take-suc, take-take, length-take-le}
use Rattle.rules.specs.declared.Reading.TheVariants.{Strict}
use Rattle.text.specs.Bytes.{is, is_eol, is_space}
use Rattle.text.proofs.Bools.{and_l, or_l, or_r}
use Rattle.words.specs.Words.{word, is_ordinary}
use Rattle.words.proofs.Words.{word_fits}
use Rattle.keywords.specs.Keywords.{starts, is_word, key_data, key_global, key_loop, key_save, key_stop, reserved}
use Rattle.quotes.specs.Quotes.{more, ends_here, strict_quoted, field}
use Rattle.quotes.proofs.Quotes.{Ends, field-ends}
use Rattle.quotes.proofs.Strict.{quoted-ends}
use Rattle.kinds.specs.declared.Kind.TheVariants.{Bare}
use Rattle.values.specs.Values.{Reason, value, nothing, at_end, reserved_word, open_quote, open_field, joined, Lexed, lexed, word_or, closed, alone_or, lex_value, lex_as_value}
use Rattle.values.specs.Alone.{is_kind, is_alone}
use Rattle.values.proofs.Alone.{field-value, strict-single-value, strict-double-value}
use Rattle.values.proofs.Views.{Read, missing, point, unknown, bare, quote, double, multi, number, over, view}
use Rattle.readable.specs.Tokens.{mark, starts_field, is_bare_field}
use Rattle.readable.specs.Readable.{is_name, is_value}
use Rattle.readable_strict.proofs.Kept.{bare-led, bare-plain}
use Rattle.written.proofs.Lexing.{never}
use Rattle.sound.proofs.Again.{word-again, field-again, starts-part, take-cons}

-- a quote, cut out

unfoldable length_of : Option ℕ → ℕ
length_of none = 0
length_of (some n) = n

ends_same : (n : ℕ) (s : List ℕ) → 0 < n → ends_here (take n s) ≡ ends_here s
unfolding ends_here
ends_same zero s h = absurd (omega arith)
ends_same (suc n) [] h = refl
ends_same (suc n) (b ∷ s) h = refl

quote-pos : (m : ℕ) (s : List ℕ) (n : ℕ) → strict_quoted m s ≡ some n → 0 < n
quote-pos m s n e = (quoted-ends Strict m s n e).pos

quote-again : (m : ℕ) (s : List ℕ) (n : ℕ) → strict_quoted m s ≡ some n → strict_quoted m (take n s) ≡ some n
unfolding strict_quoted more length_of ends_here
quote-again m [] n e = never (cc)
quote-again m (b ∷ s) zero e = absurd (omega (arith, quote-pos m (b ∷ s) 0 e))
quote-again m (b ∷ s) (suc n) e = by (is m b && ends_here s) refl (is_eol b) refl (strict_quoted m s) refl (quote-again m s) e
  where
    by : (t : Bool) → (is m b && ends_here s) ≡ t → (u : Bool) → is_eol b ≡ u → (r : Option ℕ) → strict_quoted m s ≡ r → ((k : ℕ) → strict_quoted m s ≡ some k → strict_quoted m (take k s) ≡ some k)
        → cond t (some 1) (cond u none (more r)) ≡ some (suc n) → cond (is m b && ends_here (take n s)) (some 1) (cond (is_eol b) none (more (strict_quoted m (take n s)))) ≡ some (suc n)
    by true p u q r w ih e =
        let y : 1 ≡ suc n = ap length_of e in
        let z : n ≡ 0 = omega arith in
        rw (z, and_l (is m b) (ends_here s) p)
    by false p true q r w ih e = never (cc)
    by false p false q none w ih e = never (cc)
    by false p false q (some k) w ih e =
        let y : suc k ≡ suc n = ap length_of e in
        let z : k ≡ n = omega arith in
        let x : strict_quoted m s ≡ some n = w ∙ ap some z in
        rw (ends_same n s (quote-pos m s n x), p, q, ih n x)

-- what stands between marks, taken out
closed-alone : (k m n : ℕ) (why : Reason) (t : List ℕ) → lex_as_value Strict 10 (m ∷ take n t) ≡ closed k why (some n) → n ≤ length t → is_alone Strict 10 k (m ∷ take n t) ≡ true
unfolding is_alone is_kind closed lexed
closed-alone k m n why t e h =
    let l : suc n ≡ suc (length (take n t)) = ap suc (sym (length-take-le n t h)) in
    rw (e, eq-eqb k k refl) (eq-eqb (suc n) (suc (length (take n t))) l)

single-alone : (t : List ℕ) (n : ℕ) → strict_quoted 39 t ≡ some n → is_alone Strict 10 21 (39 ∷ take n t) ≡ true
single-alone t n e = closed-alone 21 39 n open_quote t (strict-single-value (take n t) ∙ ap (closed 21 open_quote) (quote-again 39 t n e)) (quoted-ends Strict 39 t n e).fits

double-alone : (t : List ℕ) (n : ℕ) → strict_quoted 34 t ≡ some n → is_alone Strict 10 21 (34 ∷ take n t) ≡ true
double-alone t n e = closed-alone 21 34 n open_quote t (strict-double-value (take n t) ∙ ap (closed 21 open_quote) (quote-again 34 t n e)) (quoted-ends Strict 34 t n e).fits

multi-alone : (t : List ℕ) (n : ℕ) → field t ≡ some n → is_alone Strict 10 13 (59 ∷ take n t) ≡ true
unfolding field
multi-alone t n e = closed-alone 13 59 n open_field t (field-value Strict (take n t) ∙ ap (closed 13 open_field) (field-again false t n e)) (field-ends t n e).fits

-- a quoted value keeps its opening mark, which closes it again
quoted-token : (m : ℕ) (t : List ℕ) (n : ℕ) → Ends m t n → take n (m ∷ t) ++ mark (take n (m ∷ t)) ≡ m ∷ take n t
unfolding mark
quoted-token m t zero e = absurd (omega (arith, e.pos))
quoted-token m t (suc n) e =
    let y : suc n - 1 ≡ n = omega arith in
    ap {B = List ℕ} (λ r. m ∷ r) (ap (λ (b : ℕ). take n t ++ (b ∷ [])) (sym (rw y at e.last)) ∙ sym (take-suc t n 0 (omega (arith, e.fits))))

-- QUOTED, of n bytes with both marks
pub record QuotedAlone (u : List ℕ) (n : ℕ) : Type 0 where
  pub pos : 1 ≤ n
  pub token : take (n - 1) u ++ mark (take (n - 1) u) ≡ take n u
  pub alone : is_alone Strict 10 21 (take n u) ≡ true

quoted-of : (m : ℕ) (u t : List ℕ) (n : ℕ) → u ≡ m ∷ t → Ends m t n → is_alone Strict 10 21 (m ∷ take n t) ≡ true → QuotedAlone u (suc n)
quoted-of m u t n q e a =
    let z : suc n - 1 ≡ n = omega arith in
    record { pos = omega arith; token = rw (q, z) (quoted-token m t n e); alone = rw q a }

read-quoted : (u : List ℕ) (x : Lexed) (n : ℕ) → Read Strict u x → x.class ≡ value 21 → x.size ≡ n → QuotedAlone u n
unfolding lexed
read-quoted u _ n (missing w) e q = never (cc)
read-quoted u _ n (point t r) e q = let z : ◌≡◌ {A = ℕ} 8 21 = cc in absurd (omega arith)
read-quoted u _ n (unknown t r) e q = let z : ◌≡◌ {A = ℕ} 9 21 = cc in absurd (omega arith)
read-quoted u _ n (bare p) e q = let z : ◌≡◌ {A = ℕ} 10 21 = cc in absurd (omega arith)
read-quoted u _ n (quote t m r c) e q = rw (← q) (quoted-of 39 u t m r (quoted-ends Strict 39 t m c) (single-alone t m c))
read-quoted u _ n (double t m r c) e q = rw (← q) (quoted-of 34 u t m r (quoted-ends Strict 34 t m c) (double-alone t m c))
read-quoted u _ n (multi t m r c) e q = let z : ◌≡◌ {A = ℕ} 13 21 = cc in absurd (omega arith)
read-quoted u _ n (number true v w p) e q = let z : ◌≡◌ {A = ℕ} 15 21 = cc in absurd (omega arith)
read-quoted u _ n (number false v w p) e q = let z : ◌≡◌ {A = ℕ} 14 21 = cc in absurd (omega arith)
read-quoted u _ n (over p) e q = never (cc)

pub quoted-alone : (p : ℕ) (u : List ℕ) (n : ℕ) → lex_as_value Strict p u ≡ lexed (value 21) n → QuotedAlone u n
unfolding lexed
quoted-alone p u n e = read-quoted u (lex_as_value Strict p u) n (view Strict p u) (ap (λ (x : Lexed). x.class) e) (ap (λ (x : Lexed). x.size) e)

-- A TEXT FIELD, of n bytes with both marks
pub record FieldAlone (u : List ℕ) (n : ℕ) : Type 0 where
  pub pos : 2 ≤ n
  pub token : 59 ∷ (take (n - 2) (drop 1 u) ++ (59 ∷ [])) ≡ take n u
  pub alone : is_alone Strict 10 13 (take n u) ≡ true

field_of : (u t : List ℕ) (n : ℕ) → u ≡ 59 ∷ t → Ends 59 t n → is_alone Strict 10 13 (59 ∷ take n t) ≡ true → FieldAlone u (suc n)
field_of u t zero q e a = absurd (omega (arith, e.pos))
field_of u t (suc n) q e a =
    let z : suc (suc n) - 2 ≡ n = omega arith in
    let y : suc n - 1 ≡ n = omega arith in
    record {
      pos = omega arith;
      token = rw (q, z) (ap {B = List ℕ} (λ r. 59 ∷ r) (ap (λ (b : ℕ). take n t ++ (b ∷ [])) (sym (rw y at e.last)) ∙ sym (take-suc t n 0 (omega (arith, e.fits)))));
      alone = rw q a;
    }

read-field : (u : List ℕ) (x : Lexed) (n : ℕ) → Read Strict u x → x.class ≡ value 13 → x.size ≡ n → FieldAlone u n
unfolding lexed
read-field u _ n (missing w) e q = never (cc)
read-field u _ n (point t r) e q = let z : ◌≡◌ {A = ℕ} 8 13 = cc in absurd (omega arith)
read-field u _ n (unknown t r) e q = let z : ◌≡◌ {A = ℕ} 9 13 = cc in absurd (omega arith)
read-field u _ n (bare p) e q = let z : ◌≡◌ {A = ℕ} 10 13 = cc in absurd (omega arith)
read-field u _ n (quote t m r c) e q = let z : ◌≡◌ {A = ℕ} 21 13 = cc in absurd (omega arith)
read-field u _ n (double t m r c) e q = let z : ◌≡◌ {A = ℕ} 21 13 = cc in absurd (omega arith)
read-field u _ n (multi t m r c) e q = rw (← q) (field_of u t m r (field-ends t m c) (multi-alone t m c))
read-field u _ n (number true v w p) e q = let z : ◌≡◌ {A = ℕ} 15 13 = cc in absurd (omega arith)
read-field u _ n (number false v w p) e q = let z : ◌≡◌ {A = ℕ} 14 13 = cc in absurd (omega arith)
read-field u _ n (over p) e q = never (cc)

pub field-alone : (p : ℕ) (u : List ℕ) (n : ℕ) → lex_as_value Strict p u ≡ lexed (value 13) n → FieldAlone u n
unfolding lexed
field-alone p u n e = read-field u (lex_as_value Strict p u) n (view Strict p u) (ap (λ (x : Lexed). x.class) e) (ap (λ (x : Lexed). x.size) e)

-- no value has kind 11 or 12
read-no-mark : (u : List ℕ) (x : Lexed) (k : ℕ) → 11 ≤ k → k ≤ 12 → Read Strict u x → x.class ≡ value k → ⊥
unfolding lexed
read-no-mark u _ k l h (missing w) e = never (cc)
read-no-mark u _ k l h (point t r) e = let z : 8 ≡ k = cc in omega arith
read-no-mark u _ k l h (unknown t r) e = let z : 9 ≡ k = cc in omega arith
read-no-mark u _ k l h (bare p) e = let z : 10 ≡ k = cc in omega arith
read-no-mark u _ k l h (quote t m r c) e = let z : 21 ≡ k = cc in omega arith
read-no-mark u _ k l h (double t m r c) e = let z : 21 ≡ k = cc in omega arith
read-no-mark u _ k l h (multi t m r c) e = let z : 13 ≡ k = cc in omega arith
read-no-mark u _ k l h (number true v w p) e = let z : 15 ≡ k = cc in omega arith
read-no-mark u _ k l h (number false v w p) e = let z : 14 ≡ k = cc in omega arith
read-no-mark u _ k l h (over p) e = never (cc)

pub no-mark : (p : ℕ) (u : List ℕ) (k n : ℕ) → 11 ≤ k → k ≤ 12 → lex_as_value Strict p u ≡ lexed (value k) n → ⊥
unfolding lexed
no-mark p u k n l h e = read-no-mark u (lex_as_value Strict p u) k l h (view Strict p u) (ap (λ (x : Lexed). x.class) e)

-- A BARE VALUE is a word

read-bare : (u : List ℕ) (x : Lexed) (n : ℕ) → Read Strict u x → x.class ≡ value 10 → x.size ≡ n → (n ≡ word u) × (0 < n)
unfolding lexed
read-bare u _ n (missing w) e q = never (cc)
read-bare u _ n (point t r) e q = let z : ◌≡◌ {A = ℕ} 8 10 = cc in absurd (omega arith)
read-bare u _ n (unknown t r) e q = let z : ◌≡◌ {A = ℕ} 9 10 = cc in absurd (omega arith)
read-bare u _ n (bare p) e q = (sym q, omega arith)
read-bare u _ n (quote t m r c) e q = let z : ◌≡◌ {A = ℕ} 21 10 = cc in absurd (omega arith)
read-bare u _ n (double t m r c) e q = let z : ◌≡◌ {A = ℕ} 21 10 = cc in absurd (omega arith)
read-bare u _ n (multi t m r c) e q = let z : ◌≡◌ {A = ℕ} 13 10 = cc in absurd (omega arith)
read-bare u _ n (number true v w p) e q = let z : ◌≡◌ {A = ℕ} 15 10 = cc in absurd (omega arith)
read-bare u _ n (number false v w p) e q = let z : ◌≡◌ {A = ℕ} 14 10 = cc in absurd (omega arith)
read-bare u _ n (over p) e q = never (cc)

pub bare-word : (p : ℕ) (u : List ℕ) (n : ℕ) → lex_as_value Strict p u ≡ lexed (value 10) n → (n ≡ word u) × (0 < n)
unfolding lexed
bare-word p u n e = read-bare u (lex_as_value Strict p u) n (view Strict p u) (ap (λ (x : Lexed). x.class) e) (ap (λ (x : Lexed). x.size) e)

-- no keyword starts a word that none starts
word-part : (k s : List ℕ) → is_word k s ≡ false → is_word k (take (word s) s) ≡ false
unfolding is_word
word-part k s e = rw (word-again s) (by (starts k s) refl e)
  where
    by : (t : Bool) → starts k s ≡ t → (t && eqb (word s) (length k)) ≡ false → (starts k (take (word s) s) && eqb (word s) (length k)) ≡ false
    by true q e = rw e (and-false (starts k (take (word s) s)))
    by false q e = rw (starts-part k s (word s) q)

reserved-again : (s : List ℕ) → reserved Strict s ≡ false → reserved Strict (take (word s) s) ≡ false
unfolding reserved
reserved-again s e =
    let d = starts key_data s in
    let g = is_word key_global s in
    let l = is_word key_loop s in
    let v = starts key_save s in
    let e₁ = or_l (d || g || l || v) (is_word key_stop s) e in
    let e₂ = or_l (d || g || l) v e₁ in
    let e₃ = or_l (d || g) l e₂ in
    rw (
      starts-part key_data s (word s) (or_l d g e₃),
      word-part key_global s (or_r d g e₃),
      word-part key_loop s (or_r (d || g) l e₂),
      starts-part key_save s (word s) (or_r (d || g || l) v e₁),
      word-part key_stop s (or_r (d || g || l || v) (is_word key_stop s) e),
    )

-- behind its first byte
module _ (b : ℕ) (t : List ℕ) (pos : 0 < word (b ∷ t)) where
  cut : List ℕ
  cut = take (word (b ∷ t) - 1) t

  cut-is : take (word (b ∷ t)) (b ∷ t) ≡ b ∷ cut
  unfolding cut
  cut-is = take-cons (word (b ∷ t)) b t pos

  cut_word : word (b ∷ cut) ≡ word (b ∷ t)
  cut_word = ap word (sym cut-is) ∙ word-again (b ∷ t)

  cut-take : take (word (b ∷ t)) (b ∷ cut) ≡ take (word (b ∷ t)) (b ∷ t)
  cut-take = ap (take (word (b ∷ t))) (sym cut-is) ∙ take-take (word (b ∷ t)) (word (b ∷ t)) (b ∷ t) (omega arith)

  whole_same : word_or Strict (lexed (value 10) (word (b ∷ cut))) (b ∷ cut) ≡ word_or Strict (lexed (value 10) (word (b ∷ t))) (b ∷ t)
  unfolding word_or
  whole_same = rw (cut_word, cut-take)

  alone-same : (k : ℕ) → alone_or k (b ∷ cut) ≡ alone_or k (b ∷ t)
  unfolding alone_or word_or
  alone-same k = rw (cut_word, cut-take)

  module _ (n : ℕ) where
    Is : Lexed → Type 0
    Is x = x ≡ lexed (value 10) n

    along : (c : Bool) (x y x' y' : Lexed) → (c ≡ true → Is x → Is x') → (c ≡ false → Is y → Is y') → Is (cond c x y) → Is (cond c x' y')
    along true x y x' y' f g e = f refl e
    along false x y x' y' f g e = g refl e

    not-closed : {A : Type 0} (k : ℕ) (why : Reason) (o : Option ℕ) → (k ≡ 10 → ⊥) → Is (closed k why o) → A
    unfolding Is closed lexed
    not-closed k why none f e = let z : nothing why ≡ value 10 = ap (λ (x : Lexed). x.class) e in never (cc)
    not-closed k why (some i) f e = let z : value k ≡ value 10 = ap (λ (x : Lexed). x.class) e in absurd (f (cc))

    value-again : (p : ℕ) → is 59 b ≡ false → Is (lex_value Strict p b t) → Is (lex_value Strict 10 b cut)
    unfolding Is lex_value
    value-again p q =
        along (is 46 b) _ _ _ _ (λ _ e. alone-same 8 ∙ e)
        (λ _. along (is 63 b) _ _ _ _ (λ _ e. alone-same 9 ∙ e)
        (λ _. along (is 39 b) _ _ _ _ (λ _. not-closed 21 open_quote (strict_quoted 39 t) (λ z. omega arith))
        (λ _. along (is 34 b) _ _ _ _ (λ _. not-closed 21 open_quote (strict_quoted 34 t) (λ z. omega arith))
        (λ _. along (is 59 b) _ _ _ _ (λ z. absurd (true≢false (sym z ∙ q)))
        (λ _. along (is_ordinary b) _ _ _ _ (λ _ e. whole_same ∙ e) (λ _ e. e))))))

    -- THE VALUE, where space stood before it and no `;` starts it
    as-again : (p : ℕ) → is 59 b ≡ false → lex_as_value Strict p (b ∷ t) ≡ lexed (value 10) n → lex_as_value Strict 10 (b ∷ cut) ≡ lexed (value 10) n
    unfolding lex_as_value is_space is_eol lexed Is
    as-again p q e = by (is_space p) (reserved Strict (b ∷ t)) refl e
      where
        by : (x y : Bool) → reserved Strict (b ∷ t) ≡ y → cond x (cond y (lexed (nothing reserved_word) 0) (lex_value Strict p b t)) (lexed (nothing joined) 0) ≡ lexed (value 10) n
            → cond (reserved Strict (b ∷ cut)) (lexed (nothing reserved_word) 0) (lex_value Strict 10 b cut) ≡ lexed (value 10) n
        by false y r e = let z : nothing joined ≡ value 10 = ap (λ (x : Lexed). x.class) e in never (cc)
        by true true r e = let z : nothing reserved_word ≡ value 10 = ap (λ (x : Lexed). x.class) e in never (cc)
        by true false r e = rw (rw cut-is at (reserved-again (b ∷ t) r)) (value-again p q e)

-- behind a line's end no bare value starts with `;`
pub bare_apart : (p : ℕ) (t : List ℕ) (n : ℕ) → lex_as_value Strict p (59 ∷ t) ≡ lexed (value 10) n → is_eol p ≡ false
unfolding lex_as_value lex_value is lexed
bare_apart p t n e = by (is_space p) (reserved Strict (59 ∷ t)) (is_eol p) e
  where
    shut : (o : Option ℕ) → closed 13 open_field o ≡ lexed (value 10) n → ⊥
    shut none e = let z : nothing open_field ≡ value 10 = unfold closed in ap (λ (x : Lexed). x.class) e in never (cc)
    shut (some i) e = let z : value 13 ≡ value 10 = unfold closed in ap (λ (x : Lexed). x.class) e in let y : ◌≡◌ {A = ℕ} 13 10 = cc in omega arith

    by : (x y z : Bool) → cond x (cond y (lexed (nothing reserved_word) 0) (cond z (closed 13 open_field (field t)) (lexed (value 10) (word (59 ∷ t))))) (lexed (nothing joined) 0) ≡ lexed (value 10) n → z ≡ false
    by false y z e = let w : nothing joined ≡ value 10 = ap (λ (x : Lexed). x.class) e in never (cc)
    by true true z e = let w : nothing reserved_word ≡ value 10 = ap (λ (x : Lexed). x.class) e in never (cc)
    by true false true e = absurd (shut (field t) e)
    by true false false e = refl

-- a word, taken out, is a name
name_of : (u : List ℕ) → is_name (take (word u) u) ≡ true
unfolding is_name
name_of u = eq-eqb (word (take (word u) u)) (length (take (word u) u)) (word-again u ∙ sym (length-take-le (word u) u (word_fits u)))

alone_of : (w : List ℕ) (n : ℕ) → lex_as_value Strict 10 w ≡ lexed (value 10) n → n ≡ length w → is_alone Strict 10 10 w ≡ true
unfolding is_alone is_kind lexed
alone_of w n a l = rw a (eq-eqb n (length w) l)

pub bare-alone : (p : ℕ) (u : List ℕ) (n : ℕ) → lex_as_value Strict p u ≡ lexed (value 10) n → is_value Strict Bare (take n u) ≡ true
unfolding lex_as_value lexed
bare-alone p [] n e = let z : nothing at_end ≡ value 10 = ap (λ (x : Lexed). x.class) e in never (cc)
bare-alone p (b ∷ t) n e =
    let w = bare-word p (b ∷ t) n e in
    let pos : 0 < word (b ∷ t) = omega (arith, w.0, w.1) in
    rw w.0 (by (is 59 b) refl pos)
  where
    size : n ≡ word (b ∷ t)
    size = (bare-word p (b ∷ t) n e).0

    led : (x : Bool) → is 59 b ≡ x → 0 < word (b ∷ t) → is_bare_field Bare (take (word (b ∷ t)) (b ∷ t)) ≡ x
    led x q pos = rw (cut-is b t pos) (unfold is_bare_field starts_field in q)

    by : (x : Bool) → is 59 b ≡ x → 0 < word (b ∷ t) → is_value Strict Bare (take (word (b ∷ t)) (b ∷ t)) ≡ true
    by true q pos = bare-led (take (word (b ∷ t)) (b ∷ t)) (led true q pos) ∙ name_of (b ∷ t)
    by false q pos =
        let a : lex_as_value Strict 10 (b ∷ cut b t pos) ≡ lexed (value 10) n = as-again b t pos n p q e in
        let l : n ≡ length (b ∷ cut b t pos) = size ∙ sym (length-take-le (word (b ∷ t)) (b ∷ t) (word_fits (b ∷ t))) ∙ ap length (cut-is b t pos) in
        bare-plain (take (word (b ∷ t)) (b ∷ t)) (led false q pos) ∙ rw (cut-is b t pos) (alone_of (b ∷ cut b t pos) n a l)

-- one that starts with `;` stands behind no line end
pub bare-first : (p : ℕ) (u : List ℕ) (n : ℕ) → lex_as_value Strict p u ≡ lexed (value 10) n → is_bare_field Bare (take n u) ≡ true → is_eol p ≡ false
unfolding is_bare_field starts_field is
bare-first p u zero e q = absurd (false≢true q)
bare-first p [] (suc n) e q = absurd (false≢true q)
bare-first p (b ∷ t) (suc n) e q = bare_apart p t (suc n) (rw (eqb-true b 59 q) at e)
