-- A token read alone. Proved: the bytes of a bare value, a quoted value or a text field, taken out of the text, are read as the same value (alone-again), and a word taken
-- out is one (word-again). Assumes nothing.
use Prim.Native.Nat.{ℕ, zero, suc, ◌-◌, ◌≤◌, ◌<◌}
use mathlib.Core.Bool.{true≢false, Bool, true, false, cond, ◌&&◌, ◌||◌}
use mathlib.Core.Path.{◌≡◌, refl, sym, ap, ◌∙◌}
use mathlib.Core.List.{List, [], ◌∷◌}
use mathlib.Core.Option.{Option, none, some}
use native.Mathlib.Omega.{arith}
use lib.ListN.{take}
use lib.Seq.{take-take}
use Rattle.rules.specs.declared.Reading.TheVariants.{First}
use Rattle.text.specs.Bytes.{is, is_eol}
use Rattle.text.specs.Runs.{span}
use Rattle.text.proofs.Bools.{or_l, or_r}
use Rattle.words.specs.Words.{in_word, word, is_ordinary}
use Rattle.folding.specs.Folding.{lower}
use Rattle.keywords.specs.Keywords.{starts, key_data, key_global, key_loop, key_save, key_stop, reserved}
use Rattle.quotes.specs.Quotes.{more, quoted, field_in, field}
use Rattle.numbers.specs.Parts.{parts, is_number, within}
use Rattle.values.specs.Values.{Reason, value, over_limit, nothing, at_end, reserved_word, open_quote, open_field, Lexed, lexed, number_or, word_or, closed, lex_value, lex_as_value}
use Rattle.written.proofs.Lexing.{never}

-- words
pub span-again : (p : ℕ → Bool) (s : List ℕ) → span p (take (span p s) s) ≡ span p s
unfolding span
span-again p [] = refl
span-again p (b ∷ s) = by (p b) refl (span-again p s)
  where
    by : (t : Bool) → p b ≡ t → span p (take (span p s) s) ≡ span p s → span p (take (cond t (suc (span p s)) 0) (b ∷ s)) ≡ cond t (suc (span p s)) 0
    by true q e = rw q (ap suc e)
    by false q e = refl

pub word-again : (s : List ℕ) → word (take (word s) s) ≡ word s
unfolding word
word-again s = span-again in_word s

-- quotes and fields
quote-go : (t u : Bool) (r r' : Option ℕ) (n : ℕ) → ((k : ℕ) → r ≡ some k → n ≡ suc k → r' ≡ some k) → cond t (some 1) (cond u none (more r)) ≡ some n → cond t (some 1) (cond u none (more r')) ≡ some n
unfolding more
quote-go true u r r' n f e = e
quote-go false true r r' n f e = e
quote-go false false none r' n f e = never (cc)
quote-go false false (some k) r' n f e = let q : n ≡ suc k = cc in rw (f k refl q) e

some-pos : (t u : Bool) (r : Option ℕ) (n : ℕ) → cond t (some 1) (cond u none (more r)) ≡ some n → 0 < n
unfolding more
some-pos true u r n e = let q : n ≡ 1 = cc in omega arith
some-pos false true r n e = never (cc)
some-pos false false none n e = never (cc)
some-pos false false (some k) n e = let q : n ≡ suc k = cc in omega arith

quoted-again : (m : ℕ) (s : List ℕ) (n : ℕ) → quoted m s ≡ some n → quoted m (take n s) ≡ some n
unfolding quoted
quoted-again m [] n e = never (cc)
quoted-again m (b ∷ s) zero e = absurd (omega (arith, some-pos (is m b) (is_eol b) (quoted m s) 0 e))
quoted-again m (b ∷ s) (suc n) e =
    quote-go (is m b) (is_eol b) (quoted m s) (quoted m (take n s)) (suc n) (λ k q z. let y : n ≡ k = omega arith in rw (← y) (quoted-again m s n (rw y q))) e

pub field-again : (f : Bool) (s : List ℕ) (n : ℕ) → field_in f s ≡ some n → field_in f (take n s) ≡ some n
unfolding field_in
field-again f [] n e = never (cc)
field-again f (b ∷ s) zero e = absurd (omega (arith, some-pos (f && is 59 b) false (field_in (is_eol b) s) 0 e))
field-again f (b ∷ s) (suc n) e =
    quote-go (f && is 59 b) false (field_in (is_eol b) s) (field_in (is_eol b) (take n s)) (suc n) (λ k q z. let y : n ≡ k = omega arith in rw (← y) (field-again (is_eol b) s n (rw y q))) e

-- keywords: what a part starts with, the whole starts with
pub starts-part : (k s : List ℕ) (n : ℕ) → starts k s ≡ false → starts k (take n s) ≡ false
unfolding starts
starts-part [] s n e = absurd (true≢false e)
starts-part (c ∷ k) s zero e = refl
starts-part (c ∷ k) [] (suc n) e = refl
starts-part (c ∷ k) (b ∷ s) (suc n) e = by (is c (lower b)) e (starts-part k s n)
  where
    by : (t : Bool) → (t && starts k s) ≡ false → (starts k s ≡ false → starts k (take n s) ≡ false) → (t && starts k (take n s)) ≡ false
    by true e f = f e
    by false e f = refl

reserved-part : (s : List ℕ) (n : ℕ) → reserved First s ≡ false → reserved First (take n s) ≡ false
unfolding reserved
reserved-part s n e =
    let d = starts key_data s in
    let g = starts key_global s in
    let l = starts key_loop s in
    let v = starts key_save s in
    let e₁ = or_l (d || g || l || v) (starts key_stop s) e in
    let e₂ = or_l (d || g || l) v e₁ in
    let e₃ = or_l (d || g) l e₂ in
    rw (
      starts-part key_data s n (or_l d g e₃),
      starts-part key_global s n (or_r d g e₃),
      starts-part key_loop s n (or_r (d || g) l e₂),
      starts-part key_save s n (or_r (d || g || l) v e₁),
      starts-part key_stop s n (or_r (d || g || l || v) (starts key_stop s) e),
    )

pub take-cons : (n b : ℕ) (t : List ℕ) → 0 < n → take n (b ∷ t) ≡ b ∷ take (n - 1) t
take-cons zero b t h = absurd (omega arith)
take-cons (suc n) b t h = let z : suc n - 1 ≡ n = omega arith in rw z

-- a value of a kind between marks or bare
module _ (k n : ℕ) (low : 10 ≤ k) (high : k ≤ 13) (pos : 0 < n) where
  Is : Lexed → Type 0
  Is x = x ≡ lexed (value k) n

  -- the same way of two
  along : (t : Bool) (x y x' y' : Lexed) → (t ≡ true → Is x → Is x') → (t ≡ false → Is y → Is y') → Is (cond t x y) → Is (cond t x' y')
  along true x y x' y' f g e = f refl e
  along false x y x' y' f g e = g refl e

  kind-is : (j i : ℕ) → Is (lexed (value j) i) → (j ≡ k) × (i ≡ n)
  unfolding Is lexed
  kind-is j i e =
      let q : value j ≡ value k = ap (λ (x : Lexed). x.class) e in
      (cc, ap (λ (x : Lexed). x.size) e)

  not-that : {A : Type 0} (j i : ℕ) → (j ≡ k → ⊥) → Is (lexed (value j) i) → A
  not-that j i f e = absurd (f (kind-is j i e).0)

  -- a number has another kind
  no_number : (x : Lexed) (s : List ℕ) → Is (word_or First x s) → (is_number (parts (take (word s) s)) ≡ false) × Is x
  unfolding Is word_or number_or lexed
  no_number x s = by (is_number (parts (take (word s) s))) (within (parts (take (word s) s))) (parts (take (word s) s)).unc.here
    where
      by : (t u h : Bool) → cond t (lexed (cond u (value (cond h 15 14)) over_limit) (word s)) x ≡ lexed (value k) n → (t ≡ false) × (x ≡ lexed (value k) n)
      by false u h e = (refl, e)
      by true true true e = not-that 15 (word s) (λ q. omega arith) e
      by true true false e = not-that 14 (word s) (λ q. omega arith) e
      by true false h e = let q : over_limit ≡ value k = ap (λ (x : Lexed). x.class) e in never (cc)

  closed-again : (j : ℕ) (why : Reason) (o o' : Option ℕ) → ((i : ℕ) → o ≡ some i → n - 1 ≡ i → o' ≡ some i) → Is (closed j why o) → Is (closed j why o')
  unfolding Is closed lexed
  closed-again j why none o' f e = let q : nothing why ≡ value k = ap (λ (x : Lexed). x.class) e in never (cc)
  closed-again j why (some i) o' f e = let q = kind-is j (suc i) e in rw (f i refl (omega (arith, q.1))) e

  -- a bare word
  bare-again : (s : List ℕ) → Is (word_or First (lexed (value 10) (word s)) s) → Is (word_or First (lexed (value 10) (word (take n s))) (take n s))
  unfolding word_or number_or
  bare-again s e =
      let q = no_number (lexed (value 10) (word s)) s e in
      let z : n ≡ word s = sym (kind-is 10 (word s) q.1).1 in
      let w : word (take n s) ≡ word s = ap (λ (m : ℕ). word (take m s)) z ∙ word-again s in
      let p : take (word s) (take n s) ≡ take (word s) s = take-take (word s) n s (omega arith) in
      rw (w, p) e

  value-again : (b : ℕ) (t : List ℕ) → Is (lex_value First 10 b t) → Is (lex_value First 10 b (take (n - 1) t))
  unfolding lex_value
  value-again b t =
      along (is 46 b) _ _ _ _ (λ _ e. not-that 8 1 (λ q. omega arith) (no_number (lexed (value 8) 1) (b ∷ t) e).1)
      (λ _. along (is 63 b) _ _ _ _ (λ _ e. not-that 9 1 (λ q. omega arith) e)
      (λ _. along (is 39 b) _ _ _ _ (λ _. closed-again 11 open_quote (quoted 39 t) _ (λ i e q. rw q (quoted-again 39 t i e)))
      (λ _. along (is 34 b) _ _ _ _ (λ _. closed-again 12 open_quote (quoted 34 t) _ (λ i e q. rw q (quoted-again 34 t i e)))
      (λ _. along (is 59 b) _ _ _ _ (λ _. closed-again 13 open_field (field t) _ (λ i e q. rw q (unfold field in field-again false t i e)))
      (λ _. along (is_ordinary b) _ _ _ _ (λ _ e. rw (take-cons n b t pos) at (bare-again (b ∷ t) e)) (λ _ e. e))))))

  -- THE VALUE, taken out of the text, is read as before
  pub alone-again : (s : List ℕ) → lex_as_value First 10 s ≡ lexed (value k) n → lex_as_value First 10 (take n s) ≡ lexed (value k) n
  unfolding lex_as_value Is lexed
  alone-again [] e = let q : nothing at_end ≡ value k = ap (λ (x : Lexed). x.class) e in never (cc)
  alone-again (b ∷ t) e = rw (take-cons n b t pos) (by (reserved First (b ∷ t)) refl e)
    where
      by : (x : Bool) → reserved First (b ∷ t) ≡ x → cond x (lexed (nothing reserved_word) 0) (lex_value First 10 b t) ≡ lexed (value k) n → cond (reserved First (b ∷ take (n - 1) t)) (lexed (nothing reserved_word) 0) (lex_value First 10 b (take (n - 1) t)) ≡ lexed (value k) n
      by true q e = let z : nothing reserved_word ≡ value k = ap (λ (x : Lexed). x.class) e in never (cc)
      by false q e = rw (rw (take-cons n b t pos) at (reserved-part (b ∷ t) n q)) (value-again b t e)
