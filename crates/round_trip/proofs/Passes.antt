-- A token and what follows it. Proved: what is read alone as a token of its whole length is read so before an LF and more text, and reading goes on behind the LF
-- (passes): of the first reading by its law, of the strict one here, where a space may stand before the token. Assumes nothing.
use Prim.Native.Nat.{ℕ, suc, ◌+◌, ◌<◌}
use mathlib.Core.Path.{◌≡◌, refl, sym, ap, ◌∙◌}
use mathlib.Core.Bool.{Bool, true, false, cond, ◌||◌}
use mathlib.Core.List.{List, [], ◌∷◌, ◌++◌}
use mathlib.Core.Option.{Option, none, some}
use native.Mathlib.Omega.{arith}
use borrow.Author.Tests.{eqb-true}
use lib.Dec.{eqb}
use lib.ListN.{length}
use Rattle.rules.specs.declared.Reading.{Reading}
use Rattle.rules.specs.declared.Reading.TheVariants.{First, Strict}
use Rattle.text.specs.Bytes.{is, is_eol, is_space}
use Rattle.text.proofs.Bools.{or_cases}
use Rattle.gaps.specs.Gaps.{gap}
use Rattle.gaps.proofs.Starts.{gap-space-first, gap-no-first}
use Rattle.words.specs.Words.{word, is_ordinary}
use Rattle.words.proofs.Ended.{word-ended, word-taken}
use Rattle.folding.specs.Folding.{lower}
use Rattle.keywords.specs.Keywords.{starts, is_word, key_data, key_global, key_loop, key_save, key_stop}
use Rattle.keywords.proofs.Ended.{data-ended, global-ended, loop_ended, save-ended, stop-ended}
use Rattle.quotes.specs.Quotes.{ends_here, strict_quoted, field}
use Rattle.quotes.proofs.Ended.{field-closed}
use Rattle.values.specs.Values.{Class, value, nothing, joined, open_field, Lexed, lexed, word_or, closed, alone_or, lex_value}
use Rattle.grammar.specs.Tokens.{Mode, lex_in, lex, after, Tok, tok, emit, step, tokens_from}
use Rattle.grammar.proofs.Steps.{gap-skip}
use Rattle.grammar.proofs.First.{first-from}
use Rattle.grammar.proofs.Advance.{Whole, advance}

-- THE LINE OF A TOKEN: the lead l, the token w and an LF are read as a token of class c, and reading goes on behind
unfoldable pub Reads : Reading → Mode → (l w : List ℕ) → Class → Type 0
Reads r m l w c =
    (t : List ℕ) (o : ℕ) → tokens_from r (l ++ (w ++ 10 ∷ t)) 10 0 m o ≡ tok (lexed c (length w)) (o + length l) ∷ tokens_from r t 10 0 (after c m) (suc (o + length l + length w))

-- The strict reading: a token alone and before an LF

here-ended : (w t : List ℕ) → ends_here (w ++ 10 ∷ t) ≡ ends_here w
unfolding ends_here is_space
here-ended [] t = refl
here-ended (b ∷ w) t = refl

quote-ended : (m : ℕ) → is m 10 ≡ false → (w t : List ℕ) → strict_quoted m (w ++ 10 ∷ t) ≡ strict_quoted m w
unfolding strict_quoted is_eol
quote-ended m e [] t = rw e
quote-ended m e (b ∷ w) t = rw (here-ended w t, quote-ended m e w t)

word_or-ended : (x : Lexed) (w t : List ℕ) → word_or Strict x (w ++ 10 ∷ t) ≡ word_or Strict x w
unfolding word_or
word_or-ended x w t = rw (word-ended w t, word-taken w (10 ∷ t))

alone-ended : (k : ℕ) (w t : List ℕ) → alone_or k (w ++ 10 ∷ t) ≡ alone_or k w
unfolding alone_or
alone-ended k w t = rw (word-ended w t, word_or-ended (lexed (value 10) (word w)) w t)

-- a `;` in column 1 has its close in s
unfoldable Shut : Bool → ℕ → List ℕ → Type 0
Shut column1 b s = is 59 b ≡ true → column1 ≡ true → (n : ℕ) × (field s ≡ some n)

field-ended : (c : Bool) (b : ℕ) (s t : List ℕ) (x : Lexed) → Shut c b s
    → cond (is 59 b) (cond c (closed 13 open_field (field (s ++ 10 ∷ t))) (lexed (value 10) (word (59 ∷ s ++ 10 ∷ t)))) x ≡ cond (is 59 b) (cond c (closed 13 open_field (field s)) (lexed (value 10) (word (59 ∷ s)))) x
unfolding Shut
field-ended c b s t x h = go (is 59 b) refl c refl
  where
    go : (d : Bool) → is 59 b ≡ d → (e : Bool) → c ≡ e
        → cond d (cond e (closed 13 open_field (field (s ++ 10 ∷ t))) (lexed (value 10) (word (59 ∷ s ++ 10 ∷ t)))) x ≡ cond d (cond e (closed 13 open_field (field s)) (lexed (value 10) (word (59 ∷ s)))) x
    go false p e q = refl
    go true p false q = rw (word-ended (59 ∷ s) t)
    go true p true q = let r = h p q in ap (closed 13 open_field) (field-closed s (10 ∷ t) r.0 r.1 ∙ sym r.1)

value-ended : (p b : ℕ) (s t : List ℕ) → Shut (is_eol p) b s → lex_value Strict p b (s ++ 10 ∷ t) ≡ lex_value Strict p b s
unfolding lex_value is
value-ended p b s t h =
    rw (word-ended (b ∷ s) t, word_or-ended (lexed (value 10) (word (b ∷ s))) (b ∷ s) t, alone-ended 8 (b ∷ s) t, alone-ended 9 (b ∷ s) t, quote-ended 39 refl s t, quote-ended 34 refl s t)
    (rw (field-ended (is_eol p) b s t _ h))

strict-ended : (p : ℕ) (m : Mode) (b : ℕ) (s t : List ℕ) → Shut (is_eol p) b s → lex_in Strict p m (b ∷ s ++ 10 ∷ t) ≡ lex_in Strict p m (b ∷ s)
unfolding lex_in is_word
strict-ended p m b s t h =
    rw (data-ended (b ∷ s) t, save-ended (b ∷ s) t, loop_ended (b ∷ s) t, global-ended (b ∷ s) t, stop-ended (b ∷ s) t, word-ended (b ∷ s) t, value-ended p b s t h)

-- where space or a comment starts, no token does
none_of : (a : Bool) (x y : Lexed) → x.size ≡ 0 → y.size ≡ 0 → (cond a x y).size ≡ 0
none_of true x y p q = p
none_of false x y p q = q

gap-no-token : (p : ℕ) (m : Mode) (b : ℕ) (s : List ℕ) → (is_space b || is 35 b) ≡ true → (lex_in Strict p m (b ∷ s)).size ≡ 0
unfolding is_space is lex_in starts is_word key_data key_global key_stop key_loop key_save lower lex_value is_ordinary lexed
gap-no-token p m b s =
    or_cases _ _ (or_cases _ _ (or_cases _ _ (or_cases _ _ (at 32 (none_of (is_space p) _ _ refl refl)) (at 9 (none_of (is_space p) _ _ refl refl))) (at 10 (none_of (is_space p) _ _ refl refl))) (at 13 (none_of (is_space p) _ _ refl refl))) (at 35 (none_of (is_space p) _ _ refl refl))
  where
    at : (c : ℕ) → (lex_in Strict p m (c ∷ s)).size ≡ 0 → eqb b c ≡ true → (lex_in Strict p m (b ∷ s)).size ≡ 0
    at c h e = rw (eqb-true b c e) h

gap-none : (p : ℕ) (m : Mode) (b : ℕ) (s t : List ℕ) (n : ℕ) → (lex_in Strict p m (b ∷ s)).size ≡ suc n → gap (b ∷ t) ≡ 0
gap-none p m b s t n h = gap-no-first b t (go (is_space b || is 35 b) refl)
  where
    go : (c : Bool) → (is_space b || is 35 b) ≡ c → c ≡ false
    go false e = refl
    go true e = let z : ◌≡◌ {A = ℕ} 0 (suc n) = sym (gap-no-token p m b s e) ∙ h in absurd (omega arith)

-- a token that is whole has its field closed
shut-of : (p : ℕ) (m : Mode) (b : ℕ) (s : List ℕ) (n : ℕ) → (lex_in Strict p m (b ∷ s)).size ≡ suc n → Shut (is_eol p) b s
unfolding Shut is lex_in starts is_word key_data key_global key_stop key_loop key_save lower lex_value closed lexed
shut-of p m b s n h e c = go (field s) refl (is_space p) (rw (eqb-true b 59 e, c) at h)
  where
    go : (r : Option ℕ) → field s ≡ r → (a : Bool) → (cond a (closed 13 open_field (field s)) (lexed (nothing joined) 0)).size ≡ suc n → (n : ℕ) × (field s ≡ some n)
    go (some k) q a z = (k, q)
    go none q true z = let y : ◌≡◌ {A = ℕ} 0 (suc n) = rw q at z in absurd (omega arith)
    go none q false z = let y : ◌≡◌ {A = ℕ} 0 (suc n) = z in absurd (omega arith)

-- bytes passed over

last_of : ℕ → List ℕ → ℕ
last_of p [] = p
last_of p (b ∷ w) = last_of b w

cover : (r : Reading) (w t : List ℕ) (p : ℕ) (m : Mode) (o : ℕ) → tokens_from r (w ++ t) p (length w) m o ≡ tokens_from r t (last_of p w) 0 m (o + length w)
unfolding tokens_from last_of
cover r [] t p m o = let e : o + 0 ≡ o = omega arith in rw e
cover r (b ∷ w) t p m o =
    let e : o + suc (length w) ≡ suc o + length w = omega arith in
    rw e (cover r w t b m (suc o))

space-skip : (r : Reading) (b : ℕ) (t : List ℕ) (p : ℕ) (m : Mode) (o : ℕ) → is_space b ≡ true → tokens_from r (b ∷ t) p 0 m o ≡ tokens_from r t b 0 m (suc o)
unfolding tokens_from step
space-skip r b t p m o e = rw (gap-space-first b t e) (gap-skip r t b m (suc o))

behind : {a : Tok} {r r' : List Tok} → r ≡ r' → a ∷ r ≡ a ∷ r'
behind {a} e = ap {B = List Tok} (λ r. a ∷ r) e

strict-step : (p : ℕ) (m : Mode) (w t : List ℕ) (c : Class) (o : ℕ) → lex_in Strict p m w ≡ lexed c (length w) → 0 < length w
    → tokens_from Strict (w ++ 10 ∷ t) p 0 m o ≡ tok (lexed c (length w)) o ∷ tokens_from Strict t 10 0 (after c m) (suc (o + length w))
unfolding tokens_from step emit lex lexed is_space
strict-step p m [] t c o e h = absurd (omega arith)
strict-step p m (b ∷ s) t c o e h =
    let size : (lex_in Strict p m (b ∷ s)).size ≡ suc (length s) = ap (λ y. y.size) e in
    let l : lex_in Strict p m (b ∷ s ++ 10 ∷ t) ≡ lexed c (suc (length s)) = strict-ended p m b s t (shut-of p m b s (length s) size) ∙ e in
    rw (gap-none p m b s (s ++ 10 ∷ t) (length s) size, l)
    (let f : suc (o + suc (length s)) ≡ suc (suc o + length s) = omega arith in
    rw f (behind (cover Strict s (10 ∷ t) b (after c m) (suc o) ∙ space-skip Strict 10 t (last_of b s) (after c m) (suc o + length s) refl)))

-- A TOKEN THAT IS WHOLE, behind a lead of one space or none
pub strict-passes : (a : Bool) (m : Mode) (w : List ℕ) (c : Class) → lex_in Strict (cond a 32 10) m w ≡ lexed c (length w) → 0 < length w → Reads Strict m (cond a (32 ∷ []) []) w c
unfolding Reads is_space
strict-passes true m w c e h t o =
    let f : o + 1 ≡ suc o = omega arith in
    rw f (space-skip Strict 32 (w ++ 10 ∷ t) 10 m o refl ∙ strict-step 32 m w t c (suc o) e h)
strict-passes false m w c e h t o =
    let f : o + 0 ≡ o = omega arith in
    rw f (strict-step 10 m w t c o e h)

-- of the first reading
pub first_passes : (m : Mode) (w : List ℕ) (c : Class) → Whole m w (lexed c (length w)) → ((t : List ℕ) → lex First 10 m (w ++ 10 ∷ t) ≡ lex_in First 10 m (w ++ 10 ∷ t)) → Reads First m [] w c
unfolding Reads lexed
first_passes m w c h l t o =
    let f : o + 0 ≡ o = omega arith in
    rw f (first-from (w ++ 10 ∷ t) 10 0 m o ∙ advance m w t (lexed c (length w)) o h (l t) ∙ ap {B = List Tok} (λ r. tok (lexed c (length w)) o ∷ r) (sym (first-from t 10 0 (after c m) (suc (o + length w)))))
