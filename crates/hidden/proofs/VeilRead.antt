-- Proved: two texts that are alike place by place, but for what stands inside quoted tokens, are related as Veil asks (rel-of). Assumes nothing.
use Prim.Native.Nat.{ℕ, zero, suc, ◌+◌, ◌<◌}
use mathlib.Core.Bool.{true≢false, false≢true, Bool, true, false, not, cond, ◌&&◌, ◌||◌}
use mathlib.Core.Path.{◌≡◌, refl, sym, ap, ap₂, ◌∙◌}
use mathlib.Core.List.{List, [], ◌∷◌, map}
use native.Mathlib.Omega.{arith}
use borrow.Author.Tests.{ltb-true}
use lib.Dec.{ltb}
use lib.ListN.{length, get_or}
use Rattle.rules.specs.declared.Reading.TheVariants.{First}
use Rattle.gaps.specs.Gaps.{gap}
use Rattle.text.specs.Bytes.{is, is_eol, is_digit}
use Rattle.text.proofs.Ranges.{digit_not}
use Rattle.text.proofs.Bools.{and_l, and_r}
use Rattle.values.specs.Values.{Class, Lexed}
use Rattle.grammar.proofs.First.{first_tokens, tokens-first}
use Rattle.grammar.specs.Tokens.{Mode, lex, after, Tok, tok, emit, step}
use Rattle.hidden.specs.Differences.{is_mark}
use Rattle.text.proofs.Shape.{σ, blind}
use Rattle.hidden.proofs.Veil.{μ, veiled, Byte, is_zero, rel_emit, rel_step, Rel}

-- place i is inside the token, if that is a quoted value or a text field
unfoldable pub inside_tok : Tok → ℕ → Bool
inside_tok t i = veiled t.class && (ltb t.at i && ltb (suc i) (t.at + t.size))

unfoldable pub inside_any : List Tok → ℕ → Bool
inside_any [] i = false
inside_any (t ∷ ts) i = inside_tok t i || inside_any ts i

pub data Either (A B : Type 0) : Type 0 where
  left : A → Either A B
  right : B → Either A B

pub either : {A B C : Type 0} → (A → C) → (B → C) → Either A B → C
either f g (left a) = f a
either f g (right b) = g b

pub or_split : (a b : Bool) → a || b ≡ true → Either (a ≡ true) (b ≡ true)
or_split true b e = left refl
or_split false b e = right e

-- inside a token that starts at o: behind o, and before its last byte
record Inside (c : Class) (o n i : ℕ) : Type 0 where
  kind : veiled c ≡ true
  low : o < i
  high : suc i < o + n

inside_of : (x : Lexed) (o i : ℕ) → inside_tok (tok x o) i ≡ true → Inside x.class o x.size i
unfolding inside_tok tok
inside_of x o i e =
    let r = and_r (veiled x.class) (ltb o i && ltb (suc i) (o + x.size)) e in
    record { kind = and_l (veiled x.class) _ e; low = ltb-true o i (and_l (ltb o i) _ r); high = ltb-true (suc i) (o + x.size) (and_r (ltb o i) _ r) }

-- what is inside a token is behind the place where reading stands
inside-behind : (s : List ℕ) (k : ℕ) (m : Mode) (o i : ℕ) → inside_any (first_tokens s k m o) i ≡ true → o < i
unfolding first_tokens inside_any step emit
inside-behind [] k m o i e = either (λ h. (inside_of (lex First 10 m []) o i h).low) (λ h. absurd (false≢true h)) (or_split _ false e)
inside-behind (b ∷ s) (suc k) m o i e = let h : suc o < i = inside-behind s k m (suc o) i e in omega arith
inside-behind (b ∷ s) zero m o i e = go (gap (b ∷ s)) (lex First 10 m (b ∷ s)) (λ k m' h. inside-behind s k m' (suc o) i h) e
  where
    last : (n : ℕ) (x : Lexed) → ((k : ℕ) (m' : Mode) → inside_any (first_tokens s k m' (suc o)) i ≡ true → suc o < i) → inside_any (emit n (tok x o) (λ k. first_tokens s k (after x.class m) (suc o))) i ≡ true → o < i
    last zero x f e = either (λ h. (inside_of x o i h).low) (λ h. absurd (false≢true h)) (or_split _ false e)
    last (suc n) x f e = either (λ h. (inside_of x o i h).low) (λ h. let l : suc o < i = f n (after x.class m) h in omega arith) (or_split _ _ e)

    go : (g : ℕ) (x : Lexed) → ((k : ℕ) (m' : Mode) → inside_any (first_tokens s k m' (suc o)) i ≡ true → suc o < i) → inside_any (step g x m o (λ k m'. first_tokens s k m' (suc o))) i ≡ true → o < i
    go zero x f e = last x.size x f e
    go (suc g) x f e = let l : suc o < i = f g m e in omega arith

-- two bytes at one place: alike but for digits; or, where that is allowed, alike but for bytes that are no marks
pub data Close (A : Type 0) (a b : ℕ) : Type 0 where
  same : σ a ≡ σ b → Close A a b
  washed : A → μ a ≡ μ b → Close A a b

pub map-close : {A B : Type 0} {a b : ℕ} → (A → B) → Close A a b → Close B a b
map-close f (same h) = same h
map-close f (washed x h) = washed (f x) h

mark₂ : (a b : ℕ) → σ a ≡ σ b → is_mark a ≡ is_mark b
unfolding is_mark is is_eol
mark₂ a b h = sym (blind is_mark refl a) ∙ ap is_mark h ∙ blind is_mark refl b

mark-σ : (a : ℕ) → is_mark a ≡ true → σ a ≡ a
unfolding σ is_digit is_mark is is_eol
mark-σ a p = go (is_digit a) refl
  where
    go : (t : Bool) → is_digit a ≡ t → cond t 48 a ≡ a
    go false q = refl
    go true q = absurd (true≢false (sym p ∙ digit_not is_mark refl a q))

mark-same : (a b : ℕ) → is_mark a ≡ true → is_mark b ≡ true → σ a ≡ σ b → a ≡ b
mark-same a b p q h = sym (mark-σ a p) ∙ h ∙ mark-σ b q

pub σ-μ : (a b : ℕ) → σ a ≡ σ b → μ a ≡ μ b
unfolding μ
σ-μ a b h = go (is_mark a) refl (is_mark b) refl (mark₂ a b h)
  where
    go : (t : Bool) → is_mark a ≡ t → (u : Bool) → is_mark b ≡ u → t ≡ u → cond t a 120 ≡ cond u b 120
    go true p true q e = mark-same a b p q h
    go true p false q e = absurd (true≢false e)
    go false p true q e = absurd (false≢true e)
    go false p false q e = refl

any-byte : (q : Bool) (a b : ℕ) → σ a ≡ σ b → Byte q a b
unfolding Byte
any-byte true a b h = σ-μ a b h
any-byte false a b h = h

unfoldable pub Allowed : List ℕ → ℕ → Mode → Bool → ℕ → ℕ → Type 0
Allowed s k m q o j = Either (inside_any (first_tokens s k m o) (o + j) ≡ true) ((q ≡ true) × (suc j < k))

-- the same on the rest
unfoldable pub Rest : List ℕ → List ℕ → (ℕ → Type 0) → Type 0
Rest s s' A = (j : ℕ) → j < length s → Close (A j) (get_or s j 0) (get_or s' j 0)

pub all_same : (s s' : List ℕ) → length s ≡ length s' → Rest s s' (λ j. ⊥) → map σ s ≡ map σ s'
unfolding Rest
all_same [] [] e h = refl
all_same [] (b ∷ s') e h = absurd (omega arith)
all_same (b ∷ s) [] e h = absurd (omega arith)
all_same (b ∷ s) (b' ∷ s') e h = ap₂ {C = List ℕ} (λ x r. x ∷ r) (one (h 0 (omega arith))) (all_same s s' (omega arith) (λ j l. h (suc j) (omega arith)))
  where
    one : Close ⊥ b b' → σ b ≡ σ b'
    one (same x) = x
    one (washed z x) = absurd z

pub rel-of : (s s' : List ℕ) (k : ℕ) (m : Mode) (q : Bool) (o : ℕ) → length s ≡ length s' → Rest s s' (Allowed s k m q o) → Rel s s' k m q
unfolding Rest Allowed Rel rel_step rel_emit Byte first_tokens step emit inside_any is_zero
rel-of [] [] k m q o e h = tt
rel-of [] (b' ∷ s') k m q o e h = absurd (omega arith)
rel-of (b ∷ s) [] k m q o e h = absurd (omega arith)
rel-of (b ∷ s) (b' ∷ s') (suc k) m q o e h = (here (h 0 (omega arith)), rel-of s s' k m q (suc o) (omega arith) (λ j l. map-close (shift j) (h (suc j) (omega arith))))
  where
    inner : (k : ℕ) → suc zero < suc k → q ≡ true → μ b ≡ μ b' → Byte (q && not (is_zero k)) b b'
    inner zero l p x = absurd (omega arith)
    inner (suc k) l p x = rw p x

    here : Close (Either (inside_any (first_tokens s k m (suc o)) (o + 0) ≡ true) ((q ≡ true) × (1 < suc k))) b b' → Byte (q && not (is_zero k)) b b'
    here (same x) = any-byte (q && not (is_zero k)) b b' x
    here (washed (left i) x) = let z : suc o < o + 0 = inside-behind s k m (suc o) (o + 0) i in absurd (omega arith)
    here (washed (right p) x) = inner k p.1 p.0 x

    shift : (j : ℕ) → Either (inside_any (first_tokens s k m (suc o)) (o + suc j) ≡ true) ((q ≡ true) × (suc (suc j) < suc k)) → Either (inside_any (first_tokens s k m (suc o)) (suc o + j) ≡ true) ((q ≡ true) × (suc j < k))
    shift j (left i) = let z : o + suc j ≡ suc o + j = omega arith in left (rw z at i)
    shift j (right p) = right (p.0, omega (arith, p.1))
rel-of (b ∷ s) (b' ∷ s') zero m q o e h = (head (h 0 (omega arith)), go (gap (b ∷ s)) (lex First 10 m (b ∷ s)) (λ j l. map-close (only j) (h (suc j) (omega arith))) (λ k m' q' r. rel-of s s' k m' q' (suc o) (omega arith) r))
  where
    head : Close (Either (inside_any (first_tokens (b ∷ s) 0 m o) (o + 0) ≡ true) ((q ≡ true) × (1 < 0))) b b' → σ b ≡ σ b'
    head (same x) = x
    head (washed (left i) x) = let z : o < o + 0 = inside-behind (b ∷ s) 0 m o (o + 0) i in absurd (omega arith)
    head (washed (right p) x) = absurd (omega (arith, p.1))

    only : (j : ℕ) → Either (inside_any (first_tokens (b ∷ s) 0 m o) (o + suc j) ≡ true) ((q ≡ true) × (suc (suc j) < 0)) → inside_any (first_tokens (b ∷ s) 0 m o) (o + suc j) ≡ true
    only j (left i) = i
    only j (right p) = absurd (omega (arith, p.1))

    none_inside : (x : Lexed) (i : ℕ) → x.size ≡ 0 → inside_tok (tok x o) i || false ≡ true → ⊥
    none_inside x i z f = either (λ g. let y = inside_of x o i g in absurd (omega (arith, y.low, y.high))) false≢true (or_split (inside_tok (tok x o) i) false f)

    last : (n : ℕ) (x : Lexed) → x.size ≡ n → Rest s s' (λ j. inside_any (emit n (tok x o) (λ k. first_tokens s k (after x.class m) (suc o))) (o + suc j) ≡ true)
        → ((k : ℕ) (m' : Mode) (q' : Bool) → Rest s s' (Allowed s k m' q' (suc o)) → Rel s s' k m' q') → rel_emit n x.class m (λ k m' q'. Rel s s' k m' q') (map σ s ≡ map σ s')
    last zero x z r f = all_same s s' (omega arith) (λ j l. map-close (none_inside x (o + suc j) z) (r j l))
    last (suc n) x z r f = f n (after x.class m) (veiled x.class) (λ j l. map-close (λ y. either
        (λ g. let w = inside_of x o (o + suc j) g in right (w.kind, omega (arith, w.high)))
        (λ g. let w : o + suc j ≡ suc o + j = omega arith in left (rw w at g)) (or_split (inside_tok (tok x o) (o + suc j)) _ y)) (r j l))

    go : (g : ℕ) (x : Lexed) → Rest s s' (λ j. inside_any (step g x m o (λ k m'. first_tokens s k m' (suc o))) (o + suc j) ≡ true)
        → ((k : ℕ) (m' : Mode) (q' : Bool) → Rest s s' (Allowed s k m' q' (suc o)) → Rel s s' k m' q') → rel_step g x m (λ k m' q'. Rel s s' k m' q') (map σ s ≡ map σ s')
    go zero x r f = last x.size x refl r f
    go (suc g) x r f = f g m false (λ j l. map-close (λ y. let w : o + suc j ≡ suc o + j = omega arith in left (rw w at y)) (r j l))
