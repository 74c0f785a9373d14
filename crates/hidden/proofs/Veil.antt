-- Proved: two texts that are alike but for digits and, inside the quoted values and text fields among the first one's tokens, for bytes that are no marks, have the same
-- tokens (tokens-veil). `Rel` follows both texts along the tokens of the first. Only `.` looks past its own token, and no number holds a mark. Assumes nothing.
use Prim.Native.Nat.{ℕ, zero, suc}
use mathlib.Core.Bool.{true≢false, false≢true, Bool, true, false, not, cond, ◌&&◌, ◌||◌, or-true}
use mathlib.Core.Path.{◌≡◌, refl, sym, ap, ap₂, ◌∙◌, subst}
use mathlib.Core.List.{List, [], ◌∷◌, map}
use mathlib.Core.Option.{Option, none, some}
use native.Mathlib.Omega.{arith}
use borrow.Author.Tests.{eqb-true, not-true}
use lib.Dec.{eqb}
use lib.ListN.{length, take, length-map}
use lib.Seq.{length-take-le, take-take}
use Rattle.rules.specs.declared.Reading.TheVariants.{First}
use Rattle.text.specs.Bytes.{is_digit, is, is_eol, ends_word}
use Rattle.text.specs.Runs.{span}
use Rattle.gaps.specs.Gaps.{gap_byte, gap_then, gap_in, gap}
use Rattle.text.proofs.Runs.{span-le}
use Rattle.text.proofs.Bools.{and_l, and_r, or_l, or_r}
use Rattle.words.specs.Words.{is_ordinary, in_word, word}
use Rattle.folding.specs.Folding.{lower}
use Rattle.keywords.specs.Keywords.{starts, key_data, key_global, key_loop, key_save, key_stop}
use Rattle.quotes.specs.Quotes.{more, quoted, field_in, field}
use Rattle.numbers.specs.Parts.{Parts, parts, is_number, within}
use Rattle.numbers.proofs.Made.{all, others, number-made}
use Rattle.values.specs.Values.{Class, block, loop, save, tag, value, over_limit, nothing, Reason, open_quote, open_field, Lexed, lexed, number_or, word_or, closed, lex_value}
use Rattle.grammar.proofs.First.{first_tokens, tokens-first}
use Rattle.grammar.specs.Tokens.{Mode, before, in_block, in_frame, save_size, lex_in, lex, after, Tok, emit, step}
use Rattle.hidden.specs.Differences.{is_mark, is_quoted}
use Rattle.hidden.proofs.Places.{take-map}
use Rattle.text.proofs.Shape.{σ, flat, blind, eol-σ}
use Rattle.gaps.proofs.Shape.{gap-σ, gap_byte-σ}
use Rattle.words.proofs.Shape.{word-σ, in_word-σ}
use Rattle.quotes.proofs.Shape.{quoted-σ, field-σ}
use Rattle.numbers.proofs.Shape.{ap-cond}
use Rattle.hidden.proofs.ShapeTokens.{number_or-σ}

-- a byte with all but the marks washed out
unfoldable pub μ : ℕ → ℕ
μ b = cond (is_mark b) b 120

-- the marks that open a value
unfoldable pub opens : ℕ → Bool
opens b = is 39 b || is 34 b || is 59 b

-- a quoted value or a text field
unfoldable pub veiled : Class → Bool
veiled (value k) = is_quoted k
veiled block = false
veiled loop = false
veiled save = false
veiled tag = false
veiled over_limit = false
veiled (nothing w) = false

-- two bytes at one place: inside such a value, or not
unfoldable pub Byte : Bool → ℕ → ℕ → Type 0
Byte true a b = μ a ≡ μ b
Byte false a b = σ a ≡ σ b

unfoldable pub is_zero : ℕ → Bool
is_zero zero = true
is_zero (suc n) = false

unfoldable pub rel_emit : ℕ → Class → Mode → (ℕ → Mode → Bool → Type 0) → Type 0 → Type 0
rel_emit zero c m rest all = all
rel_emit (suc n) c m rest all = rest n (after c m) (veiled c)

unfoldable pub rel_step : ℕ → Lexed → Mode → (ℕ → Mode → Bool → Type 0) → Type 0 → Type 0
rel_step zero x m rest all = rel_emit x.size x.class m rest all
rel_step (suc k) x m rest all = rest k m false

-- s and s' from a place on where k more bytes belong to what was read, which is such a value (q) or not
unfoldable pub Rel : List ℕ → List ℕ → ℕ → Mode → Bool → Type 0
Rel [] [] k m q = Unit {0}
Rel [] (b' ∷ s') k m q = ⊥
Rel (b ∷ s) [] k m q = ⊥
Rel (b ∷ s) (b' ∷ s') zero m q = (σ b ≡ σ b') × rel_step (gap (b ∷ s)) (lex First 10 m (b ∷ s)) m (λ k m' q'. Rel s s' k m' q') (map σ s ≡ map σ s')
Rel (b ∷ s) (b' ∷ s') (suc k) m q = Byte (q && not (is_zero k)) b b' × Rel s s' k m q

-- what two bytes alike share
blind₂ : (f : ℕ → Bool) → flat f ≡ true → (a b : ℕ) → σ a ≡ σ b → f a ≡ f b
blind₂ f e a b h = sym (blind f e a) ∙ ap f h ∙ blind f e b

-- the next k + 1 bytes are alike
rel-pre : (s s' : List ℕ) (k : ℕ) (m : Mode) → Rel s s' k m false → take (suc k) (map σ s) ≡ take (suc k) (map σ s')
unfolding Rel Byte
rel-pre [] [] k m h = refl
rel-pre [] (b' ∷ s') k m h = absurd h
rel-pre (b ∷ s) [] k m h = absurd h
rel-pre (b ∷ s) (b' ∷ s') zero m h = ap {B = List ℕ} (λ x. x ∷ []) h.0
rel-pre (b ∷ s) (b' ∷ s') (suc k) m h = ap₂ {C = List ℕ} (λ x r. x ∷ r) h.0 (rel-pre s s' k m h.1)

-- a run is told by its bytes and the next one
span-local : (p : ℕ → Bool) (x y : List ℕ) → take (suc (span p x)) x ≡ take (suc (span p x)) y → span p x ≡ span p y
unfolding span
span-local p [] [] e = refl
span-local p [] (c ∷ y) e = cc
span-local p (b ∷ x) [] e = cc
span-local p (b ∷ x) (c ∷ y) e = go (p b) refl e (span-local p x y)
  where
    go : (t : Bool) → p b ≡ t → take (suc (cond t (suc (span p x)) 0)) (b ∷ x) ≡ take (suc (cond t (suc (span p x)) 0)) (c ∷ y)
        → (take (suc (span p x)) x ≡ take (suc (span p x)) y → span p x ≡ span p y) → cond (p b) (suc (span p x)) 0 ≡ cond (p c) (suc (span p y)) 0
    go true q h r =
        let k : b ≡ c = cc in
        let l : take (suc (span p x)) x ≡ take (suc (span p x)) y = cc in
        rw (← k, q, r l)
    go false q h r = let k : b ≡ c = cc in rw (← k, q)

gap-local : (f : Bool) (x y : List ℕ) → take (suc (gap_in f x)) x ≡ take (suc (gap_in f x)) y → gap_in f x ≡ gap_in f y
unfolding gap_in
gap-local f [] [] e = refl
gap-local f [] (c ∷ y) e = cc
gap-local f (b ∷ x) [] e = cc
gap-local f (b ∷ x) (c ∷ y) e = go (gap_byte f b) refl e (gap-local (gap_then f b) x y)
  where
    n : ℕ
    n = gap_in (gap_then f b) x

    go : (t : Bool) → gap_byte f b ≡ t → take (suc (cond t (suc n) 0)) (b ∷ x) ≡ take (suc (cond t (suc n) 0)) (c ∷ y)
        → (take (suc n) x ≡ take (suc n) y → n ≡ gap_in (gap_then f b) y) → cond (gap_byte f b) (suc n) 0 ≡ cond (gap_byte f c) (suc (gap_in (gap_then f c) y)) 0
    go true q h r =
        let k : b ≡ c = cc in
        let l : take (suc n) x ≡ take (suc n) y = cc in
        rw (← k, q, r l)
    go false q h r = let k : b ≡ c = cc in rw (← k, q)

-- alike up to a mark that opens a value, and anything behind it
data Near : List ℕ → List ℕ → Type 0 where
  end : Near [] []
  near : {b b' : ℕ} {s s' : List ℕ} → σ b ≡ σ b' → Near s s' → Near (b ∷ s) (b' ∷ s')
  mark : {b b' : ℕ} {s s' : List ℕ} → σ b ≡ σ b' → opens b ≡ true → Near (b ∷ s) (b' ∷ s')

same-near : (s s' : List ℕ) → map σ s ≡ map σ s' → Near s s'
same-near [] [] e = end
same-near [] (b ∷ s') e = let z : ◌≡◌ {A = ℕ} 0 1 = cc in absurd (omega arith)
same-near (b ∷ s) [] e = let z : ◌≡◌ {A = ℕ} 0 1 = cc in absurd (omega arith)
same-near (b ∷ s) (b' ∷ s') e =
    let h : σ b ≡ σ b' = cc in
    let r : map σ s ≡ map σ s' = cc in
    near h (same-near s s' r)

-- a value that is veiled opens with a mark
neither : (P : Lexed → Bool) (t : Bool) (x y : Lexed) → P x ≡ false → P y ≡ false → P (cond t x y) ≡ false
neither P true x y p q = p
neither P false x y p q = q

is_veiled : Lexed → Bool
is_veiled x = veiled x.class

number-bare : (p : Parts) (n : ℕ) → is_veiled (lexed (cond (within p) (value (cond p.unc.here 15 14)) over_limit) n) ≡ false
unfolding is_veiled lexed veiled is_quoted
number-bare p n = go (within p) p.unc.here
  where
    go : (a b : Bool) → veiled (cond a (value (cond b 15 14)) over_limit) ≡ false
    go true true = refl
    go true false = refl
    go false b = refl

word-bare : (x : Lexed) (s : List ℕ) → is_veiled x ≡ false → is_veiled (word_or First x s) ≡ false
unfolding word_or number_or
word-bare x s h = neither is_veiled (is_number (parts (take (word s) s))) _ x (number-bare (parts (take (word s) s)) (word s)) h

leaf : (c : Class) (n : ℕ) → veiled c ≡ false → is_veiled (lexed c n) ≡ false
unfolding is_veiled lexed
leaf c n h = h

cond_same : (t x : Bool) → cond t x x ≡ x
cond_same true x = refl
cond_same false x = refl

value-bare : (b : ℕ) (s : List ℕ) → opens b ≡ false → is_veiled (lex_value First 10 b s) ≡ false
unfolding lex_value opens veiled is_quoted
value-bare b s h =
    rw (or_l (is 39 b) (is 34 b) (or_l (is 39 b || is 34 b) (is 59 b) h), or_r (is 39 b) (is 34 b) (or_l (is 39 b || is 34 b) (is 59 b) h), or_r (is 39 b || is 34 b) (is 59 b) h)
    (simp (ap-cond is_veiled, leaf, word-bare, cond_same))

lex_in-bare : (m : Mode) (b : ℕ) (s : List ℕ) → opens b ≡ false → is_veiled (lex_in First 10 m (b ∷ s)) ≡ false
unfolding lex_in veiled is_quoted
lex_in-bare m b s h = simp (ap-cond is_veiled, leaf, value-bare b s h, cond_same)

lex-bare : (m : Mode) (b : ℕ) (s : List ℕ) → opens b ≡ false → is_veiled (lex First 10 m (b ∷ s)) ≡ false
unfolding lex veiled is_quoted
lex-bare before b s h = simp (ap-cond is_veiled, leaf, cond_same)
lex-bare in_block b s h = lex_in-bare in_block b s h
lex-bare in_frame b s h = lex_in-bare in_frame b s h

veiled-opens : (m : Mode) (b : ℕ) (s : List ℕ) → veiled (lex First 10 m (b ∷ s)).class ≡ true → opens b ≡ true
unfolding is_veiled
veiled-opens m b s v = go (opens b) refl
  where
    go : (t : Bool) → opens b ≡ t → t ≡ true
    go true e = refl
    go false e = absurd (true≢false (sym v ∙ lex-bare m b s e))

near_of : (s s' : List ℕ) (k : ℕ) (m : Mode) → Rel s s' k m false → Near s s'
unfolding Rel rel_step rel_emit Byte
near_of [] [] k m h = end
near_of [] (b' ∷ s') k m h = absurd h
near_of (b ∷ s) [] k m h = absurd h
near_of (b ∷ s) (b' ∷ s') (suc k) m h = near h.0 (near_of s s' k m h.1)
near_of (b ∷ s) (b' ∷ s') zero m h = go (gap (b ∷ s)) (lex First 10 m (b ∷ s)) (veiled-opens m b s) h.1 (λ k m' r. near_of s s' k m' r)
  where
    last : (n : ℕ) (c : Class) (v : Bool) → veiled c ≡ v → (v ≡ true → opens b ≡ true) → rel_emit n c m (λ k m' q'. Rel s s' k m' q') (map σ s ≡ map σ s') → ((k : ℕ) (m' : Mode) → Rel s s' k m' false → Near s s') → Near (b ∷ s) (b' ∷ s')
    last zero c v e o r f = near h.0 (same-near s s' r)
    last (suc n) c true e o r f = mark h.0 (o refl)
    last (suc n) c false e o r f = near h.0 (f n (after c m) (rw e at r))

    go : (g : ℕ) (x : Lexed) → (veiled x.class ≡ true → opens b ≡ true) → rel_step g x m (λ k m' q'. Rel s s' k m' q') (map σ s ≡ map σ s') → ((k : ℕ) (m' : Mode) → Rel s s' k m' false → Near s s') → Near (b ∷ s) (b' ∷ s')
    go (suc g) x o r f = near h.0 (f g m r)
    go zero x o r f = last x.size x.class (veiled x.class) refl o r f

-- a test that fails at the marks
opens_not : (f : ℕ → Bool) → f 39 ≡ false → f 34 ≡ false → f 59 ≡ false → (b : ℕ) → opens b ≡ true → f b ≡ false
unfolding opens is
opens_not f p q r b e = go (eqb b 39) refl (eqb b 34) refl (eqb b 59) refl e
  where
    go : (x : Bool) → eqb b 39 ≡ x → (y : Bool) → eqb b 34 ≡ y → (z : Bool) → eqb b 59 ≡ z → x || y || z ≡ true → f b ≡ false
    go true h y i z j w = rw (eqb-true b 39 h) p
    go false h true i z j w = rw (eqb-true b 34 i) q
    go false h false i true j w = rw (eqb-true b 59 j) r
    go false h false i false j w = absurd (false≢true w)

-- a keyword has neither digits nor marks
key_byte : ℕ → Bool
key_byte c = flat (λ b. is c (lower b)) && (not (is c (lower 39)) && (not (is c (lower 34)) && not (is c (lower 59))))

key_bytes : List ℕ → Bool
key_bytes [] = true
key_bytes (c ∷ k) = key_byte c && key_bytes k

starts-near : (k : List ℕ) {s s' : List ℕ} → key_bytes k ≡ true → Near s s' → starts k s ≡ starts k s'
unfolding starts key_bytes key_byte
starts-near [] e n = refl
starts-near (c ∷ k) e end = refl
starts-near (c ∷ k) e (near {b} {b'} {s} {s'} h n) =
    let f : ℕ → Bool = λ b. is c (lower b) in
    let e₁ = and_l (key_byte c) (key_bytes k) e in
    let e₂ = and_r (key_byte c) (key_bytes k) e in
    ap₂ ◌&&◌ (blind₂ (λ b. is c (lower b)) (and_l (flat f) _ e₁) b b' h) (starts-near k e₂ n)
starts-near (c ∷ k) e (mark {b} {b'} {s} {s'} h o) =
    let f : ℕ → Bool = λ b. is c (lower b) in
    let e₁ = and_l (key_byte c) (key_bytes k) e in
    let x = and_r (flat f) _ e₁ in
    let z : f b ≡ false = opens_not (λ b. is c (lower b)) (not-true (f 39) (and_l (not (f 39)) _ x)) (not-true (f 34) (and_l (not (f 34)) _ (and_r (not (f 39)) _ x))) (not-true (f 59) (and_r (not (f 34)) _ (and_r (not (f 39)) _ x))) b o in
    let z' : f b' ≡ false = sym (blind₂ f (and_l (flat f) _ e₁) b b' h) ∙ z in
    rw (z, z')

-- a number has no mark
unfoldable pub has_mark : List ℕ → Bool
has_mark [] = false
has_mark (b ∷ s) = opens b || has_mark s

all-no-mark : (w : List ℕ) → all (λ b. not (opens b)) w ≡ true → has_mark w ≡ false
unfolding has_mark all
all-no-mark [] e = refl
all-no-mark (b ∷ w) e = rw (not-true (opens b) (and_l (not (opens b)) _ e), all-no-mark w (and_r (not (opens b)) _ e))

number-no-mark : (w : List ℕ) → is_number (parts w) ≡ true → has_mark w ≡ false
unfolding all others opens is
number-no-mark w h = all-no-mark w (number-made (λ b. not (opens b)) refl refl w h)

mark-no-number : (w : List ℕ) → has_mark w ≡ true → is_number (parts w) ≡ false
mark-no-number w h = go (is_number (parts w)) refl
  where
    go : (t : Bool) → is_number (parts w) ≡ t → t ≡ false
    go false e = refl
    go true e = absurd (true≢false (sym h ∙ number-no-mark w e))

-- two words alike, or with a mark in each
data Words (w w' : List ℕ) : Type 0 where
  alike : map σ w ≡ map σ w' → Words w w'
  marked : has_mark w ≡ true → has_mark w' ≡ true → Words w w'

grow : {b b' : ℕ} {w w' : List ℕ} → σ b ≡ σ b' → Words w w' → Words (b ∷ w) (b' ∷ w')
unfolding has_mark
grow h (alike e) = alike (ap₂ {C = List ℕ} (λ x r. x ∷ r) h e)
grow {b} {b'} h (marked p q) = marked (rw p (or-true (opens b))) (rw q (or-true (opens b')))

opens₂ : (b b' : ℕ) → σ b ≡ σ b' → opens b ≡ opens b'
unfolding opens is
opens₂ b b' h = blind₂ opens refl b b' h

in_word₂ : (b b' : ℕ) → σ b ≡ σ b' → in_word b ≡ in_word b'
in_word₂ b b' h = sym (in_word-σ b) ∙ ap in_word h ∙ in_word-σ b'

opens-in_word : (b : ℕ) → opens b ≡ true → in_word b ≡ true
unfolding in_word ends_word
opens-in_word b o = ap not (opens_not ends_word refl refl refl b o)

the_word : List ℕ → List ℕ
the_word s = take (word s) s

word-cons : (b : ℕ) (s : List ℕ) → in_word b ≡ true → the_word (b ∷ s) ≡ b ∷ the_word s
unfolding the_word word span
word-cons b s e = rw e

word-nil : (b : ℕ) (s : List ℕ) → in_word b ≡ false → the_word (b ∷ s) ≡ []
unfolding the_word word span
word-nil b s e = rw e

first-mark : (b : ℕ) (s : List ℕ) → opens b ≡ true → has_mark (b ∷ s) ≡ true
unfolding has_mark
first-mark b s o = rw o

word-near : {s s' : List ℕ} → Near s s' → Words (the_word s) (the_word s')
word-near end = alike refl
word-near (near {b} {b'} {s} {s'} h n) = go (in_word b) refl (word-near n)
  where
    go : (t : Bool) → in_word b ≡ t → Words (the_word s) (the_word s') → Words (the_word (b ∷ s)) (the_word (b' ∷ s'))
    go true e r = rw (word-cons b s e, word-cons b' s' (sym (in_word₂ b b' h) ∙ e)) (grow h r)
    go false e r = rw (word-nil b s e, word-nil b' s' (sym (in_word₂ b b' h) ∙ e)) (alike refl)
word-near (mark {b} {b'} {s} {s'} h o) =
    let o' : opens b' ≡ true = sym (opens₂ b b' h) ∙ o in
    rw (word-cons b s (opens-in_word b o), word-cons b' s' (opens-in_word b' o')) (marked (first-mark b _ o) (first-mark b' _ o'))

length-the_word : (s : List ℕ) → length (the_word s) ≡ word s
unfolding the_word word
length-the_word s = length-take-le (span in_word s) s (span-le in_word s)

alike-length : (s s' : List ℕ) → map σ (the_word s) ≡ map σ (the_word s') → word s ≡ word s'
alike-length s s' e =
    sym (length-the_word s) ∙ sym (length-map (the_word s) σ) ∙ ap length e ∙ length-map (the_word s') σ ∙ length-the_word s'

-- words alike are read alike
word_or-alike : (x x' : Lexed) (s s' : List ℕ) → map σ (the_word s) ≡ map σ (the_word s') → x ≡ x' → word_or First x s ≡ word_or First x' s'
unfolding word_or the_word
word_or-alike x x' s s' e q =
    sym (number_or-σ First x (take (word s) s) (word s)) ∙ rw (e, alike-length s s' e, q) (number_or-σ First x' (take (word s') s') (word s'))

no_number : (x : Lexed) (s : List ℕ) → has_mark (the_word s) ≡ true → word_or First x s ≡ x
unfolding word_or number_or the_word
no_number x s h = rw (mark-no-number (take (word s) s) h)

word_or-near : (x : Lexed) {s s' : List ℕ} → Near s s' → word_or First x s ≡ word_or First x s'
word_or-near x {s} {s'} n = go (word-near n)
  where
    go : Words (the_word s) (the_word s') → word_or First x s ≡ word_or First x s'
    go (alike e) = word_or-alike x x s s' e refl
    go (marked p q) = no_number x s p ∙ sym (no_number x s' q)

-- what is blind to all but the marks
pub μ-test : (f : ℕ → Bool) → f 120 ≡ false → ((b : ℕ) → is_mark b ≡ false → f b ≡ false) → (b : ℕ) → f (μ b) ≡ f b
unfolding μ
μ-test f z h b = go (is_mark b) refl
  where
    go : (t : Bool) → is_mark b ≡ t → f (cond t b 120) ≡ f b
    go true e = refl
    go false e = z ∙ sym (h b e)

-- a byte that is no mark differs from each that is one
pub unmarked : (m : ℕ) → is_mark m ≡ true → (b : ℕ) → is_mark b ≡ false → is m b ≡ false
unfolding is
unmarked m e b h = go (eqb b m) refl
  where
    go : (t : Bool) → eqb b m ≡ t → t ≡ false
    go true q = absurd (true≢false (sym e ∙ ap is_mark (sym (eqb-true b m q)) ∙ h))
    go false q = refl

μ-39 : (b : ℕ) → is 39 (μ b) ≡ is 39 b
unfolding is is_mark is_eol
μ-39 = μ-test (is 39) refl (unmarked 39 refl)

μ-34 : (b : ℕ) → is 34 (μ b) ≡ is 34 b
unfolding is is_mark is_eol
μ-34 = μ-test (is 34) refl (unmarked 34 refl)

μ-59 : (b : ℕ) → is 59 (μ b) ≡ is 59 b
unfolding is is_mark is_eol
μ-59 = μ-test (is 59) refl (unmarked 59 refl)

pub μ-10 : (b : ℕ) → is 10 (μ b) ≡ is 10 b
unfolding is is_mark is_eol
μ-10 = μ-test (is 10) refl (unmarked 10 refl)

pub μ-13 : (b : ℕ) → is 13 (μ b) ≡ is 13 b
unfolding is is_mark is_eol
μ-13 = μ-test (is 13) refl (unmarked 13 refl)

pub μ-eol : (b : ℕ) → is_eol (μ b) ≡ is_eol b
unfolding is_eol is
μ-eol b = ap₂ ◌||◌ (μ-10 b) (μ-13 b)

-- a test that tells neither digits nor unmarked bytes apart
record Clear (f : ℕ → Bool) : Type 0 where
  by-σ : (b : ℕ) → f (σ b) ≡ f b
  by-μ : (b : ℕ) → f (μ b) ≡ f b

clear-byte : (f : ℕ → Bool) → Clear f → (q : Bool) (a b : ℕ) → Byte q a b → f a ≡ f b
unfolding Byte
clear-byte f c true a b h = sym (c.by-μ a) ∙ ap f h ∙ c.by-μ b
clear-byte f c false a b h = sym (c.by-σ a) ∙ ap f h ∙ c.by-σ b

clear-39 : Clear (is 39)
unfolding is
clear-39 = record { by-σ = blind (is 39) refl; by-μ = μ-39 }

clear-34 : Clear (is 34)
unfolding is
clear-34 = record { by-σ = blind (is 34) refl; by-μ = μ-34 }

clear-59 : Clear (is 59)
unfolding is
clear-59 = record { by-σ = blind (is 59) refl; by-μ = μ-59 }

clear-eol : Clear is_eol
clear-eol = record { by-σ = eol-σ; by-μ = μ-eol }

-- a value that closes closes at the same place
close-go : (t u : Bool) (r r' : Option ℕ) (n : ℕ) → ((k : ℕ) → n ≡ suc k → r ≡ some k → r' ≡ some k) → cond t (some 1) (cond u none (more r)) ≡ some n → cond t (some 1) (cond u none (more r')) ≡ some n
unfolding more
close-go true u r r' n h e = e
close-go false true r r' n h e = e
close-go false false none r' n h e = cc
close-go false false (some k) r' n h e = let q : n ≡ suc k = cc in rw (h k q refl) e

rel-step : (b b' : ℕ) (s s' : List ℕ) (m : Mode) (q : Bool) (n k : ℕ) → n ≡ suc k → Rel (b ∷ s) (b' ∷ s') n m q → Rel s s' k m q
unfolding Rel
rel-step b b' s s' m q n k e r = (subst (λ j. Rel (b ∷ s) (b' ∷ s') j m q) e r).1

rel-byte : (b b' : ℕ) (s s' : List ℕ) (m : Mode) (q : Bool) (n : ℕ) → Rel (b ∷ s) (b' ∷ s') n m q → (v : Bool) × Byte v b b'
unfolding Rel Byte
rel-byte b b' s s' m q zero r = (false, r.0)
rel-byte b b' s s' m q (suc k) r = (q && not (is_zero k), r.0)

quoted-veil : (c : ℕ) → Clear (is c) → (s s' : List ℕ) (n : ℕ) (m : Mode) (q : Bool) → quoted c s ≡ some n → Rel s s' n m q → quoted c s' ≡ some n
unfolding quoted Rel
quoted-veil c l [] [] n m q e r = e
quoted-veil c l [] (b' ∷ s') n m q e r = absurd r
quoted-veil c l (b ∷ s) [] n m q e r = absurd r
quoted-veil c l (b ∷ s) (b' ∷ s') n m q e r =
    let y = rel-byte b b' s s' m q n r in
    rw (← clear-byte (is c) l y.0 b b' y.1, ← clear-byte is_eol clear-eol y.0 b b' y.1)
    (close-go (is c b) (is_eol b) (quoted c s) (quoted c s') n (λ k g h. quoted-veil c l s s' k m q h (rel-step b b' s s' m q n k g r)) e)

field-veil : (f : Bool) (s s' : List ℕ) (n : ℕ) (m : Mode) (q : Bool) → field_in f s ≡ some n → Rel s s' n m q → field_in f s' ≡ some n
unfolding field_in Rel
field-veil f [] [] n m q e r = e
field-veil f [] (b' ∷ s') n m q e r = absurd r
field-veil f (b ∷ s) [] n m q e r = absurd r
field-veil f (b ∷ s) (b' ∷ s') n m q e r =
    let y = rel-byte b b' s s' m q n r in
    rw (← clear-byte (is 59) clear-59 y.0 b b' y.1, ← clear-byte is_eol clear-eol y.0 b b' y.1)
    (close-go (f && is 59 b) false (field_in (is_eol b) s) (field_in (is_eol b) s') n (λ k g h. field-veil (is_eol b) s s' k m q h (rel-step b b' s s' m q n k g r)) e)

cond-ext : {A : Type 0} (t : Bool) {x x' y y' : A} → (t ≡ true → x ≡ x') → (t ≡ false → y ≡ y') → cond t x y ≡ cond t x' y'
cond-ext true p q = p refl
cond-ext false p q = q refl

-- the first n + 1 bytes are alike
Pre : ℕ → List ℕ → List ℕ → Type 0
Pre n x y = take (suc n) (map σ x) ≡ take (suc n) (map σ y)

word-pre : (x y : List ℕ) → Pre (word x) x y → word x ≡ word y
unfolding Pre word
word-pre x y h =
    let e : span in_word (map σ x) ≡ span in_word x = word-σ x in
    sym e ∙ span-local in_word (map σ x) (map σ y) (rw e h) ∙ word-σ y

alike-pre : (x y : List ℕ) → Pre (word x) x y → map σ (the_word x) ≡ map σ (the_word y)
unfolding Pre the_word
alike-pre x y h =
    sym (take-map σ (word x) x)
    ∙ sym (take-take (word x) (suc (word x)) (map σ x) (omega arith)) ∙ ap (take (word x)) h ∙ take-take (word x) (suc (word x)) (map σ y) (omega arith)
    ∙ rw (word-pre x y h) (take-map σ (word y) y)

word_or-size : (c : Class) (s : List ℕ) → (word_or First (lexed c (word s)) s).size ≡ word s
unfolding word_or number_or lexed
word_or-size c s = go (is_number (parts (take (word s) s))) _
  where
    go : (t : Bool) (k : Class) → (cond t (lexed k (word s)) (lexed c (word s))).size ≡ word s
    go true k = refl
    go false k = refl

starts₂ : (k : List ℕ) {s s' : List ℕ} → key_bytes k ≡ true → Near s s' → starts k s' ≡ starts k s
starts₂ k e n = sym (starts-near k e n)

byte₂ : (c : ℕ) → flat (is c) ≡ true → (b b' : ℕ) → σ b ≡ σ b' → is c b' ≡ is c b
byte₂ c e b b' h = sym (blind₂ (is c) e b b' h)

is_ordinary₂ : (b b' : ℕ) → σ b ≡ σ b' → is_ordinary b' ≡ is_ordinary b
unfolding is_ordinary
is_ordinary₂ b b' h = sym (blind₂ is_ordinary refl b b' h)

bare-same : (s s' : List ℕ) (x : Lexed) → x ≡ word_or First (lexed (value 10) (word s)) s → Pre x.size s s' → word_or First (lexed (value 10) (word s)) s ≡ word_or First (lexed (value 10) (word s')) s'
bare-same s s' x e p =
    let p' : Pre (word s) s s' = subst (λ k. Pre k s s') (ap (λ y. y.size) e ∙ word_or-size (value 10) s) p in
    word_or-alike _ _ s s' (alike-pre s s' p') (ap (lexed (value 10)) (word-pre s s' p'))

value_same : (b b' : ℕ) (s s' : List ℕ) → σ b ≡ σ b' → opens b ≡ false → Near (b ∷ s) (b' ∷ s') → Pre (lex_value First 10 b s).size (b ∷ s) (b' ∷ s') → lex_value First 10 b s ≡ lex_value First 10 b' s'
unfolding lex_value is opens
value_same b b' s s' h o n p =
    let a = or_l (is 39 b) (is 34 b) (or_l (is 39 b || is 34 b) (is 59 b) o) in
    let c = or_r (is 39 b) (is 34 b) (or_l (is 39 b || is 34 b) (is 59 b) o) in
    let d = or_r (is 39 b || is 34 b) (is 59 b) o in
    rw (byte₂ 46 refl b b' h, byte₂ 63 refl b b' h, byte₂ 39 refl b b' h, byte₂ 34 refl b b' h, byte₂ 59 refl b b' h, is_ordinary₂ b b' h, a, c, d)
    (cond-ext (is 46 b) (λ e. word_or-near (lexed (value 8) 1) n)
    (λ e. cond-ext (is 63 b) (λ f. refl)
    (λ f. cond-ext (is_ordinary b) (λ g. bare-same (b ∷ s) (b' ∷ s') (lex_value First 10 b s) (rw (e, f, a, c, d, g)) p) (λ g. refl))))

key₂ : (s s' : List ℕ) → Near s s' → (starts key_data s' || starts key_global s' || starts key_stop s') ≡ (starts key_data s || starts key_global s || starts key_stop s)
unfolding key_data key_global key_stop key_bytes key_byte is lower
key₂ s s' n = rw (starts₂ key_data refl n, starts₂ key_global refl n, starts₂ key_stop refl n)

data₂ : (s s' : List ℕ) → Near s s' → starts key_data s' ≡ starts key_data s
unfolding key_data key_bytes key_byte is lower
data₂ s s' n = starts₂ key_data refl n

loop₂ : (s s' : List ℕ) → Near s s' → starts key_loop s' ≡ starts key_loop s
unfolding key_loop key_bytes key_byte is lower
loop₂ s s' n = starts₂ key_loop refl n

save₂ : (s s' : List ℕ) → Near s s' → starts key_save s' ≡ starts key_save s
unfolding key_save key_bytes key_byte is lower
save₂ s s' n = starts₂ key_save refl n

tag₂ : (b b' : ℕ) → σ b ≡ σ b' → is 95 b' ≡ is 95 b
unfolding is
tag₂ b b' h = byte₂ 95 refl b b' h

save-same : (m : Mode) (s s' : List ℕ) → Pre (save_size m s) s s' → save_size m s ≡ save_size m s'
unfolding save_size
save-same before s s' p = refl
save-same in_block s s' p = word-pre s s' p
save-same in_frame s s' p = refl

-- what the size is, once the branch is known
sized : (s s' : List ℕ) (x : Lexed) (c : Class) (n : ℕ) → x ≡ lexed c n → Pre x.size s s' → Pre n s s'
unfolding lexed
sized s s' x c n e p = subst (λ k. Pre k s s') (ap (λ y. y.size) e) p

branch : (m : Mode) (b : ℕ) (s : List ℕ) → (starts key_data (b ∷ s) || starts key_global (b ∷ s) || starts key_stop (b ∷ s)) ≡ false → starts key_loop (b ∷ s) ≡ false → starts key_save (b ∷ s) ≡ false → is 95 b ≡ false → lex_in First 10 m (b ∷ s) ≡ lex_value First 10 b s
unfolding lex_in
branch m b s r l v u = rw (r, l, v, u)

lex_in-same : (m : Mode) (b b' : ℕ) (s s' : List ℕ) → σ b ≡ σ b' → opens b ≡ false → Near (b ∷ s) (b' ∷ s') → Pre (lex_in First 10 m (b ∷ s)).size (b ∷ s) (b' ∷ s') → lex_in First 10 m (b ∷ s) ≡ lex_in First 10 m (b' ∷ s')
unfolding lex_in
lex_in-same m b b' s s' h o n p =
    let t = b ∷ s in let t' = b' ∷ s' in
    rw (key₂ t t' n, loop₂ t t' n, save₂ t t' n, tag₂ b b' h)
    (cond-ext (starts key_data t || starts key_global t || starts key_stop t) (λ r. refl)
    (λ r. cond-ext (starts key_loop t) (λ l. refl)
    (λ l. cond-ext (starts key_save t) (λ v. ap (lexed save) (save-same m t t' (sized t t' (lex_in First 10 m t) save (save_size m t) (rw (r, l, v)) p)))
    (λ v. cond-ext (is 95 b) (λ u. ap (lexed tag) (word-pre t t' (sized t t' (lex_in First 10 m t) tag (word t) (rw (r, l, v, u)) p)))
    (λ u. value_same b b' s s' h o n (subst (λ x. Pre x.size t t') (branch m b s r l v u) p))))))

before_same : (s s' : List ℕ) → Near s s' → Pre (lex First 10 before s).size s s' → lex First 10 before s ≡ lex First 10 before s'
unfolding lex
before_same s s' n p =
    rw (data₂ s s' n)
    (cond-ext (starts key_data s) (λ d. ap (lexed block) (word-pre s s' (sized s s' (lex First 10 before s) block (word s) (rw d) p))) (λ d. refl))

bare-lex : (m : Mode) (b b' : ℕ) (s s' : List ℕ) → σ b ≡ σ b' → opens b ≡ false → Near (b ∷ s) (b' ∷ s') → Pre (lex First 10 m (b ∷ s)).size (b ∷ s) (b' ∷ s') → lex First 10 m (b ∷ s) ≡ lex First 10 m (b' ∷ s')
unfolding lex
bare-lex before b b' s s' h o n p = before_same (b ∷ s) (b' ∷ s') n p
bare-lex in_block b b' s s' h o n p = lex_in-same in_block b b' s s' h o n p
bare-lex in_frame b b' s s' h o n p = lex_in-same in_frame b b' s s' h o n p

unopened : opens 48 ≡ false
unfolding opens is
unopened = refl

σ-mark : (b b' : ℕ) → opens b ≡ true → σ b ≡ σ b' → b ≡ b'
unfolding σ is_digit
σ-mark b b' o h = go (is_digit b) (opens_not is_digit refl refl refl b o) (is_digit b') refl h
  where
    go : (t : Bool) → t ≡ false → (u : Bool) → is_digit b' ≡ u → cond t 48 b ≡ cond u 48 b' → b ≡ b'
    go true z u e k = absurd (true≢false z)
    go false z false e k = k
    go false z true e k = absurd (true≢false (sym o ∙ ap opens k ∙ unopened))

opens-cases : (P : ℕ → Type 0) → P 39 → P 34 → P 59 → (b : ℕ) → opens b ≡ true → P b
unfolding opens is
opens-cases P p q r b e = go (eqb b 39) refl (eqb b 34) refl (eqb b 59) refl e
  where
    go : (x : Bool) → eqb b 39 ≡ x → (y : Bool) → eqb b 34 ≡ y → (z : Bool) → eqb b 59 ≡ z → x || y || z ≡ true → P b
    go true h y i z j w = rw (eqb-true b 39 h) p
    go false h true i z j w = rw (eqb-true b 34 i) q
    go false h false i true j w = rw (eqb-true b 59 j) r
    go false h false i false j w = absurd (false≢true w)

-- a value between marks: the same close, or none in either
closed_same : (k : ℕ) (y : Reason) (m : Mode) (s s' : List ℕ) (f : List ℕ → Option ℕ) → ((n : ℕ) (q : Bool) (m' : Mode) → f s ≡ some n → Rel s s' n m' q → f s' ≡ some n) → (map σ s ≡ map σ s' → f s ≡ f s')
    → rel_emit (closed k y (f s)).size (closed k y (f s)).class m (λ k m' q'. Rel s s' k m' q') (map σ s ≡ map σ s') → closed k y (f s) ≡ closed k y (f s')
unfolding closed lexed rel_emit
closed_same k y m s s' f v z = go (f s) refl
  where
    go : (o : Option ℕ) → f s ≡ o → rel_emit (closed k y o).size (closed k y o).class m (λ k m' q'. Rel s s' k m' q') (map σ s ≡ map σ s') → closed k y o ≡ closed k y (f s')
    go none e r = ap (closed k y) (sym e ∙ z r)
    go (some n) e r = ap (closed k y) (sym (v n _ _ e r))

mark-lex_in : (m : Mode) (b : ℕ) (s s' : List ℕ) → opens b ≡ true → rel_emit (lex_in First 10 m (b ∷ s)).size (lex_in First 10 m (b ∷ s)).class m (λ k m' q'. Rel s s' k m' q') (map σ s ≡ map σ s') → lex_in First 10 m (b ∷ s) ≡ lex_in First 10 m (b ∷ s')
unfolding lex_in starts key_data key_global key_stop key_loop key_save lower is lex_value is_ordinary field
mark-lex_in m b s s' o =
    opens-cases (λ b. rel_emit (lex_in First 10 m (b ∷ s)).size (lex_in First 10 m (b ∷ s)).class m (λ k m' q'. Rel s s' k m' q') (map σ s ≡ map σ s') → lex_in First 10 m (b ∷ s) ≡ lex_in First 10 m (b ∷ s'))
    (closed_same 11 open_quote m s s' (quoted 39) (λ n q m' e r. quoted-veil 39 clear-39 s s' n m' q e r) (λ e. sym (quoted-σ 39 refl s) ∙ ap (quoted 39) e ∙ quoted-σ 39 refl s'))
    (closed_same 12 open_quote m s s' (quoted 34) (λ n q m' e r. quoted-veil 34 clear-34 s s' n m' q e r) (λ e. sym (quoted-σ 34 refl s) ∙ ap (quoted 34) e ∙ quoted-σ 34 refl s'))
    (closed_same 13 open_field m s s' field (λ n q m' e r. field-veil false s s' n m' q e r) (λ e. sym (field-σ s) ∙ ap field e ∙ field-σ s'))
    b o

mark-lex : (m : Mode) (b : ℕ) (s s' : List ℕ) → opens b ≡ true → rel_emit (lex First 10 m (b ∷ s)).size (lex First 10 m (b ∷ s)).class m (λ k m' q'. Rel s s' k m' q') (map σ s ≡ map σ s') → lex First 10 m (b ∷ s) ≡ lex First 10 m (b ∷ s')
unfolding lex starts key_data lower is
mark-lex before b s s' o r = opens-cases (λ b. lex First 10 before (b ∷ s) ≡ lex First 10 before (b ∷ s')) refl refl refl b o
mark-lex in_block b s s' o r = mark-lex_in in_block b s s' o r
mark-lex in_frame b s s' o r = mark-lex_in in_frame b s s' o r

-- the token at a place where one starts
module _ (b b' : ℕ) (s s' : List ℕ) (m : Mode) where
  private-pre : (x : Lexed) → σ b ≡ σ b' → veiled x.class ≡ false → rel_emit x.size x.class m (λ k m' q'. Rel s s' k m' q') (map σ s ≡ map σ s') → Pre x.size (b ∷ s) (b' ∷ s')
  unfolding Pre rel_emit
  private-pre x h v r = go x.size x.class v r
    where
      go : (n : ℕ) (c : Class) → veiled c ≡ false → rel_emit n c m (λ k m' q'. Rel s s' k m' q') (map σ s ≡ map σ s') → take (suc n) (map σ (b ∷ s)) ≡ take (suc n) (map σ (b' ∷ s'))
      go zero c v r = ap {B = List ℕ} (λ y. y ∷ []) h
      go (suc n) c v r = ap₂ {C = List ℕ} (λ y l. y ∷ l) h (rel-pre s s' n (after c m) (rw v at r))

  lex-same : σ b ≡ σ b' → Near (b ∷ s) (b' ∷ s') → rel_emit (lex First 10 m (b ∷ s)).size (lex First 10 m (b ∷ s)).class m (λ k m' q'. Rel s s' k m' q') (map σ s ≡ map σ s') → lex First 10 m (b ∷ s) ≡ lex First 10 m (b' ∷ s')
  unfolding is_veiled
  lex-same h n r = go (opens b) refl
    where
      go : (t : Bool) → opens b ≡ t → lex First 10 m (b ∷ s) ≡ lex First 10 m (b' ∷ s')
      go true o = mark-lex m b s s' o r ∙ ap (λ c. lex First 10 m (c ∷ s')) (σ-mark b b' o h)
      go false o = bare-lex m b b' s s' h o n (private-pre (lex First 10 m (b ∷ s)) h (lex-bare m b s o) r)

-- the space before it
gap-zero : (b b' : ℕ) (s s' : List ℕ) → σ b ≡ σ b' → gap (b ∷ s) ≡ 0 → gap (b' ∷ s') ≡ 0
unfolding gap gap_in
gap-zero b b' s s' h e = go (gap_byte false b) refl e
  where
    e₂ : gap_byte false b' ≡ gap_byte false b
    e₂ = sym (gap_byte-σ false b') ∙ ap (gap_byte false) (sym h) ∙ gap_byte-σ false b

    go : (t : Bool) → gap_byte false b ≡ t → cond t (suc (gap_in (gap_then false b) s)) 0 ≡ 0 → gap_in false (b' ∷ s') ≡ 0
    go true q z = absurd (omega arith)
    go false q z = rw (e₂ ∙ q)

gap-pre : (x y : List ℕ) → Pre (gap x) x y → gap x ≡ gap y
unfolding Pre gap
gap-pre x y h =
    let e : gap_in false (map σ x) ≡ gap_in false x = gap-σ x in
    sym e ∙ gap-local false (map σ x) (map σ y) (rw e h) ∙ gap-σ y

gap-some : (b b' : ℕ) (s s' : List ℕ) (g : ℕ) (m : Mode) → σ b ≡ σ b' → gap (b ∷ s) ≡ suc g → Rel s s' g m false → gap (b' ∷ s') ≡ suc g
unfolding Pre
gap-some b b' s s' g m h e r =
    sym (gap-pre (b ∷ s) (b' ∷ s') (rw e (ap₂ {C = List ℕ} (λ y l. y ∷ l) h (rel-pre s s' g m r)))) ∙ e

-- THE THEOREM: texts so related have the same tokens
pub tokens-veil : (s s' : List ℕ) (k : ℕ) (m : Mode) (q : Bool) (o : ℕ) → Rel s s' k m q → first_tokens s k m o ≡ first_tokens s' k m o
unfolding first_tokens Rel step rel_step emit rel_emit
tokens-veil [] [] k m q o r = refl
tokens-veil [] (b' ∷ s') k m q o r = absurd r
tokens-veil (b ∷ s) [] k m q o r = absurd r
tokens-veil (b ∷ s) (b' ∷ s') (suc k) m q o r = tokens-veil s s' k m q (suc o) r.1
tokens-veil (b ∷ s) (b' ∷ s') zero m q o r = go (gap (b ∷ s)) refl r.1 (λ k m' q'. tokens-veil s s' k m' q' (suc o))
  where
    last : (n : ℕ) (c : Class) (t : Tok) → rel_emit n c m (λ k m' q'. Rel s s' k m' q') (map σ s ≡ map σ s') → ((k : ℕ) (m' : Mode) (q' : Bool) → Rel s s' k m' q' → first_tokens s k m' (suc o) ≡ first_tokens s' k m' (suc o))
        → emit n t (λ k. first_tokens s k (after c m) (suc o)) ≡ emit n t (λ k. first_tokens s' k (after c m) (suc o))
    last zero c t r f = refl
    last (suc n) c t r f = ap {B = List Tok} (λ l. t ∷ l) (f n (after c m) (veiled c) r)

    go : (g : ℕ) → gap (b ∷ s) ≡ g → rel_step g (lex First 10 m (b ∷ s)) m (λ k m' q'. Rel s s' k m' q') (map σ s ≡ map σ s') → ((k : ℕ) (m' : Mode) (q' : Bool) → Rel s s' k m' q' → first_tokens s k m' (suc o) ≡ first_tokens s' k m' (suc o))
        → step (gap (b ∷ s)) (lex First 10 m (b ∷ s)) m o (λ k m'. first_tokens s k m' (suc o)) ≡ step (gap (b' ∷ s')) (lex First 10 m (b' ∷ s')) m o (λ k m'. first_tokens s' k m' (suc o))
    go zero e h f =
        rw (gap-zero b b' s s' r.0 e, e, ← lex-same b b' s s' m r.0 (near_of (b ∷ s) (b' ∷ s') 0 m r) h)
        (last (lex First 10 m (b ∷ s)).size (lex First 10 m (b ∷ s)).class _ h f)
    go (suc g) e h f = rw (gap-some b b' s s' g m r.0 e h, e) (f g m false h)
