-- What a token's class and length say of its bytes, in either reading. Proved: a value is the same token in the block, in a frame and alone (as-value, in-any-mode); a number is a
-- whole word that is one, within the limits (number_word); a heading, a frame's opening and a tag are words (heading-word, opening-word, tag_word). Assumes nothing.
use Prim.Native.Nat.{ℕ, ◌+◌, ◌≤◌}
use mathlib.Core.Bool.{false≢true, Bool, true, false, cond, ◌&&◌, ◌||◌}
use mathlib.Core.Path.{◌≡◌, refl, sym, ap, ◌∙◌}
use mathlib.Core.List.{List, [], ◌∷◌}
use native.Mathlib.Omega.{arith}
use borrow.Author.Tests.{eqb-true, leb-true}
use lib.Dec.{eqb, leb}
use lib.ListN.{length, take, drop}
use Rattle.rules.specs.declared.Reading.{Reading}
use Rattle.rules.specs.declared.Reading.TheVariants.{First, Strict}
use Rattle.text.specs.Bytes.{is, is_space}
use Rattle.text.specs.Bytes.{ends_word}
use Rattle.text.specs.Runs.{span}
use Rattle.text.proofs.Bools.{and_l, and_r}
use Rattle.text.proofs.Ranges.{passes}
use Rattle.columns.specs.Before.{is_parted}
use Rattle.words.specs.Words.{in_word, word}
use Rattle.folding.specs.Folding.{lower}
use Rattle.keywords.specs.Keywords.{starts, stands, key_data, key_global, key_loop, key_save, key_stop, reserved}
use Rattle.numbers.specs.declared.Decimal.{Decimal}
use Rattle.numbers.specs.declared.Number.TheVariants.{Is, Over, Not}
use Rattle.numbers.specs.Parts.{parts, counts_as, within}
use Rattle.numbers.specs.Meaning.{meaning, judged, number_of}
use Rattle.numbers.proofs.Facts.{is-number}
use Rattle.values.specs.Values.{Class, block, loop, save, tag, value, nothing, at_end, reserved_word, no_start, joined, Lexed, lexed, lex_value, lex_as_value}
use Rattle.enclosed.specs.Pieces.{quote_kind}
use Rattle.values.proofs.Laws.{tag-none}
use Rattle.values.proofs.Views.{Read, missing, point, unknown, bare, quote, double, multi, number, over, view}
use Rattle.grammar.specs.Tokens.{Mode, before, in_block, in_frame, save_size, lex_in, lex, tag_first}
use Rattle.grammar.proofs.Lexes.{lex-tag, lex-save, lex-data, class-by}

-- in a frame or not
unfoldable pub mode_of : Bool → Mode
mode_of true = in_frame
mode_of false = in_block

pub never : {A : Type 0} → ◌≡◌ {A = ℕ} 0 1 → A
never e = absurd (omega arith)

-- a token that is no value is none
no_value : {A : Type 0} (c : Class) (m k n : ℕ) → (c ≡ value k → ◌≡◌ {A = ℕ} 0 1) → lexed c m ≡ lexed (value k) n → A
unfolding lexed
no_value c m k n f e = never (f (ap (λ (x : Lexed). x.class) e))

record Alike (x y : Lexed) : Type 0 where
  there : (k n : ℕ) → x ≡ lexed (value k) n → y ≡ lexed (value k) n
  back : (k n : ℕ) → y ≡ lexed (value k) n → x ≡ lexed (value k) n

alike-none : (c d : Class) (i j : ℕ) → ((k : ℕ) → c ≡ value k → ◌≡◌ {A = ℕ} 0 1) → ((k : ℕ) → d ≡ value k → ◌≡◌ {A = ℕ} 0 1) → Alike (lexed c i) (lexed d j)
alike-none c d i j f g = record { there = λ k n. no_value c i k n (f k); back = λ k n. no_value d j k n (g k) }

alike_self : (x : Lexed) → Alike x x
alike_self x = record { there = λ k n e. e; back = λ k n e. e }

-- no value starts with a keyword or `_`: in the first reading
alike : (d g l s t u : Bool) (z w : ℕ) (v : Lexed) → (u ≡ true → v ≡ lexed (nothing no_start) 0)
    → Alike (cond (d || g || l || s || t) (lexed (nothing reserved_word) 0) v) (cond (d || g || t) (lexed (nothing reserved_word) 0) (cond l (lexed loop 5) (cond s (lexed save z) (cond u (lexed tag w) v))))
alike true g l s t u z w v h = alike_self _
alike false true l s t u z w v h = alike_self _
alike false false true s true u z w v h = alike_self _
alike false false true s false u z w v h = alike-none (nothing reserved_word) loop 0 5 (λ k e. cc) (λ k e. cc)
alike false false false true true u z w v h = alike_self _
alike false false false true false u z w v h = alike-none (nothing reserved_word) save 0 z (λ k e. cc) (λ k e. cc)
alike false false false false true u z w v h = alike_self _
alike false false false false false true z w v h = rw (h refl) (alike-none (nothing no_start) tag 0 w (λ k e. cc) (λ k e. cc))
alike false false false false false false z w v h = alike_self _

-- and in the strict one
strict-alike : (d g l s t u : Bool) (w : ℕ) (v : Lexed) → (u ≡ true → v ≡ lexed (nothing no_start) 0)
    → Alike (cond (d || g || l || s || t) (lexed (nothing reserved_word) 0) v)
    (cond d (lexed block w) (cond s (lexed save w) (cond l (lexed loop 5) (cond (g || t) (lexed (nothing reserved_word) 0) (cond u (lexed tag w) v)))))
strict-alike true g l s t u w v h = alike-none (nothing reserved_word) block 0 w (λ k e. cc) (λ k e. cc)
strict-alike false true l true t u w v h = alike-none (nothing reserved_word) save 0 w (λ k e. cc) (λ k e. cc)
strict-alike false true true false t u w v h = alike-none (nothing reserved_word) loop 0 5 (λ k e. cc) (λ k e. cc)
strict-alike false true false false t u w v h = alike_self _
strict-alike false false true true t u w v h = alike-none (nothing reserved_word) save 0 w (λ k e. cc) (λ k e. cc)
strict-alike false false true false t u w v h = alike-none (nothing reserved_word) loop 0 5 (λ k e. cc) (λ k e. cc)
strict-alike false false false true t u w v h = alike-none (nothing reserved_word) save 0 w (λ k e. cc) (λ k e. cc)
strict-alike false false false false true u w v h = alike_self _
strict-alike false false false false false true w v h = rw (h refl) (alike-none (nothing no_start) tag 0 w (λ k e. cc) (λ k e. cc))
strict-alike false false false false false false w v h = alike_self _

parted-alike : (t : Bool) (x y : Lexed) → Alike x y → Alike (cond t x (lexed (nothing joined) 0)) (cond t y (lexed (nothing joined) 0))
parted-alike true x y h = h
parted-alike false x y h = alike_self _

modes-alike : (g : Reading) (p : ℕ) (m : Mode) (s : List ℕ) → Alike (lex_as_value g p s) (lex_in g p m s)
unfolding lex_as_value lex_in reserved
modes-alike First p m [] = alike_self _
modes-alike Strict p m [] = alike_self _
modes-alike First p m (b ∷ s) =
    alike (starts key_data (b ∷ s)) (starts key_global (b ∷ s)) (starts key_loop (b ∷ s)) (starts key_save (b ∷ s)) (starts key_stop (b ∷ s)) (is 95 b) (save_size m (b ∷ s)) (word (b ∷ s)) (lex_value First p b s) (tag-none First p b s)
modes-alike Strict p m (b ∷ s) =
    parted-alike (is_space p) _ _
    (strict-alike (starts key_data (b ∷ s)) (stands Strict key_global (b ∷ s)) (stands Strict key_loop (b ∷ s)) (starts key_save (b ∷ s)) (stands Strict key_stop (b ∷ s)) (is 95 b) (word (b ∷ s)) (lex_value Strict p b s) (tag-none Strict p b s))

pub as-value : (g : Reading) (p : ℕ) (m : Mode) (s : List ℕ) (k n : ℕ) → lex_in g p m s ≡ lexed (value k) n → lex_as_value g p s ≡ lexed (value k) n
as-value g p m s = (modes-alike g p m s).back

pub in-any-mode : (g : Reading) (p : ℕ) (m : Mode) (s : List ℕ) (k n : ℕ) → lex_as_value g p s ≡ lexed (value k) n → lex_in g p m s ≡ lexed (value k) n
in-any-mode g p m s = (modes-alike g p m s).there

-- the first n bytes of s are a word that is a number, and k is its kind
pub record NumberWord (g : Reading) (s : List ℕ) (k n : ℕ) : Type 0 where
  pub whole : n ≡ word s
  pub number : counts_as g (parts (take n s)) ≡ true
  pub kept : within (parts (take n s)) ≡ true
  pub kind : k ≡ cond (parts (take n s)).unc.here 15 14

-- what is a number counts as one
is-counted : (g : Reading) (w : List ℕ) (d : Decimal) → number_of g w ≡ Is d → counts_as g (parts w) ≡ true
unfolding number_of judged
is-counted g w d e = by (counts_as g (parts w)) e
  where
    by : (t : Bool) → cond t (cond (within (parts w)) (Is (meaning (parts w))) Over) Not ≡ Is d → t ≡ true
    by true e = refl
    by false e = never (cc)

word_number : (g : Reading) (s : List ℕ) (k : ℕ) → number_of g (take (word s) s) ≡ Is (meaning (parts (take (word s) s))) → k ≡ cond (parts (take (word s) s)).unc.here 15 14 → NumberWord g s k (word s)
word_number g s k w q =
    record { whole = refl; number = is-counted g (take (word s) s) _ w; kept = (is-number g (take (word s) s) _ w).kept; kind = q }

-- a quoted value is no number
quote-kind : (g : Reading) (k : ℕ) → k ≤ 12 → 14 ≤ quote_kind g k → quote_kind g k ≤ 15 → ⊥
quote-kind First k h l u = omega arith
quote-kind Strict k h l u = omega arith

read_number : (g : Reading) (s : List ℕ) (x : Lexed) (k n : ℕ) → Read g s x → x.class ≡ value k → x.size ≡ n → 14 ≤ k → k ≤ 15 → NumberWord g s k n
unfolding lexed
read_number g s _ k n (missing w) e q l z = never (cc)
read_number g s _ k n (point t r) e q l z = let h : 8 ≡ k = cc in absurd (omega arith)
read_number g s _ k n (unknown t r) e q l z = let h : 9 ≡ k = cc in absurd (omega arith)
read_number g s _ k n (bare p) e q l z = let h : 10 ≡ k = cc in absurd (omega arith)
read_number g s _ k n (quote t m r c) e q l z = let h : quote_kind g 11 ≡ k = cc in absurd (quote-kind g 11 (omega arith) (rw h l) (rw h z))
read_number g s _ k n (double t m r c) e q l z = let h : quote_kind g 12 ≡ k = cc in absurd (quote-kind g 12 (omega arith) (rw h l) (rw h z))
read_number g s _ k n (multi t m r c) e q l z = let h : 13 ≡ k = cc in absurd (omega arith)
read_number g s _ k n (number u v w p) e q l z = let h : cond u 15 14 ≡ k = cc in rw (← q) (word_number g s k w (sym h ∙ rw (← v)))
read_number g s _ k n (over p) e q l z = never (cc)

-- A NUMBER IS A WHOLE WORD that is one, within the limits
pub number_word : (g : Reading) (p : ℕ) (s : List ℕ) (k n : ℕ) → lex_as_value g p s ≡ lexed (value k) n → 14 ≤ k → k ≤ 15 → NumberWord g s k n
unfolding lexed
number_word g p s k n e l u = read_number g s (lex_as_value g p s) k n (view g p s) (ap (λ (x : Lexed). x.class) e) (ap (λ (x : Lexed). x.size) e) l u

-- HEADINGS, FRAMES AND TAGS are words

-- s starts with the keyword and its first n bytes are a word
pub record Worded (key s : List ℕ) (n : ℕ) : Type 0 where
  pub opens : starts key s ≡ true
  pub whole : n ≡ word s

-- the class of a token says what stands there
module _ (g : Reading) (p : ℕ) (m : Mode) (b : ℕ) (s : List ℕ) where
  block-opens : (lex_in g p m (b ∷ s)).class ≡ block → (is_parted g p && starts key_data (b ∷ s)) ≡ true
  block-opens =
      class-by (λ c. c ≡ block → (is_parted g p && starts key_data (b ∷ s)) ≡ true) p m b s (λ k z. never (cc)) (λ z. never (cc)) (λ z. never (cc)) (λ z. never (cc)) (λ z. never (cc)) (λ z. never (cc)) g
      (λ e z. never (cc)) (λ e z. e) (λ e z. never (cc)) (λ e z. never (cc)) (λ e z. never (cc))

  save-opens : (lex_in g p m (b ∷ s)).class ≡ save → (is_parted g p && starts key_save (b ∷ s)) ≡ true
  save-opens =
      class-by (λ c. c ≡ save → (is_parted g p && starts key_save (b ∷ s)) ≡ true) p m b s (λ k z. never (cc)) (λ z. never (cc)) (λ z. never (cc)) (λ z. never (cc)) (λ z. never (cc)) (λ z. never (cc)) g
      (λ e z. never (cc)) (λ e z. never (cc)) (λ e z. e) (λ e z. never (cc)) (λ e z. never (cc))

  tag-opens : (lex_in g p m (b ∷ s)).class ≡ tag → (is_parted g p && is 95 b) ≡ true
  tag-opens =
      class-by (λ c. c ≡ tag → (is_parted g p && is 95 b) ≡ true) p m b s (λ k z. never (cc)) (λ z. never (cc)) (λ z. never (cc)) (λ z. never (cc)) (λ z. never (cc)) (λ z. never (cc)) g
      (λ e z. never (cc)) (λ e z. never (cc)) (λ e z. never (cc)) (λ e z. never (cc)) (λ e z. e)

classed : (x : Lexed) (c : Class) (n : ℕ) → x ≡ lexed c n → x.class ≡ c
unfolding lexed
classed x c n e = ap (λ (x : Lexed). x.class) e

sized : (x : Lexed) (c : Class) (i n : ℕ) → x ≡ lexed c i → x ≡ lexed c n → n ≡ i
unfolding lexed
sized x c i n p q = ap (λ (x : Lexed). x.size) (sym q ∙ p)

-- the text's end is neither
no_end : {A : Type 0} (c : Class) (n : ℕ) → (nothing at_end ≡ c → ◌≡◌ {A = ℕ} 0 1) → lexed (nothing at_end) 0 ≡ lexed c n → A
unfolding lexed
no_end c n f e = never (f (ap (λ (x : Lexed). x.class) e))

-- in the first reading `data_` is no token of a block
data-reserved : (p : ℕ) (m : Mode) (b : ℕ) (s : List ℕ) → starts key_data (b ∷ s) ≡ true → lex_in First p m (b ∷ s) ≡ lexed (nothing reserved_word) 0
unfolding lex_in
data-reserved p m b s e = rw e

first-none : {A : Type 0} (p : ℕ) (m : Mode) (b : ℕ) (s : List ℕ) (n : ℕ) → lex_in First p m (b ∷ s) ≡ lexed block n → A
unfolding lexed
first-none p m b s n e =
    let d : starts key_data (b ∷ s) ≡ true = block-opens First p m b s (classed _ block n e) in
    let z = data-reserved p m b s d in
    let y : nothing reserved_word ≡ block = sym (classed _ (nothing reserved_word) 0 z) ∙ classed _ block n e in
    never (cc)

pub heading-word : (g : Reading) (p : ℕ) (m : Mode) (s : List ℕ) (n : ℕ) → lex g p m s ≡ lexed block n → Worded key_data s n
unfolding lex lex_in lexed
heading-word First p before s n e = by (starts key_data s) refl e
  where
    by : (t : Bool) → starts key_data s ≡ t → cond t (lexed block (word s)) (lexed (nothing no_start) 0) ≡ lexed block n → Worded key_data s n
    by true q e = record { opens = q; whole = sized _ block (word s) n refl e }
    by false q e = let z : nothing no_start ≡ block = classed _ block n e in never (cc)
heading-word First p in_block [] n e = no_end block n (λ z. cc) e
heading-word First p in_frame [] n e = no_end block n (λ z. cc) e
heading-word First p in_block (b ∷ s) n e = first-none p in_block b s n e
heading-word First p in_frame (b ∷ s) n e = first-none p in_frame b s n e
heading-word Strict p m [] n e = no_end block n (λ z. cc) e
heading-word Strict p m (b ∷ s) n e =
    let d = block-opens Strict p m b s (classed _ block n e) in
    record { opens = and_r (is_space p) _ d; whole = sized _ block (word (b ∷ s)) n (lex-data p m (b ∷ s) d) e }

-- `_`
unfoldable pub key_tag : List ℕ
key_tag = 95 ∷ []

pub tag_word : (g : Reading) (p : ℕ) (m : Mode) (s : List ℕ) (n : ℕ) → lex_in g p m s ≡ lexed tag n → Worded key_tag s n
unfolding lex_in tag_first key_tag starts is lower
tag_word First p m [] n e = no_end tag n (λ z. cc) e
tag_word Strict p m [] n e = no_end tag n (λ z. cc) e
tag_word g p m (b ∷ s) n e =
    let d = tag-opens g p m b s (classed _ tag n e) in
    record { opens = rw (eqb-true b 95 (and_r (is_parted g p) _ d)); whole = sized _ tag (word (b ∷ s)) n (lex-tag p m g (b ∷ s) d) e }

pub opening-word : (g : Reading) (p : ℕ) (s : List ℕ) (n : ℕ) → lex_in g p in_block s ≡ lexed save n → Worded key_save s n
unfolding lex_in save_size
opening-word First p [] n e = no_end save n (λ z. cc) e
opening-word Strict p [] n e = no_end save n (λ z. cc) e
opening-word First p (b ∷ s) n e =
    let d = save-opens First p in_block b s (classed _ save n e) in
    record { opens = d; whole = sized _ save (word (b ∷ s)) n (lex-save p in_block First (b ∷ s) d) e }
opening-word Strict p (b ∷ s) n e =
    let d = save-opens Strict p in_block b s (classed _ save n e) in
    record { opens = and_r (is_space p) _ d; whole = sized _ save (word (b ∷ s)) n (lex-save p in_block Strict (b ∷ s) d) e }

-- The bytes of a keyword belong to its word

unfoldable pub plain_key : List ℕ → Bool
plain_key [] = true
plain_key (c ∷ k) = in_word c && plain_key k

lower-in-word : (b : ℕ) → in_word (lower b) ≡ true → in_word b ≡ true
unfolding lower
lower-in-word b = by (leb 65 b && leb b 90) refl
  where
    by : (t : Bool) → (leb 65 b && leb b 90) ≡ t → in_word (cond t (b + 32) b) ≡ true → in_word b ≡ true
    by true q e =
        passes in_word 65 26 (unfold in_word ends_word in refl) b (leb-true 65 b (and_l (leb 65 b) (leb b 90) q)) (omega (arith, leb-true b 90 (and_r (leb 65 b) (leb b 90) q)))
    by false q e = e

pub key-word : (k s : List ℕ) → plain_key k ≡ true → starts k s ≡ true → word s ≡ length k + word (drop (length k) s)
unfolding plain_key starts word span is
key-word [] s p e = omega arith
key-word (c ∷ k) [] p e = absurd (false≢true e)
key-word (c ∷ k) (b ∷ s) p e =
    let q : lower b ≡ c = eqb-true (lower b) c (and_l (eqb (lower b) c) (starts k s) e) in
    let w : in_word b ≡ true = lower-in-word b (rw q (and_l (in_word c) (plain_key k) p)) in
    rw w (omega (arith, key-word k s (and_r (in_word c) (plain_key k) p) (and_r (eqb (lower b) c) (starts k s) e)))
