-- What can stand where a value is wanted, case by case. Assumes nothing.
use Prim.Native.Nat.{ℕ, suc, ◌<◌}
use mathlib.Core.Path.{◌≡◌, refl, ◌∙◌}
use mathlib.Core.Bool.{Bool, true, false, cond}
use mathlib.Core.List.{List, [], ◌∷◌}
use mathlib.Core.Option.{Option, none, some}
use borrow.Author.Tests.{eqb-true}
use lib.Dec.{eqb}
use lib.ListN.{take}
use Rattle.rules.specs.declared.Reading.{Reading}
use Rattle.rules.specs.declared.Reading.TheVariants.{First, Strict}
use Rattle.text.specs.Bytes.{is, is_eol, is_space, ends_word}
use Rattle.words.specs.Words.{word, is_ordinary}
use Rattle.keywords.specs.Keywords.{reserved}
use Rattle.quotes.specs.Quotes.{quoted_by, field}
use Rattle.words.proofs.Words.{word-pos, word-starts, ordinary-in-word}
use Rattle.numbers.specs.Parts.{parts, counts_as, within}
use Rattle.numbers.specs.Meaning.{meaning, number_of}
use Rattle.numbers.specs.declared.Number.TheVariants.{Is}
use Rattle.numbers.proofs.Judged.{number-judged}
use Rattle.values.specs.Values.{Reason, at_end, reserved_word, no_start, open_quote, open_field, joined, value, over_limit, nothing, Lexed, lexed, number_or, word_or, whole_word, closed, alone_or, pointed, asked, fielded, parted, lex_value, lex_as_value}
use Rattle.enclosed.specs.Pieces.{quote_kind}

-- what x, the token at the start of s, is
pub data Read (r : Reading) (s : List ℕ) : Lexed → Type 0 where
  missing : (w : Reason) → Read r s (lexed (nothing w) 0)
  point : (t : List ℕ) → s ≡ 46 ∷ t → Read r s (lexed (value 8) 1)
  unknown : (t : List ℕ) → s ≡ 63 ∷ t → Read r s (lexed (value 9) 1)
  bare : 0 < word s → Read r s (lexed (value 10) (word s))
  quote : (t : List ℕ) (n : ℕ) → s ≡ 39 ∷ t → quoted_by r 39 t ≡ some n → Read r s (lexed (value (quote_kind r 11)) (suc n))
  double : (t : List ℕ) (n : ℕ) → s ≡ 34 ∷ t → quoted_by r 34 t ≡ some n → Read r s (lexed (value (quote_kind r 12)) (suc n))
  multi : (t : List ℕ) (n : ℕ) → s ≡ 59 ∷ t → field t ≡ some n → Read r s (lexed (value 13) (suc n))
  number : (u : Bool) → (parts (take (word s) s)).unc.here ≡ u → number_of r (take (word s) s) ≡ Is (meaning (parts (take (word s) s))) → 0 < word s
      → Read r s (lexed (value (cond u 15 14)) (word s))
  over : 0 < word s → Read r s (lexed over_limit (word s))

-- what holds of both branches holds of the one taken
pub pick : (P : Lexed → Type 0) (t : Bool) (x y : Lexed) → (t ≡ true → P x) → (t ≡ false → P y) → P (cond t x y)
pick P true x y f g = f refl
pick P false x y f g = g refl

word-view : (r : Reading) (s : List ℕ) (x : Lexed) → 0 < word s → Read r s x → Read r s (word_or r x s)
unfolding word_or number_or
word-view r s x h v =
    pick (Read r s) (counts_as r (parts (take (word s) s))) _ x (λ e. by e (within (parts (take (word s) s))) refl) (λ e. v)
  where
    by : counts_as r (parts (take (word s) s)) ≡ true → (t : Bool) → within (parts (take (word s) s)) ≡ t
        → Read r s (lexed (cond t (value (cond (parts (take (word s) s)).unc.here 15 14)) over_limit) (word s))
    by e true k = number (parts (take (word s) s)).unc.here refl (number-judged r (take (word s) s) ∙ rw (e, k)) h
    by e false k = over h

whole-view : (r : Reading) (s : List ℕ) → 0 < word s → Read r s (whole_word r s)
whole-view r s h = word-view r s (lexed (value 10) (word s)) h (bare h)

alone-view : (k : ℕ) (s : List ℕ) → 0 < word s → Read Strict s (lexed (value k) 1) → Read Strict s (alone_or k s)
unfolding alone_or
alone-view k s h v = pick (Read Strict s) (eqb (word s) 1) _ _ (λ e. v) (λ e. whole-view Strict s h)

point-view : (r : Reading) (t : List ℕ) → 0 < word (46 ∷ t) → Read r (46 ∷ t) (pointed r (46 ∷ t))
point-view First t h = word-view First (46 ∷ t) (lexed (value 8) 1) h (point t refl)
point-view Strict t h = alone-view 8 (46 ∷ t) h (point t refl)

unknown-view : (r : Reading) (t : List ℕ) → 0 < word (63 ∷ t) → Read r (63 ∷ t) (asked r (63 ∷ t))
unknown-view First t h = unknown t refl
unknown-view Strict t h = alone-view 9 (63 ∷ t) h (unknown t refl)

quote-view : (r : Reading) (t : List ℕ) (x : Option ℕ) → quoted_by r 39 t ≡ x → Read r (39 ∷ t) (closed (quote_kind r 11) open_quote x)
unfolding closed
quote-view r t none e = missing open_quote
quote-view r t (some n) e = quote t n refl e

double-view : (r : Reading) (t : List ℕ) (x : Option ℕ) → quoted_by r 34 t ≡ x → Read r (34 ∷ t) (closed (quote_kind r 12) open_quote x)
unfolding closed
double-view r t none e = missing open_quote
double-view r t (some n) e = double t n refl e

multi-view : (r : Reading) (t : List ℕ) (x : Option ℕ) → field t ≡ x → Read r (59 ∷ t) (closed 13 open_field x)
unfolding closed
multi-view r t none e = missing open_field
multi-view r t (some n) e = multi t n refl e

field-view : (r : Reading) (p : ℕ) (t : List ℕ) → 0 < word (59 ∷ t) → Read r (59 ∷ t) (fielded r p t)
field-view First p t h = multi-view First t (field t) refl
field-view Strict p t h = pick (Read Strict (59 ∷ t)) (is_eol p) _ _ (λ e. multi-view Strict t (field t) refl) (λ e. bare h)

-- by its first byte
pub value-view : (r : Reading) (p b : ℕ) (t : List ℕ) → Read r (b ∷ t) (lex_value r p b t)
unfolding lex_value is
value-view r p b t =
    pick (Read r (b ∷ t)) (is 46 b) _ _ (λ e. rw (eqb-true b 46 e) (point-view r t (word-starts 46 t (unfold ends_word in refl))))
    (λ _. pick (Read r (b ∷ t)) (is 63 b) _ _ (λ e. rw (eqb-true b 63 e) (unknown-view r t (word-starts 63 t (unfold ends_word in refl))))
    (λ _. pick (Read r (b ∷ t)) (is 39 b) _ _ (λ e. rw (eqb-true b 39 e) (quote-view r t (quoted_by r 39 t) refl))
    (λ _. pick (Read r (b ∷ t)) (is 34 b) _ _ (λ e. rw (eqb-true b 34 e) (double-view r t (quoted_by r 34 t) refl))
    (λ _. pick (Read r (b ∷ t)) (is 59 b) _ _ (λ e. rw (eqb-true b 59 e) (field-view r p t (word-starts 59 t (unfold ends_word in refl))))
    (λ _. pick (Read r (b ∷ t)) (is_ordinary b) _ _ (λ e. whole-view r (b ∷ t) (word-pos b t (ordinary-in-word b e))) (λ _. missing no_start))))))

parted-view : (r : Reading) (p : ℕ) (s : List ℕ) (x : Lexed) → Read r s x → Read r s (parted r p x)
parted-view First p s x v = v
parted-view Strict p s x v = pick (Read Strict s) (is_space p) _ _ (λ e. v) (λ e. missing joined)

-- at the end, where a reserved word stands, and else by its first byte
pub view : (r : Reading) (p : ℕ) (s : List ℕ) → Read r s (lex_as_value r p s)
unfolding lex_as_value
view r p [] = missing at_end
view r p (b ∷ t) = parted-view r p (b ∷ t) _ (pick (Read r (b ∷ t)) (reserved r (b ∷ t)) _ _ (λ e. missing reserved_word) (λ e. value-view r p b t))
