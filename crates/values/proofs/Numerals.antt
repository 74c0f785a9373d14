-- Numbers among values, in either reading. Proved: a token where a value is wanted has a number's class exactly if
-- its bytes are a number of the reading (numeral-is); and a word that is one is that token, with its whole length,
-- where space parts it from what stands before (number-here). Assumes nothing.
use Prim.Native.Nat.{ℕ, suc, ◌<◌}
use mathlib.Core.Path.{◌≡◌, refl, sym, ◌∙◌, subst}
use mathlib.Core.Bool.{Bool, true, false, cond, ◌||◌, true≢false}
use mathlib.Core.List.{List, [], ◌∷◌}
use mathlib.Core.Option.{Option, none, some}
use native.Mathlib.Omega.{arith}
use borrow.Author.Tests.{eqb-true, eqb-false, ltb-true}
use lib.Dec.{eqb, ltb}
use lib.ListN.{take, get_or}
use Rattle.rules.specs.declared.Reading.{Reading}
use Rattle.rules.specs.declared.Reading.TheVariants.{First, Strict}
use Rattle.text.specs.Bytes.{is, is_digit, is_eol, is_space}
use Rattle.text.proofs.Bools.{or_l, or_r}
use Rattle.text.proofs.Ranges.{digit-is, digit_not}
use Rattle.words.specs.Words.{word, is_ordinary}
use Rattle.keywords.specs.Keywords.{reserved}
use Rattle.keywords.proofs.Keywords.{reserved-low}
use Rattle.quotes.specs.Quotes.{quoted_by, field}
use Rattle.numbers.specs.Parts.{Parts, parts, counts_as, within}
use Rattle.numbers.specs.Pieces.{starts_number}
use Rattle.numbers.proofs.Facts.{counts-none, is-not, dot-alone}
use Rattle.numbers.proofs.Judged.{starts_none, none-by-first-byte}
use Rattle.columns.specs.Before.{is_parted}
use Rattle.values.specs.Values.{Reason, no_start, open_quote, open_field, reserved_word, joined, at_end, Class, block, loop, save, tag, value, over_limit, nothing, Lexed, lexed, number_or, word_or, whole_word, closed, alone_or, pointed, asked, fielded, parted, lex_value, lex_as_value}
use Rattle.enclosed.specs.Pieces.{quote_kind}
use Rattle.values.proofs.Views.{pick}

-- kinds 14 and 15
abbrev pub is_number_kind : ℕ → Bool
is_number_kind k = eqb k 14 || eqb k 15

-- a number, within the limits or over one
abbrev pub is_numeral : Class → Bool
is_numeral (value k) = is_number_kind k
is_numeral over_limit = true
is_numeral block = false
is_numeral loop = false
is_numeral save = false
is_numeral tag = false
is_numeral (nothing w) = false

-- each class that a number can have is one
pub numeral-class : (t u : Bool) → is_numeral (cond t (value (cond u 15 14)) over_limit) ≡ true
numeral-class true true = refl
numeral-class true false = refl
numeral-class false u = refl

-- what x, the token at the start of s, says of its bytes
Told : Reading → List ℕ → Lexed → Type 0
Told r s x = is_numeral x.class ≡ counts_as r (parts (take x.size s))

-- bytes that are no number: none; a first byte that starts none; a point alone

none-counts : (r : Reading) (n : ℕ) (s : List ℕ) → starts_number (get_or s 0 0) ≡ false → counts_as r (parts (take n s)) ≡ false
none-counts r n s e = is-not r (take n s) (none-by-first-byte r n s e)

empty-counts : (r : Reading) → counts_as r (parts []) ≡ false
unfolding is_digit
empty-counts r = none-counts r 0 [] (starts_none 0 refl (λ e. omega arith) (λ e. omega arith) (λ e. omega arith))

point-counts : (r : Reading) → counts_as r (parts (46 ∷ [])) ≡ false
unfolding is_digit
point-counts r = counts-none r (parts (46 ∷ [])) (dot-alone [] refl)

missing-told : (r : Reading) (s : List ℕ) (w : Reason) → Told r s (lexed (nothing w) 0)
unfolding Told lexed
missing-told r s w = sym (empty-counts r)

-- a word
word-told : (r : Reading) (s : List ℕ) (x : Lexed) → (counts_as r (parts (take (word s) s)) ≡ false → Told r s x) → Told r s (word_or r x s)
unfolding word_or number_or Told lexed
word-told r s x h =
    let w = parts (take (word s) s) in
    pick (Told r s) (counts_as r w) _ x (λ e. numeral-class (within w) w.unc.here ∙ sym e) h

whole-told : (r : Reading) (s : List ℕ) → Told r s (whole_word r s)
unfolding Told lexed
whole-told r s = word-told r s (lexed (value 10) (word s)) (λ e. sym e)

alone-told : (k : ℕ) (s : List ℕ) → Told Strict s (lexed (value k) 1) → Told Strict s (alone_or k s)
unfolding alone_or
alone-told k s h = pick (Told Strict s) (eqb (word s) 1) _ _ (λ e. h) (λ e. whole-told Strict s)

-- `.`
dot-told : (r : Reading) (t : List ℕ) → Told r (46 ∷ t) (lexed (value 8) 1)
unfolding Told lexed
dot-told r t = sym (point-counts r)

point-told : (r : Reading) (t : List ℕ) → Told r (46 ∷ t) (pointed r (46 ∷ t))
point-told First t = word-told First (46 ∷ t) (lexed (value 8) 1) (λ e. dot-told First t)
point-told Strict t = alone-told 8 (46 ∷ t) (dot-told Strict t)

-- what starts with another byte that starts no number
other-told : (r : Reading) (k n b : ℕ) (t : List ℕ) → starts_number b ≡ false → is_number_kind k ≡ false → Told r (b ∷ t) (lexed (value k) n)
unfolding Told lexed
other-told r k n b t e q = q ∙ sym (none-counts r n (b ∷ t) e)

closed-told : (r : Reading) (k b : ℕ) (t : List ℕ) (w : Reason) (o : Option ℕ) → starts_number b ≡ false → is_number_kind k ≡ false → Told r (b ∷ t) (closed k w o)
unfolding closed
closed-told r k b t w none e q = missing-told r (b ∷ t) w
closed-told r k b t w (some n) e q = other-told r k (suc n) b t e q

mark-none : (b : ℕ) → is_digit b ≡ false → (eqb b 43 || (eqb b 45 || eqb b 46)) ≡ false → starts_number b ≡ false
mark-none b d e =
    let f = or_r (eqb b 43) _ e in
    starts_none b d (eqb-false b 43 (or_l (eqb b 43) _ e)) (eqb-false b 45 (or_l (eqb b 45) _ f)) (eqb-false b 46 (or_r (eqb b 45) _ f))

-- `?`, a quote, `;`
unknown-told : (r : Reading) (t : List ℕ) → starts_number 63 ≡ false → Told r (63 ∷ t) (asked r (63 ∷ t))
unknown-told First t e = other-told First 9 1 63 t e refl
unknown-told Strict t e = alone-told 9 (63 ∷ t) (other-told Strict 9 1 63 t e refl)

quote-kind : (r : Reading) (k : ℕ) → is_number_kind k ≡ false → is_number_kind (quote_kind r k) ≡ false
quote-kind First k e = e
quote-kind Strict k e = refl

field_told : (r : Reading) (p : ℕ) (t : List ℕ) → starts_number 59 ≡ false → Told r (59 ∷ t) (fielded r p t)
field_told First p t e = closed-told First 13 59 t open_field (field t) e refl
field_told Strict p t e =
    pick (Told Strict (59 ∷ t)) (is_eol p) _ _ (λ _. closed-told Strict 13 59 t open_field (field t) e refl) (λ _. other-told Strict 10 (word (59 ∷ t)) 59 t e refl)

value-told : (r : Reading) (p b : ℕ) (t : List ℕ) → Told r (b ∷ t) (lex_value r p b t)
unfolding lex_value is is_digit
value-told r p b t =
    let T = Told r (b ∷ t) in
    pick T (is 46 b) _ _ (λ e. rw (eqb-true b 46 e) (point-told r t))
    (λ _. pick T (is 63 b) _ _ (λ e. rw (eqb-true b 63 e) (unknown-told r t (mark-none 63 refl refl)))
    (λ _. pick T (is 39 b) _ _ (λ e. rw (eqb-true b 39 e) (closed-told r (quote_kind r 11) 39 t open_quote (quoted_by r 39 t) (mark-none 39 refl refl) (quote-kind r 11 refl)))
    (λ _. pick T (is 34 b) _ _ (λ e. rw (eqb-true b 34 e) (closed-told r (quote_kind r 12) 34 t open_quote (quoted_by r 34 t) (mark-none 34 refl refl) (quote-kind r 12 refl)))
    (λ _. pick T (is 59 b) _ _ (λ e. rw (eqb-true b 59 e) (field_told r p t (mark-none 59 refl refl)))
    (λ _. pick T (is_ordinary b) _ _ (λ _. whole-told r (b ∷ t)) (λ _. missing-told r (b ∷ t) no_start))))))

parted-told : (r : Reading) (p : ℕ) (s : List ℕ) (x : Lexed) → Told r s x → Told r s (parted r p x)
parted-told First p s x h = h
parted-told Strict p s x h = pick (Told Strict s) (is_space p) _ _ (λ _. h) (λ _. missing-told Strict s joined)

-- A TOKEN HAS A NUMBER'S CLASS exactly if its bytes are a number
pub numeral-is : (r : Reading) (p : ℕ) (s : List ℕ) → is_numeral (lex_as_value r p s).class ≡ counts_as r (parts (take (lex_as_value r p s).size s))
unfolding lex_as_value Told
numeral-is r p [] = missing-told r [] at_end
numeral-is r p (b ∷ t) =
    parted-told r p (b ∷ t) _ (pick (Told r (b ∷ t)) (reserved r (b ∷ t)) _ _ (λ _. missing-told r (b ∷ t) reserved_word) (λ _. value-told r p b t))

-- A WORD THAT IS A NUMBER

-- as a token: of its kind, or over a limit
abbrev pub numeral : Parts → ℕ → Lexed
numeral w n = lexed (cond (within w) (value (cond w.unc.here 15 14)) over_limit) n

unfoldable whole_numeral : List ℕ → Lexed
whole_numeral s = numeral (parts (take (word s) s)) (word s)

word_number : (r : Reading) (x : Lexed) (s : List ℕ) → counts_as r (parts (take (word s) s)) ≡ true → word_or r x s ≡ whole_numeral s
unfolding word_or number_or whole_numeral
word_number r x s e = rw e

-- a point that is a word alone is none
point-number : (r : Reading) (t : List ℕ) → counts_as r (parts (take (word (46 ∷ t)) (46 ∷ t))) ≡ true → pointed r (46 ∷ t) ≡ whole_numeral (46 ∷ t)
unfolding alone_or
point-number First t e = word_number First (lexed (value 8) 1) (46 ∷ t) e
point-number Strict t e = by (eqb (word (46 ∷ t)) 1) refl
  where
    by : (u : Bool) → eqb (word (46 ∷ t)) 1 ≡ u → cond u (lexed (value 8) 1) (whole_word Strict (46 ∷ t)) ≡ whole_numeral (46 ∷ t)
    by true q = let z : counts_as Strict (parts (46 ∷ [])) ≡ true = rw (eqb-true (word (46 ∷ t)) 1 q) at e in absurd (true≢false (sym z ∙ point-counts Strict))
    by false q = word_number Strict (lexed (value 10) (word (46 ∷ t))) (46 ∷ t) e

-- by the first byte, which no reserved word has: a digit, a sign or the point
Starts : Reading → ℕ → ℕ → List ℕ → Type 0
Starts r p b t = counts_as r (parts (take (word (b ∷ t)) (b ∷ t))) ≡ true → (b < 68) × (lex_value r p b t ≡ whole_numeral (b ∷ t))

digit-ordinary : (b : ℕ) → is_digit b ≡ true → is_ordinary b ≡ true
unfolding is_ordinary
digit-ordinary b d = digit-is is_ordinary refl b d

digit-number : (r : Reading) (p b : ℕ) (t : List ℕ) → is_digit b ≡ true → Starts r p b t
unfolding lex_value is Starts
digit-number r p b t d e = (
  ltb-true b 68 (digit-is (λ x. ltb x 68) refl b d),
  rw (digit_not (is 46) refl b d, digit_not (is 63) refl b d, digit_not (is 39) refl b d, digit_not (is 34) refl b d, digit_not (is 59) refl b d, digit-ordinary b d)
      (word_number r (lexed (value 10) (word (b ∷ t))) (b ∷ t) e),
)

sign-number : (r : Reading) (p : ℕ) (t : List ℕ) → Starts r p 43 t × Starts r p 45 t
unfolding lex_value is_ordinary is Starts
sign-number r p t =
    (λ e. (omega arith, word_number r (lexed (value 10) (word (43 ∷ t))) (43 ∷ t) e), λ e. (omega arith, word_number r (lexed (value 10) (word (45 ∷ t))) (45 ∷ t) e))

dot-number : (r : Reading) (p : ℕ) (t : List ℕ) → Starts r p 46 t
unfolding lex_value is Starts
dot-number r p t e = (omega arith, point-number r t e)

value-number : (r : Reading) (p b : ℕ) (t : List ℕ) → Starts r p b t
unfolding Starts
value-number r p b t = by (is_digit b) refl (eqb b 43) refl (eqb b 45) refl (eqb b 46) refl
  where
    at : (c : ℕ) → eqb b c ≡ true → Starts r p c t → Starts r p b t
    at c q h = subst (λ x. Starts r p x t) (sym (eqb-true b c q)) h

    by : (d : Bool) → is_digit b ≡ d → (u : Bool) → eqb b 43 ≡ u → (v : Bool) → eqb b 45 ≡ v → (w : Bool) → eqb b 46 ≡ w → Starts r p b t
    by true d u f v g w h = digit-number r p b t d
    by false d true f v g w h = at 43 f (sign-number r p t).0
    by false d false f true g w h = at 45 g (sign-number r p t).1
    by false d false f false g true h = at 46 h (dot-number r p t)
    by false d false f false g false h =
        λ e. absurd (true≢false (sym e ∙ none-counts r (word (b ∷ t)) (b ∷ t) (mark-none b d (rw (f, g, h)))))

parted-here : (r : Reading) (p : ℕ) (x : Lexed) → is_parted r p ≡ true → parted r p x ≡ x
parted-here First p x e = refl
parted-here Strict p x e = rw e

-- A WORD THAT IS A NUMBER IS THE TOKEN, where space parts it from what stands before
pub number-here : (r : Reading) (p : ℕ) (s : List ℕ) → is_parted r p ≡ true → counts_as r (parts (take (word s) s)) ≡ true
    → lex_as_value r p s ≡ numeral (parts (take (word s) s)) (word s)
unfolding lex_as_value Starts whole_numeral
number-here r p [] a e = absurd (true≢false (sym e ∙ none-counts r (word []) [] (mark-none 0 (unfold is_digit in refl) refl)))
number-here r p (b ∷ t) a e =
    let h = value-number r p b t e in
    parted-here r p _ a ∙ rw (reserved-low r (b ∷ t) 0 (omega arith) h.0) h.1
