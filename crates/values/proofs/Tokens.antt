-- The token at a byte where a value may start: space and comments start none; it lies in the text; it has bytes unless nothing can be read; its class is a
-- value's or one of three reasons. Assumes nothing.
use Prim.Native.Nat.{ℕ, ◌≤◌, ◌<◌}
use mathlib.Core.Path.{◌≡◌, refl}
use mathlib.Core.Bool.{Bool, true, false, cond, ◌||◌}
use mathlib.Core.List.{List, ◌∷◌}
use mathlib.Core.Logic.{◌⊎◌, inl, inr}
use mathlib.Core.Option.{Option, none, some}
use native.Mathlib.Omega.{arith}
use borrow.Author.Tests.{eqb-true}
use lib.Dec.{eqb}
use lib.ListN.{length, take}
use Rattle.rules.specs.declared.Reading.{Reading}
use Rattle.rules.specs.declared.Reading.TheVariants.{First, Strict}
use Rattle.text.specs.Bytes.{is, is_eol, is_space}
use Rattle.text.proofs.Bools.{or_cases}
use Rattle.words.specs.Words.{word, is_ordinary}
use Rattle.words.proofs.Words.{word_fits}
use Rattle.quotes.specs.Quotes.{quoted_by, field}
use Rattle.quotes.proofs.Quotes.{field-ends}
use Rattle.quotes.proofs.Strict.{quoted-ends}
use Rattle.numbers.specs.Parts.{parts, counts_as, within}
use Rattle.values.specs.Values.{Reason, no_start, open_quote, open_field, Class, value, over_limit, nothing, Lexed, lexed, number_or, word_or, whole_word, closed, alone_or, pointed, asked, fielded, lex_value}
use Rattle.enclosed.specs.Pieces.{quote_kind}
use Rattle.values.proofs.Views.{Read, missing, point, unknown, bare, quote, double, multi, number, over, value-view}

-- no value starts with space or `#`
pub value-no-start : (r : Reading) (p b : ℕ) (s : List ℕ) → (is_space b || is 35 b) ≡ true → lex_value r p b s ≡ lexed (nothing no_start) 0
unfolding is_space is lex_value is_ordinary
value-no-start r p b s =
    or_cases _ _ (or_cases _ _ (or_cases _ _ (or_cases _ _ (at 32 refl) (at 9 refl)) (at 10 refl)) (at 13 refl)) (at 35 refl)
  where
    at : (c : ℕ) → lex_value r p c s ≡ lexed (nothing no_start) 0 → eqb b c ≡ true → lex_value r p b s ≡ lexed (nothing no_start) 0
    at c h e = rw (eqb-true b c e) h

read_fits : (r : Reading) (s : List ℕ) (x : Lexed) → Read r s x → x.size ≤ length s
unfolding lexed
read_fits r s _ (missing w) = omega arith
read_fits r s _ (point t q) = rw q (omega arith)
read_fits r s _ (unknown t q) = rw q (omega arith)
read_fits r s _ (bare p) = word_fits s
read_fits r s _ (quote t n q c) = rw q (omega (arith, (quoted-ends r 39 t n c).fits))
read_fits r s _ (double t n q c) = rw q (omega (arith, (quoted-ends r 34 t n c).fits))
read_fits r s _ (multi t n q c) = rw q (omega (arith, (field-ends t n c).fits))
read_fits r s _ (number u q w p) = word_fits s
read_fits r s _ (over p) = word_fits s

-- the token lies in the text
pub value-fits : (r : Reading) (p b : ℕ) (s : List ℕ) → (lex_value r p b s).size ≤ length (b ∷ s)
value-fits r p b s = read_fits r (b ∷ s) (lex_value r p b s) (value-view r p b s)

read-bytes : (r : Reading) (s : List ℕ) (x : Lexed) → Read r s x → (0 < x.size) ⊎ ((w : Reason) × (x.class ≡ nothing w))
unfolding lexed
read-bytes r s _ (missing w) = inr (w, refl)
read-bytes r s _ (point t q) = inl (omega arith)
read-bytes r s _ (unknown t q) = inl (omega arith)
read-bytes r s _ (bare p) = inl p
read-bytes r s _ (quote t n q c) = inl (omega arith)
read-bytes r s _ (double t n q c) = inl (omega arith)
read-bytes r s _ (multi t n q c) = inl (omega arith)
read-bytes r s _ (number u q w p) = inl p
read-bytes r s _ (over p) = inl p

-- the token has bytes, or nothing can be read there
pub value-bytes : (r : Reading) (p b : ℕ) (s : List ℕ) → (0 < (lex_value r p b s).size) ⊎ ((w : Reason) × ((lex_value r p b s).class ≡ nothing w))
value-bytes r p b s = read-bytes r (b ∷ s) (lex_value r p b s) (value-view r p b s)

-- what holds of the classes that the token can have holds of its class
module _ (Q : Class → Type 0) (vals : (k : ℕ) → Q (value k)) (over : Q over_limit) (nots : Q (nothing no_start)) (quotes : Q (nothing open_quote)) (fields : Q (nothing open_field)) where
  pick : (t : Bool) (x y : Lexed) → Q x.class → Q y.class → Q (cond t x y).class
  pick true x y p q = p
  pick false x y p q = q

  judged-class : (t : Bool) (k : ℕ) → Q (cond t (value k) over_limit)
  judged-class true k = vals k
  judged-class false k = over

  word-class : (r : Reading) (x : Lexed) (s : List ℕ) → Q x.class → Q (word_or r x s).class
  unfolding word_or number_or lexed
  word-class r x s h = pick (counts_as r (parts (take (word s) s))) _ x (judged-class (within (parts (take (word s) s))) _) h

  closed-class : (k : ℕ) (w : Reason) (o : Option ℕ) → Q (nothing w) → Q (closed k w o).class
  unfolding closed lexed
  closed-class k w none h = h
  closed-class k w (some n) h = vals k

  whole-class : (r : Reading) (s : List ℕ) → Q (whole_word r s).class
  unfolding lexed
  whole-class r s = word-class r (lexed (value 10) (word s)) s (vals 10)

  alone-class : (k : ℕ) (s : List ℕ) → Q (alone_or k s).class
  unfolding alone_or lexed
  alone-class k s = pick (eqb (word s) 1) _ _ (vals k) (whole-class Strict s)

  point-class : (r : Reading) (s : List ℕ) → Q (pointed r s).class
  unfolding lexed
  point-class First s = word-class First (lexed (value 8) 1) s (vals 8)
  point-class Strict s = alone-class 8 s

  unknown-class : (r : Reading) (s : List ℕ) → Q (asked r s).class
  unfolding lexed
  unknown-class First s = vals 9
  unknown-class Strict s = alone-class 9 s

  field-class : (r : Reading) (p : ℕ) (s : List ℕ) → Q (fielded r p s).class
  unfolding lexed
  field-class First p s = closed-class 13 open_field (field s) fields
  field-class Strict p s = pick (is_eol p) _ _ (closed-class 13 open_field (field s) fields) (vals 10)

  pub value-class : (r : Reading) (p b : ℕ) (s : List ℕ) → Q (lex_value r p b s).class
  unfolding lex_value lexed
  value-class r p b s =
      pick (is 46 b) _ _ (point-class r (b ∷ s))
      (pick (is 63 b) _ _ (unknown-class r (b ∷ s))
      (pick (is 39 b) _ _ (closed-class (quote_kind r 11) open_quote (quoted_by r 39 s) quotes)
      (pick (is 34 b) _ _ (closed-class (quote_kind r 12) open_quote (quoted_by r 34 s) quotes)
      (pick (is 59 b) _ _ (field-class r p s)
      (pick (is_ordinary b) _ _ (whole-class r (b ∷ s)) nots)))))
