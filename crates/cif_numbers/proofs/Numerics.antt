-- NUMBERS OF THE STRICT READING ARE THE NUMERICS OF CIF 1.1 (document 02, Three). Proved of the token at any place
-- of a text: where it has a number's class, within the digit limits or over one, its bytes are a numeric
-- (strict-is-cif); and where a word that is a numeric stands behind space, the token is that word, a number of its
-- kind within the limits and over a limit beyond them (cif-is-strict). A value has a number's kind exactly where
-- its bytes are a number, in either reading (number-kind, kind-number). Assumes nothing.
use Prim.Native.Nat.{ℕ, ◌≤◌}
use mathlib.Core.Path.{◌≡◌, refl, sym, ap, ◌∙◌}
use mathlib.Core.Bool.{Bool, true, false, cond, ◌||◌, false≢true}
use mathlib.Core.List.{List, [], ◌∷◌}
use native.Mathlib.Omega.{arith}
use borrow.Author.Tests.{eqb-true}
use lib.Dec.{eqb}
use lib.ListN.{take}
use Rattle.rules.specs.declared.Reading.{Reading}
use Rattle.rules.specs.declared.Reading.TheVariants.{Strict}
use Rattle.text.specs.Bytes.{is, is_space}
use Rattle.text.proofs.Bools.{or_cases}
use Rattle.words.specs.Words.{word}
use Rattle.keywords.specs.Keywords.{starts, stands, key_data, key_global, key_loop, key_save, key_stop, reserved}
use Rattle.numbers.specs.Parts.{parts, counts_as}
use Rattle.numbers.specs.Cif.{CifNumeric, cif_within}
use Rattle.numbers.proofs.Cif.{cif-is-number, within-cif}
use Rattle.numbers.proofs.CifBack.{Standard, numeric-is-cif}
use Rattle.values.specs.Values.{block, loop, save, tag, value, over_limit, nothing, reserved_word, no_start, joined, Lexed, lexed, lex_value, lex_as_value}
use Rattle.values.proofs.Laws.{tag-none}
use Rattle.values.proofs.Numerals.{is_number_kind, is_numeral, numeral-class, numeral-is, number-here}
use Rattle.grammar.specs.Tokens.{Mode, lex_in, lex}

-- A value's kind and its bytes, in either reading

number-kinds : (k : ℕ) → is_number_kind k ≡ true → (14 ≤ k) × (k ≤ 15)
number-kinds k e =
    or_cases (eqb k 14) (eqb k 15)
    (λ q. let z : k ≡ 14 = eqb-true k 14 q in (omega arith, omega arith))
    (λ q. let z : k ≡ 15 = eqb-true k 15 q in (omega arith, omega arith)) e

module _ (r : Reading) (p : ℕ) (s : List ℕ) (k n : ℕ) (e : lex_as_value r p s ≡ lexed (value k) n) where
  kinds-count : is_number_kind k ≡ counts_as r (parts (take n s))
  unfolding lexed
  kinds-count = rw e at (numeral-is r p s)

  -- a value whose bytes are a number has a number's kind
  pub number-kind : counts_as r (parts (take n s)) ≡ true → (14 ≤ k) × (k ≤ 15)
  number-kind c = number-kinds k (kinds-count ∙ c)

  -- and each value of such a kind is one
  pub kind-number : is_number_kind k ≡ true → counts_as r (parts (take n s)) ≡ true
  kind-number c = sym kinds-count ∙ c

-- The token, where a value is wanted and where any token is

-- x and y are numbers alike
record Alike (x y : Lexed) : Type 0 where
  both : is_numeral x.class ≡ is_numeral y.class
  same : is_numeral x.class ≡ true → x ≡ y

neither : (x y : Lexed) → is_numeral x.class ≡ false → is_numeral y.class ≡ false → Alike x y
neither x y p q = record { both = p ∙ sym q; same = λ e. absurd (false≢true (sym p ∙ e)) }

itself : (x : Lexed) → Alike x x
itself x = record { both = refl; same = λ e. refl }

-- no number starts with a keyword or `_`
alike : (d g l s t u : Bool) (w : ℕ) (v : Lexed) → (u ≡ true → v ≡ lexed (nothing no_start) 0)
    → Alike (cond (d || g || l || s || t) (lexed (nothing reserved_word) 0) v)
    (cond d (lexed block w) (cond s (lexed save w) (cond l (lexed loop 5) (cond (g || t) (lexed (nothing reserved_word) 0) (cond u (lexed tag w) v)))))
unfolding lexed
alike true g l s t u w v h = neither _ _ refl refl
alike false true l true t u w v h = neither _ _ refl refl
alike false true true false t u w v h = neither _ _ refl refl
alike false true false false t u w v h = itself _
alike false false true true t u w v h = neither _ _ refl refl
alike false false true false t u w v h = neither _ _ refl refl
alike false false false true t u w v h = neither _ _ refl refl
alike false false false false true u w v h = itself _
alike false false false false false true w v h = rw (h refl) (neither _ _ refl refl)
alike false false false false false false w v h = itself _

parted-alike : (t : Bool) (x y : Lexed) → Alike x y → Alike (cond t x (lexed (nothing joined) 0)) (cond t y (lexed (nothing joined) 0))
parted-alike true x y h = h
parted-alike false x y h = itself _

lex-alike : (p : ℕ) (m : Mode) (s : List ℕ) → Alike (lex_as_value Strict p s) (lex Strict p m s)
unfolding lex_as_value lex lex_in reserved
lex-alike p m [] = itself _
lex-alike p m (b ∷ s) =
    parted-alike (is_space p) _ _
    (alike (starts key_data (b ∷ s)) (stands Strict key_global (b ∷ s)) (stands Strict key_loop (b ∷ s)) (starts key_save (b ∷ s))
    (stands Strict key_stop (b ∷ s)) (is 95 b) (word (b ∷ s)) (lex_value Strict p b s) (tag-none Strict p b s))

module _ (p : ℕ) (m : Mode) (s : List ℕ) where
  -- EACH NUMBER OF THE STRICT READING IS A NUMERIC OF CIF 1.1, over a digit limit too
  pub strict-is-cif : is_numeral (lex Strict p m s).class ≡ true → Standard (take (lex Strict p m s).size s)
  strict-is-cif e =
      let h = lex-alike p m s in
      let n : is_numeral (lex_as_value Strict p s).class ≡ true = h.both ∙ e in
      rw (ap (λ (x : Lexed). x.size) (h.same n)) at (numeric-is-cif (take (lex_as_value Strict p s).size s) (sym (numeral-is Strict p s) ∙ n))

  -- EACH NUMERIC OF CIF 1.1 THAT IS A WORD IS A NUMBER OF THE STRICT READING, where space stands before it
  pub cif-is-strict : {sg i f esg e u : List ℕ} {b : Bool} → is_space p ≡ true → CifNumeric sg i f esg e u b (take (word s) s)
      → lex Strict p m s ≡ lexed (cond (cif_within i f e u) (value (cond b 15 14)) over_limit) (word s)
  unfolding lexed
  cif-is-strict {sg} {i} {f} {esg} {e} {u} {b} a c =
      let n = cif-is-number c in
      let x : Lexed = lexed (cond (cif_within i f e u) (value (cond b 15 14)) over_limit) (word s) in
      let h : lex_as_value Strict p s ≡ x = number-here Strict p s a (n.counts Strict) ∙ rw (within-cif n, n.here) in
      sym ((lex-alike p m s).same (ap (λ (x : Lexed). is_numeral x.class) h ∙ numeral-class (cif_within i f e u) b)) ∙ h
