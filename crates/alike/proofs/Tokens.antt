-- One token in both readings. Proved (lex-alike): a token that the strict reading takes is the first reading's token too,
-- unless it is a quoted value, a bare value that starts with `;`, or one that specs/Plain leaves out. Assumes nothing.
use Prim.Native.Nat.{ℕ, zero, suc, ◌≤◌, ◌<◌}
use mathlib.Core.Path.{◌≡◌, refl, sym, ◌∙◌}
use mathlib.Core.Bool.{Bool, true, false, not, cond, ◌&&◌, ◌||◌, true≢false}
use mathlib.Core.List.{List, [], ◌∷◌}
use mathlib.Core.Option.{Option, none, some}
use native.Mathlib.Omega.{arith}
use borrow.Author.Tests.{eqb-true, not-true}
use lib.Dec.{eqb}
use lib.ListN.{length, take, get_or}
use Rattle.rules.specs.declared.Reading.TheVariants.{First, Strict}
use Rattle.text.specs.Bytes.{is, is_space, is_eol, is_digit, ends_word}
use Rattle.text.proofs.Bools.{and_l, and_r, or_cases}
use Rattle.words.specs.Words.{word, is_ordinary}
use Rattle.words.proofs.Words.{ordinary-in-word, word-pos, word_next, word-starts, word_fits}
use Rattle.words.proofs.Ended.{in-word as in-word-by}
use Rattle.keywords.specs.Keywords.{starts, key_data, key_global, key_loop, key_save, key_stop, is_word}
use Rattle.keywords.proofs.Starts.{NoKeyword, stands-starts}
use Rattle.quotes.specs.Quotes.{strict_quoted, field}
use Rattle.numbers.specs.Parts.{Parts, parts, is_number, written, is_numeric, within}
use Rattle.numbers.specs.Pieces.{starts_number}
use Rattle.numbers.proofs.Facts.{no-number-by-first-byte, dot-alone, counts-number, counts-none}
use Rattle.values.specs.Values.{Class, block, loop, save, tag, value, over_limit, open_quote, open_field, Lexed, lexed, number_or, word_or, whole_word, closed, alone_or, fielded, lex_value}
use Rattle.grammar.specs.Tokens.{tag_first, Mode, before, in_block, in_frame, save_size, lex_in, lex}
use Rattle.grammar.proofs.Lexes.{pick, lex-loop, lex-save, lex-tag, lex-no-key}
use Rattle.alike.specs.Plain.{empty_exponent, empty_bracket, starts_single, starts_keyword, is_plain_word, starts_semicolon}
use Rattle.alike.proofs.Moves.{Fits}
use Rattle.alike.proofs.Keys.{low-no-keyword, number-no-keyword, word-no-keyword}

-- `'` or `"` comes first
unfoldable pub starts_quote : List ℕ → Bool
starts_quote [] = false
starts_quote (b ∷ w) = is 39 b || is 34 b

-- the bytes w of a value of kind k, where both readings have it alike
pub record Calm (k : ℕ) (w : List ℕ) : Type 0 where
  pub not-quoted : k ≡ 21 → starts_quote w ≡ false
  pub no-semicolon : k ≡ 10 → starts_semicolon w ≡ false
  pub plain : k ≡ 10 → is_plain_word w ≡ true

-- a token of class c that is the first n bytes of s is calm if it is a value
abbrev pub CalmIf : List ℕ → Class → ℕ → Type 0
CalmIf s c n = (k : ℕ) → c ≡ value k → Calm k (take n s)

-- what is_plain_word says

-- a word that is no number by CIF 1.1 is none by document 01 either
plain-no-number : (w : List ℕ) → is_plain_word w ≡ true → is_numeric (parts w) ≡ false → is_number (parts w) ≡ false
unfolding is_plain_word empty_exponent empty_bracket is_numeric
plain-no-number w e h = by (is_number (parts w)) (written (parts w).exp) (written (parts w).unc) refl refl refl
  where
    by : (n x u : Bool) → is_number (parts w) ≡ n → written (parts w).exp ≡ x → written (parts w).unc ≡ u → n ≡ false
    by false x u p q r = refl
    by true false u p q r = absurd (true≢false (sym (rw (p, q) at e)))
    by true true false p q r = absurd (true≢false (sym (rw (p, q, r) at e)))
    by true true true p q r = absurd (true≢false (rw (p, q, r) at h))

-- it has more than one byte and starts with `.` or `?` only as a number
single-left-out : (w : List ℕ) → starts_single w ≡ true → is_number (parts w) ≡ false → is_plain_word w ≡ true → ⊥
unfolding is_plain_word
single-left-out w e z h =
    let q = and_l (not (starts_single w && not (is_number (parts w)))) _ (and_r (not (empty_bracket (parts w))) _ (and_r (not (empty_exponent (parts w))) _ h)) in
    true≢false (sym (rw (e, z) at q))

-- and it starts with none of three keywords
keywords-left-out : (w : List ℕ) → is_plain_word w ≡ true → starts_keyword w ≡ false
unfolding is_plain_word
keywords-left-out w h =
    not-true (starts_keyword w)
    (and_r (not (starts_single w && not (is_number (parts w)))) _ (and_r (not (empty_bracket (parts w))) _ (and_r (not (empty_exponent (parts w))) _ h)))

module _ (p : ℕ) (m : Mode) (b : ℕ) (s : List ℕ) where
  -- the word that stands here
  abbrev here : List ℕ
  here = take (word (b ∷ s)) (b ∷ s)

  -- what is to be shown of the strict token x
  unfoldable pub P : Lexed → Type 0
  P x = Fits x.class x.size m → CalmIf (b ∷ s) x.class x.size → lex First p m (b ∷ s) ≡ x

  heading : starts key_data (b ∷ s) ≡ true → P (lexed block (word (b ∷ s)))
  unfolding P Fits lex lexed
  heading e = by m
    where
      by : (m : Mode) → Fits block (word (b ∷ s)) m → CalmIf (b ∷ s) block (word (b ∷ s)) → lex First p m (b ∷ s) ≡ lexed block (word (b ∷ s))
      by before f _ = rw e
      by in_block f _ = absurd f
      by in_frame f _ = absurd f

  frame : starts key_save (b ∷ s) ≡ true → P (lexed save (word (b ∷ s)))
  unfolding P Fits lex save_size lexed
  frame e = by m
    where
      by : (m : Mode) → Fits save (word (b ∷ s)) m → CalmIf (b ∷ s) save (word (b ∷ s)) → lex First p m (b ∷ s) ≡ lexed save (word (b ∷ s))
      by before f _ = absurd f
      by in_block f _ = lex-save p in_block First (b ∷ s) e
      by in_frame f _ = lex-save p in_frame First (b ∷ s) e ∙ rw f

  looping : starts key_loop (b ∷ s) ≡ true → P (lexed loop 5)
  unfolding P Fits lex lexed
  looping e = by m
    where
      by : (m : Mode) → Fits loop 5 m → CalmIf (b ∷ s) loop 5 → lex First p m (b ∷ s) ≡ lexed loop 5
      by before f _ = absurd f
      by in_block f _ = lex-loop p in_block First (b ∷ s) e
      by in_frame f _ = lex-loop p in_frame First (b ∷ s) e

  tagged : is 95 b ≡ true → P (lexed tag (word (b ∷ s)))
  unfolding P Fits lex lexed tag_first
  tagged e = by m
    where
      by : (m : Mode) → Fits tag (word (b ∷ s)) m → CalmIf (b ∷ s) tag (word (b ∷ s)) → lex First p m (b ∷ s) ≡ lexed tag (word (b ∷ s))
      by before f _ = absurd f
      by in_block f _ = lex-tag p in_block First (b ∷ s) e
      by in_frame f _ = lex-tag p in_frame First (b ∷ s) e

  -- a value that both read
  leaf : is 95 b ≡ false → (k n : ℕ) → NoKeyword (b ∷ s) → lex_value First p b s ≡ lexed (value k) n → P (lexed (value k) n)
  unfolding P Fits lex lexed
  leaf u k n r e = by m
    where
      by : (m : Mode) → Fits (value k) n m → CalmIf (b ∷ s) (value k) n → lex First p m (b ∷ s) ≡ lexed (value k) n
      by before f _ = absurd f
      by in_block f _ = lex-no-key p in_block b s r u ∙ e
      by in_frame f _ = lex-no-key p in_frame b s r u ∙ e

  -- a number by CIF 1.1; `other` is what the first reading makes of the word if it is none
  number : is 95 b ≡ false → 0 < word (b ∷ s) → (other : Lexed) → lex_value First p b s ≡ word_or First other (b ∷ s)
      → is_numeric (parts here) ≡ true
      → P (lexed (cond (within (parts here)) (value (cond (parts here).unc.here 15 14)) over_limit) (word (b ∷ s)))
  unfolding word_or number_or P Fits lexed
  number u h other e q = by (within w) refl
    where
      w : Parts
      w = parts here

      is_one : is_number w ≡ true
      is_one = counts-number Strict w q

      by : (t : Bool) → within w ≡ t → P (lexed (cond t (value (cond w.unc.here 15 14)) over_limit) (word (b ∷ s)))
      by true k = leaf u (cond w.unc.here 15 14) (word (b ∷ s)) (number-no-keyword b s (word (b ∷ s)) h is_one) (e ∙ rw (is_one, k))
      by false k = λ f _. absurd f

  -- the word is a number, or a bare value that both read as one
  whole : is 95 b ≡ false → 0 < word (b ∷ s) → (other : Lexed) → lex_value First p b s ≡ word_or First other (b ∷ s)
      → (is_plain_word here ≡ true → is_number (parts here) ≡ false
      → (NoKeyword (b ∷ s)) × (other ≡ lexed (value 10) (word (b ∷ s))))
      → P (whole_word Strict (b ∷ s))
  unfolding word_or number_or P lexed
  whole u h other e plain =
      pick P (is_numeric (parts here)) _ _ (λ q. number u h other e q)
      (λ q f c.
      let w : is_plain_word here ≡ true = (c 10 refl).plain refl in
      let no : is_number (parts here) ≡ false = plain-no-number here w q in
      let a = plain w no in
      leaf u 10 (word (b ∷ s)) a.0 (e ∙ rw (no, a.1)) f c)

  -- a longer bare value does not start with `.` or `?`
  not-single : (is 46 b || is 63 b) ≡ true → eqb (word (b ∷ s)) 1 ≡ false → is_plain_word here ≡ true → is_number (parts here) ≡ false → ⊥
  unfolding is ends_word starts_single
  not-single e n w z = by s (word s) (word_fits s) (rw k at n) (rw k at w) (rw k at z)
    where
      in-word : ends_word b ≡ false
      in-word = or_cases (is 46 b) (is 63 b) (λ q. rw (eqb-true b 46 q)) (λ q. rw (eqb-true b 63 q)) e

      k : word (b ∷ s) ≡ suc (word s)
      k = word_next b s (in-word-by b in-word)

      single : (c : ℕ) (t : List ℕ) → starts_single (b ∷ c ∷ t) ≡ true
      single c t = or_cases (is 46 b) (is 63 b) (λ q. rw (eqb-true b 46 q)) (λ q. rw (eqb-true b 63 q)) e

      by : (t : List ℕ) (j : ℕ) → j ≤ length t → eqb (suc j) 1 ≡ false → is_plain_word (b ∷ take j t) ≡ true → is_number (parts (b ∷ take j t)) ≡ false → ⊥
      by t zero h n w z = true≢false n
      by [] (suc j) h n w z = omega arith
      by (c ∷ t) (suc j) h n w z = single-left-out (b ∷ c ∷ take j t) (single c (take j t)) z w

  -- `.` stands alone, or its word is a number
  dotted : is 95 b ≡ false → is 46 b ≡ true → P (alone_or 8 (b ∷ s))
  unfolding alone_or word_or number_or is is_digit ends_word
  dotted u e =
      pick P (eqb (word (b ∷ s)) 1) _ _
      (λ a. leaf u 8 1 (low-no-keyword b s low) (first ∙ rw (eqb-true (word (b ∷ s)) 1 a, eqb-true b 46 e, dot-alone [] refl)))
      (λ a. whole u pos (lexed (value 8) 1) first (λ w z. absurd (not-single (rw e) a w z)))
    where
      low : b < 68
      low = omega (arith, eqb-true b 46 e)

      pos : 0 < word (b ∷ s)
      pos = word-starts b s (rw (eqb-true b 46 e))

      first : lex_value First p b s ≡ word_or First (lexed (value 8) 1) (b ∷ s)
      first = unfold lex_value in rw e

  -- `?` stands alone: no number starts with it
  asked : is 95 b ≡ false → is 46 b ≡ false → is 63 b ≡ true → P (alone_or 9 (b ∷ s))
  unfolding alone_or is is_digit ends_word starts_number
  asked u d e =
      pick P (eqb (word (b ∷ s)) 1) _ _ (λ a. leaf u 9 1 (low-no-keyword b s low) first)
      (λ a. longer a)
    where
      low : b < 68
      low = omega (arith, eqb-true b 63 e)

      first : lex_value First p b s ≡ lexed (value 9) 1
      first = unfold lex_value in rw (d, e)

      byte : (n : ℕ) → starts_number (get_or (take n (b ∷ s)) 0 0) ≡ false
      byte zero = refl
      byte (suc n) = rw (eqb-true b 63 e)

      none : is_number (parts here) ≡ false
      none = no-number-by-first-byte here (byte (word (b ∷ s)))

      longer : eqb (word (b ∷ s)) 1 ≡ false → P (whole_word Strict (b ∷ s))
      longer a =
          unfold word_or number_or P lexed in
          rw (counts-none Strict (parts here) none) (λ f c. absurd (not-single (rw (d, e)) a ((c 10 refl).plain refl) none))

  -- a quoted value is left out
  quoted : (o : Option ℕ) → (is 39 b || is 34 b) ≡ true → P (closed 21 open_quote o)
  unfolding closed P Fits lexed starts_quote
  quoted none e = λ f _. absurd f
  quoted (some n) e = λ f c. absurd (true≢false (sym e ∙ (c 21 refl).not-quoted refl))

  -- a text field stands in column 1 for both; elsewhere the word is left out
  fields : is 95 b ≡ false → is 46 b ≡ false → is 63 b ≡ false → is 39 b ≡ false → is 34 b ≡ false → is 59 b ≡ true → P (fielded Strict p s)
  unfolding is ends_word starts_semicolon P Fits lexed closed
  fields u n46 n63 n39 n34 e = pick P (is_eol p) _ _ (λ _. by (field s) refl) (λ _. bare)
    where
      low : b < 68
      low = omega (arith, eqb-true b 59 e)

      first_byte : (n : ℕ) → 0 < n → starts_semicolon (take n (b ∷ s)) ≡ true
      first_byte zero h = absurd (omega arith)
      first_byte (suc n) h = rw (eqb-true b 59 e)

      first : lex_value First p b s ≡ closed 13 open_field (field s)
      first = unfold lex_value in rw (n46, n63, n39, n34, e)

      by : (o : Option ℕ) → field s ≡ o → P (closed 13 open_field o)
      by none q = λ f _. absurd f
      by (some n) q = leaf u 13 (suc n) (low-no-keyword b s low) (first ∙ rw q)

      bare : P (lexed (value 10) (word (59 ∷ s)))
      bare f c = absurd (true≢false (sym (first_byte (word (59 ∷ s)) (word-starts 59 s refl)) ∙ (c 10 refl).no-semicolon refl))

  -- an ordinary byte starts a word
  ordinary : is 95 b ≡ false → is 46 b ≡ false → is 63 b ≡ false → is 39 b ≡ false → is 34 b ≡ false → is 59 b ≡ false → is_ordinary b ≡ true
      → starts key_data (b ∷ s) ≡ false → starts key_save (b ∷ s) ≡ false → P (whole_word Strict (b ∷ s))
  unfolding lex_value
  ordinary u n46 n63 n39 n34 n59 o d v =
      whole u (word-pos b s (ordinary-in-word b o)) (lexed (value 10) (word (b ∷ s))) (rw (n46, n63, n39, n34, n59, o))
      (λ w z. (word-no-keyword (b ∷ s) d v (keywords-left-out here w), refl))

  value-alike : is 95 b ≡ false → starts key_data (b ∷ s) ≡ false → starts key_save (b ∷ s) ≡ false → P (lex_value Strict p b s)
  unfolding lex_value P Fits lexed
  value-alike u d v =
      pick P (is 46 b) _ _ (λ e. dotted u e)
      (λ n46. pick P (is 63 b) _ _ (λ e. asked u n46 e)
      (λ n63. pick P (is 39 b) _ _ (λ e. quoted (strict_quoted 39 s) (rw e))
      (λ n39. pick P (is 34 b) _ _ (λ e. quoted (strict_quoted 34 s) (rw (n39, e)))
      (λ n34. pick P (is 59 b) _ _ (λ e. fields u n46 n63 n39 n34 e)
      (λ n59. pick P (is_ordinary b) _ _ (λ e. ordinary u n46 n63 n39 n34 n59 e d v) (λ _ f _. absurd f))))))

  pub lex-alike : P (lex Strict p m (b ∷ s))
  unfolding lex lex_in P Fits lexed
  lex-alike =
      pick P (is_space p) _ _
      (λ _. pick P (starts key_data (b ∷ s)) _ _ heading
      (λ d. pick P (starts key_save (b ∷ s)) _ _ frame
      (λ v. pick P (is_word key_loop (b ∷ s)) _ _ (λ e. looping (stands-starts Strict key_loop (b ∷ s) e))
      (λ _. pick P (is_word key_global (b ∷ s) || is_word key_stop (b ∷ s)) _ _ (λ _ f _. absurd f)
      (λ _. pick P (is 95 b) _ _ tagged (λ u. value-alike u d v))))))
      (λ _ f _. absurd f)
