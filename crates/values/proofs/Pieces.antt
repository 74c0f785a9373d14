-- The pieces of the value finder together answer found_at. Assumes nothing.
use Prim.Native.Nat.{ℕ, suc, ◌+◌, ◌-◌, ◌≤◌, ◌<◌}
use mathlib.Core.Path.{◌≡◌, refl, sym, ap, ◌∙◌}
use mathlib.Core.Bool.{Bool, true, false, cond, true≢false}
use mathlib.Core.List.{List, ◌∷◌}
use mathlib.Core.Option.{Option, none, some}
use native.Mathlib.Numerals.{add-one}
use native.Mathlib.Omega.{arith}
use borrow.Author.Tests.{ne_eqb}
use lib.Dec.{eqb}
use lib.ListN.{length, take, drop, get_or, drop_of_length-le}
use lib.Seq.{drop-cons, get_or-drop}
use Rattle.rules.specs.declared.Reading.{Reading}
use Rattle.rules.specs.declared.Reading.TheVariants.{First, Strict}
use Rattle.text.specs.Bytes.{is, is_digit, is_eol}
use Rattle.columns.specs.Before.{byte_before, is_parted}
use Rattle.words.specs.Words.{word, end_of_word, is_ordinary}
use Rattle.keywords.specs.Keywords.{reserved}
use Rattle.quotes.specs.Quotes.{quoted_by, field}
use Rattle.words.proofs.Words.{word_size}
use Rattle.numbers.specs.Parts.{parts, counts_as, within}
use Rattle.numbers.specs.Meaning.{meaning, number_of}
use Rattle.numbers.specs.Pieces.{starts_number}
use Rattle.numbers.specs.declared.Decimal.{Decimal}
use Rattle.numbers.specs.declared.Number.TheVariants.{Not, Is, Over as Long}
use Rattle.numbers.proofs.Judged.{number-judged, meaning-uncertain, none-by-first-byte, none-by-point}
use Rattle.found.specs.declared.Found.{Found}
use Rattle.found.specs.declared.Found.TheVariants.{Value, Missing}
use Rattle.found.specs.declared.Why.TheVariants.{AtEnd, Reserved, NoStart, Joined}
use Rattle.values.specs.Values.{Reason, reserved_word, open_quote, open_field, value, over_limit, nothing, Lexed, lexed, number_or, word_or, whole_word, closed, alone_or, pointed, asked, fielded, parted, lex_value, lex_as_value}
use Rattle.enclosed.specs.Pieces.{quote_kind, between, quote_at, field_at, semicolon_at}
use Rattle.values.specs.Answers.{why_of, why_not, wanted}
use Rattle.values.specs.Finding.{found_at}
use Rattle.unquoted.specs.Pieces.{judged_or, number_at, word_at, first_point, alone_at, point_at, unknown_at}

-- what is found where a token stands
abbrev found_of : Lexed → Found
found_of x = wanted x.class x.size

judged-piece : (x : Lexed) (n : ℕ) (d : Decimal) (h : Bool) → d.uncertain ≡ h → (t u : Bool)
    → found_of (cond t (lexed (cond u (value (cond h 15 14)) over_limit) n) x) ≡ judged_or (found_of x) n (cond t (cond u (Is d) Long) Not)
unfolding lexed judged_or wanted
judged-piece x n d h e false u = refl
judged-piece x n d h e true false = refl
judged-piece x n d h e true true = rw e

word_piece : (r : Reading) (s : List ℕ) (x : Lexed) → found_of (word_or r x s) ≡ judged_or (found_of x) (word s) (number_of r (take (word s) s))
unfolding word_or number_or
word_piece r s x =
    let w : List ℕ = take (word s) s in
    judged-piece x (word s) (meaning (parts w)) (parts w).unc.here (meaning-uncertain (parts w)) (counts_as r (parts w)) (within (parts w))
    ∙ ap (judged_or (found_of x) (word s)) (sym (number-judged r w))

closed-piece : (k : ℕ) (y : Reason) (x : Option ℕ) → found_of (closed k y x) ≡ between k (why_of y) x
unfolding closed lexed between wanted why_not
closed-piece k y none = refl
closed-piece k y (some n) = refl

either-piece : (t : Bool) (x y : Lexed) → found_of (cond t x y) ≡ cond t (found_of x) (found_of y)
either-piece true x y = refl
either-piece false x y = refl

-- the word at an offset
module _ (r : Reading) (s : List ℕ) (o : ℕ) where
  judged-whole : (other : Found) → judged_or other (word (drop o s)) (number_of r (take (word (drop o s)) (drop o s))) ≡ number_at r other s o (end_of_word s o)
  unfolding number_at
  judged-whole other = rw (word_size s o)

  whole-piece : found_of (whole_word r (drop o s)) ≡ word_at r s o
  unfolding word_at lexed wanted
  whole-piece =
      word_piece r (drop o s) (lexed (value 10) (word (drop o s))) ∙ judged-whole (Value 10 (word (drop o s)))
      ∙ ap (λ (n : ℕ). number_at r (Value 10 n) s o (end_of_word s o)) (sym (word_size s o))

-- `.` or `?` alone, or as the start of a word
alone-piece : (k : ℕ) (s : List ℕ) (o : ℕ) → found_of (alone_or k (drop o s)) ≡ alone_at k s o
unfolding alone_or alone_at lexed wanted
alone-piece k s o =
    either-piece (eqb (word (drop o s)) 1) (lexed (value k) 1) (whole_word Strict (drop o s))
    ∙ rw (whole-piece Strict s o, word_size s o)

-- `?`
unknown-piece : (r : Reading) (s : List ℕ) (o : ℕ) → found_of (asked r (drop o s)) ≡ unknown_at r s o
unknown-piece First s o = unfold lexed wanted in refl
unknown-piece Strict s o = alone-piece 9 s o

-- `.`: in the first reading, without a digit behind the point the word is no number
first_piece : (s : List ℕ) (o : ℕ) → drop o s ≡ 46 ∷ drop (suc o) s → (t : Bool) → is_digit (get_or s (o + 1) 0) ≡ t
    → judged_or (Value 8 1) (word (drop o s)) (number_of First (take (word (drop o s)) (drop o s))) ≡ cond t (number_at First (Value 8 1) s o (end_of_word s o)) (Value 8 1)
unfolding judged_or
first_piece s o l true d = judged-whole First s o (Value 8 1)
first_piece s o l false d =
    let k : suc o + 0 ≡ o + 1 = omega arith in
    let f : is_digit (get_or (drop (suc o) s) 0 0) ≡ false = rw (get_or-drop (suc o) s 0 0, k) d in
    let n : number_of First (take (word (drop o s)) (drop o s)) ≡ Not = rw l (none-by-point First (word (46 ∷ drop (suc o) s)) (drop (suc o) s) f) in
    rw n

point-piece : (r : Reading) (s : List ℕ) (o : ℕ) → drop o s ≡ 46 ∷ drop (suc o) s → found_of (pointed r (drop o s)) ≡ point_at r s o
unfolding first_point lexed wanted
point-piece First s o l = word_piece First (drop o s) (lexed (value 8) 1) ∙ first_piece s o l (is_digit (get_or s (o + 1) 0)) refl
point-piece Strict s o l = alone-piece 8 s o

-- `;`
semicolon-piece : (r : Reading) (s : List ℕ) (o : ℕ) → drop o s ≡ 59 ∷ drop (suc o) s → found_of (fielded r (byte_before s o) (drop (suc o) s)) ≡ semicolon_at r s o
unfolding field_at lexed wanted why_of
semicolon-piece First s o l = rw add-one (closed-piece 13 open_field (field (drop (suc o) s)))
semicolon-piece Strict s o l =
    either-piece (is_eol (byte_before s o)) (closed 13 open_field (field (drop (suc o) s))) (lexed (value 10) (word (59 ∷ drop (suc o) s)))
    ∙ rw (← l, word_size s o, add-one, closed-piece 13 open_field (field (drop (suc o) s)))

-- at the end, where no space stands before, and where a reserved word stands
pub found-end : (r : Reading) (s : List ℕ) (o : ℕ) → length s ≤ o → found_at r s o ≡ Missing AtEnd
unfolding found_at wanted lex_as_value lexed why_not why_of
found-end r s o h = rw (drop_of_length-le s h)

pub found-joined : (r : Reading) (s : List ℕ) (o : ℕ) → o < length s → is_parted r (byte_before s o) ≡ false → found_at r s o ≡ Missing Joined
unfolding found_at wanted lex_as_value lexed why_not why_of
found-joined First s o h e = absurd (true≢false e)
found-joined Strict s o h e = rw (drop-cons s o 0 h, e)

parted-through : (r : Reading) (p : ℕ) (x : Lexed) → is_parted r p ≡ true → parted r p x ≡ x
parted-through First p x e = refl
parted-through Strict p x e = rw e

module _ (r : Reading) (s : List ℕ) (o : ℕ) (h : o < length s) (a : is_parted r (byte_before s o) ≡ true) where
  not-joined : found_at r s o ≡ found_of (cond (reserved r (drop o s)) (lexed (nothing reserved_word) 0) (lex_value r (byte_before s o) (get_or s o 0) (drop (suc o) s)))
  unfolding found_at lex_as_value
  not-joined = rw (drop-cons s o 0 h, parted-through r (byte_before s o) _ a)

  pub found-reserved : reserved r (drop o s) ≡ true → found_at r s o ≡ Missing Reserved
  unfolding wanted lexed why_not why_of
  found-reserved q = not-joined ∙ rw q

  -- else by the first byte
  module _ (q : reserved r (drop o s) ≡ false) where
    by_byte : found_at r s o ≡ found_of (lex_value r (byte_before s o) (get_or s o 0) (drop (suc o) s))
    by_byte = not-joined ∙ rw q

    -- what stands there, from its first byte on
    from : (b : ℕ) → get_or s o 0 ≡ b → drop o s ≡ b ∷ drop (suc o) s
    from b e = drop-cons s o 0 h ∙ rw e

    pub found-unknown : get_or s o 0 ≡ 63 → found_at r s o ≡ unknown_at r s o
    unfolding lex_value is
    found-unknown b = by_byte ∙ rw (b, ← from 63 b) (unknown-piece r s o)

    pub found-quote : get_or s o 0 ≡ 39 → found_at r s o ≡ quote_at r 39 11 s o
    unfolding lex_value is quote_at why_of
    found-quote b = by_byte ∙ rw (b, add-one) (closed-piece (quote_kind r 11) open_quote (quoted_by r 39 (drop (suc o) s)))

    pub found-double : get_or s o 0 ≡ 34 → found_at r s o ≡ quote_at r 34 12 s o
    unfolding lex_value is quote_at why_of
    found-double b = by_byte ∙ rw (b, add-one) (closed-piece (quote_kind r 12) open_quote (quoted_by r 34 (drop (suc o) s)))

    pub found-semicolon : get_or s o 0 ≡ 59 → found_at r s o ≡ semicolon_at r s o
    unfolding lex_value is
    found-semicolon b = by_byte ∙ rw b (semicolon-piece r s o (from 59 b))

    pub found-point : get_or s o 0 ≡ 46 → found_at r s o ≡ point_at r s o
    unfolding lex_value is
    found-point b = by_byte ∙ rw (b, ← from 46 b) (point-piece r s o (from 46 b))

    module _ (n46 : get_or s o 0 ≡ 46 → ⊥) (n63 : get_or s o 0 ≡ 63 → ⊥) (n39 : get_or s o 0 ≡ 39 → ⊥) (n34 : get_or s o 0 ≡ 34 → ⊥) (n59 : get_or s o 0 ≡ 59 → ⊥) where
      pub found_word : is_ordinary (get_or s o 0) ≡ true → found_at r s o ≡ word_at r s o
      unfolding lex_value is
      found_word f =
          by_byte ∙ rw (ne_eqb _ _ n46, ne_eqb _ _ n63, ne_eqb _ _ n39, ne_eqb _ _ n34, ne_eqb _ _ n59, f, ← from (get_or s o 0) refl) (whole-piece r s o)

      pub found_none : is_ordinary (get_or s o 0) ≡ false → found_at r s o ≡ Missing NoStart
      unfolding lex_value lexed is why_not why_of wanted
      found_none f = by_byte ∙ rw (ne_eqb _ _ n46, ne_eqb _ _ n63, ne_eqb _ _ n39, ne_eqb _ _ n34, ne_eqb _ _ n59, f)

-- a word that starts as no number does is bare text
pub bare-word : (r : Reading) (s : List ℕ) (o : ℕ) → starts_number (get_or s o 0) ≡ false → word_at r s o ≡ Value 10 (end_of_word s o - o)
unfolding word_at number_at judged_or
bare-word r s o f =
    let k : o + 0 ≡ o = omega arith in
    rw (none-by-first-byte r (end_of_word s o - o) (drop o s) (rw (get_or-drop o s 0 0, k) f))
