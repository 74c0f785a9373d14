-- What the first byte tells of the value that stands at an offset. Assumes nothing.
use Prim.Native.Nat.{ℕ, ◌+◌, ◌-◌, ◌≤◌, ◌<◌}
use mathlib.Core.Path.{◌≡◌, refl, sym, ◌∙◌}
use mathlib.Core.Bool.{Bool, true, false, cond, not, ◌&&◌, ◌||◌}
use mathlib.Core.List.{List}
use native.Mathlib.Omega.{arith}
use borrow.Author.Tests.{ltb-true, eqb-true, eqb-false, eq-eqb, ne_eqb, not-true}
use lib.Dec.{ltb, eqb}
use lib.ListN.{length, drop, get_or}
use Rattle.rules.specs.declared.Reading.{Reading}
use Rattle.text.specs.Bytes.{is, is_digit}
use Rattle.text.proofs.Bools.{and_l, and_r, or_l, or_r, or_cases}
use Rattle.text.proofs.Ranges.{all_below, digit-is}
use Rattle.words.specs.Words.{end_of_word, is_ordinary}
use Rattle.words.proofs.Words.{word-span}
use Rattle.folding.specs.Folding.{lower}
use Rattle.keywords.specs.Keywords.{reserved, is_free_letter}
use Rattle.keywords.proofs.Keywords.{reserved-low, reserved-none}
use Rattle.keywords.proofs.Letters.{free-letter-is, free-letter}
use Rattle.numbers.specs.Pieces.{starts_number}
use Rattle.decimals.specs.Plain.{decimal_end}
use Rattle.numbers.proofs.Judged.{starts_none}
use Rattle.decimals.proofs.Words.{PlainWord, plain_word}
use Rattle.found.specs.declared.Why.TheVariants.{NoStart}
use Rattle.found.specs.declared.Found.TheVariants.{Value, Missing}
use Rattle.values.specs.Finding.{starts_decimal, found_at, Start}
use Rattle.unquoted.specs.Pieces.{judged_or, number_at, word_at, point_at, unknown_at}
use Rattle.enclosed.specs.Pieces.{quote_at, semicolon_at}
use Rattle.values.proofs.Pieces.{found-unknown, found-quote, found-double, found-semicolon, found-point, found_word, found_none, bare-word}

-- an ordinary byte that starts a word
word_at_first : ℕ → Bool
word_at_first b = is_ordinary b && (not (is 46 b) && (not (is 63 b) && (not (is 39 b) && (not (is 34 b) && not (is 59 b)))))

word_first : (r : Reading) (s : List ℕ) (o : ℕ) → Start r s o → reserved r (drop o s) ≡ false → word_at_first (get_or s o 0) ≡ true → found_at r s o ≡ word_at r s o
unfolding word_at_first is
word_first r s o h q e =
    let b = get_or s o 0 in
    let e1 = and_r (is_ordinary b) _ e in
    let e2 = and_r (not (eqb b 46)) _ e1 in
    let e3 = and_r (not (eqb b 63)) _ e2 in
    let e4 = and_r (not (eqb b 39)) _ e3 in
    let no : (c : ℕ) → not (eqb b c) ≡ true → b ≡ c → ⊥ = λ c q. eqb-false b c (not-true (eqb b c) q) in
    found_word r s o h.within h.apart q (no 46 (and_l (not (eqb b 46)) _ e1)) (no 63 (and_l (not (eqb b 63)) _ e2)) (no 39 (and_l (not (eqb b 39)) _ e3))
    (no 34 (and_l (not (eqb b 34)) _ e4)) (no 59 (and_r (not (eqb b 34)) _ e4)) (and_l (is_ordinary b) _ e)

-- A letter that no reserved word starts with: bare text

free-none : (b : ℕ) → is_free_letter b ≡ true → starts_number b ≡ false
unfolding is_free_letter lower is_digit is
free-none b e =
    let no : (c : ℕ) → all_below (λ k. not (is_free_letter (65 + k)) || not (eqb (65 + k) c)) 58 ≡ true → b ≡ c → ⊥
    = λ c t. eqb-false b c (not-true (eqb b c) (free-letter-is (λ x. not (eqb x c)) t b e)) in
    starts_none b (not-true (is_digit b) (free-letter-is (λ x. not (is_digit x)) refl b e)) (no 43 refl) (no 45 refl) (no 46 refl)

pub free-found : (r : Reading) (s : List ℕ) (o : ℕ) → Start r s o → is_free_letter (get_or s o 0) ≡ true → found_at r s o ≡ Value 10 (end_of_word s o - o)
unfolding word_at_first is_ordinary is_free_letter lower is
free-found r s o h e =
    let b = get_or s o 0 in
    word_first r s o h (free-letter r s o h.within e) (free-letter-is word_at_first refl b e) ∙ bare-word r s o (free-none b e)

-- A digit or a sign: a number or bare text

decimal-is : (f : ℕ → Bool) → all_below (λ k. f (48 + k)) 10 ≡ true → f 43 ≡ true → f 45 ≡ true → (b : ℕ) → starts_decimal b ≡ true → f b ≡ true
unfolding starts_decimal is
decimal-is f t p m b e =
    or_cases (is_digit b) (eqb b 43 || eqb b 45) (λ q. digit-is f t b q)
    (λ q. or_cases (eqb b 43) (eqb b 45) (λ r. rw (eqb-true b 43 r) p) (λ r. rw (eqb-true b 45 r) m) q) e

pub decimal-word : (r : Reading) (s : List ℕ) (o : ℕ) → Start r s o → starts_decimal (get_or s o 0) ≡ true → found_at r s o ≡ word_at r s o
unfolding word_at_first is_ordinary is
decimal-word r s o h e =
    let b = get_or s o 0 in
    let l : b < 68 = ltb-true b 68 (decimal-is (λ x. ltb x 68) refl refl refl b e) in
    word_first r s o h (reserved-low r s o h.within l) (decimal-is word_at_first refl refl refl b e)

plain_value : (r : Reading) (s : List ℕ) (o e : ℕ) → PlainWord r s o e → word_at r s o ≡ Value (cond (is 41 (get_or s (e - 1) 0)) 15 14) (e - o)
unfolding word_at number_at judged_or
plain_value r s o e x =
    let w : end_of_word s o ≡ e = word-span s o ∙ x.whole in
    rw (w, x.number, x.uncertain)

-- a plain number that ends at e: its last byte tells its kind
module _ (r : Reading) (s : List ℕ) (o e : ℕ) (h : Start r s o) (q : e ≡ decimal_end r s o) (m : o < e) where
  plain-to : PlainWord r s o e
  plain-to = rw (← q) at (plain_word r s o h.within (rw (← q) m))

  pub decimal-within : e ≤ length s
  decimal-within = plain-to.within

  last_byte : (t : Bool) → starts_decimal (get_or s o 0) ≡ true → is 41 (get_or s (e - 1) 0) ≡ t → found_at r s o ≡ Value (cond t 15 14) (e - o)
  last_byte t d l = decimal-word r s o h d ∙ plain_value r s o e plain-to ∙ rw l

  pub uncertain-found : starts_decimal (get_or s o 0) ≡ true → get_or s (e - 1) 0 ≡ 41 → found_at r s o ≡ Value 15 (e - o)
  unfolding is
  uncertain-found d l = last_byte true d (eq-eqb _ _ l)

  pub certain-found : starts_decimal (get_or s o 0) ≡ true → (get_or s (e - 1) 0 ≡ 41 → ⊥) → found_at r s o ≡ Value 14 (e - o)
  unfolding is
  certain-found d l = last_byte false d (ne_eqb _ _ l)

-- any other byte but the point starts no number
other_none : (b : ℕ) → starts_decimal b ≡ false → (b ≡ 46 → ⊥) → starts_number b ≡ false
unfolding starts_decimal is
other_none b e t =
    let s = or_r (is_digit b) _ e in
    starts_none b (or_l (is_digit b) _ e) (eqb-false b 43 (or_l (eqb b 43) _ s)) (eqb-false b 45 (or_r (eqb b 43) _ s)) t

-- Any other byte, by what it is
module _ (r : Reading) (s : List ℕ) (o : ℕ) (h : Start r s o) (b : ℕ) (e : b ≡ get_or s o 0) where
  low : (c : ℕ) → b ≡ c → c < 68 → reserved r (drop o s) ≡ false
  low c q l = reserved-low r s o h.within (omega (arith, e, q))

  -- `_` starts none
  pub tag-here : b ≡ 95 → found_at r s o ≡ Missing NoStart
  unfolding is_ordinary lower is
  tag-here q =
      let f : get_or s o 0 ≡ 95 = sym e ∙ q in
      let z : reserved r (drop o s) ≡ false = reserved-none r s o h.within 95 (rw f) (λ x. omega (arith, x)) (λ x. omega (arith, x)) (λ x. omega (arith, x)) (λ x. omega (arith, x)) in
      let no : (c : ℕ) → (95 ≡ c → ⊥) → get_or s o 0 ≡ c → ⊥ = λ c n x. n (sym f ∙ x) in
      found_none r s o h.within h.apart z (no 46 (λ x. omega (arith, x))) (no 63 (λ x. omega (arith, x))) (no 39 (λ x. omega (arith, x))) (no 34 (λ x. omega (arith, x))) (no 59 (λ x. omega (arith, x))) (rw f)

  pub unknown-here : b ≡ 63 → found_at r s o ≡ unknown_at r s o
  unknown-here q = found-unknown r s o h.within h.apart (low 63 q (omega arith)) (sym e ∙ q)

  pub quote-here : b ≡ 39 → found_at r s o ≡ quote_at r 39 11 s o
  quote-here q = found-quote r s o h.within h.apart (low 39 q (omega arith)) (sym e ∙ q)

  pub double-here : b ≡ 34 → found_at r s o ≡ quote_at r 34 12 s o
  double-here q = found-double r s o h.within h.apart (low 34 q (omega arith)) (sym e ∙ q)

  pub semicolon-here : b ≡ 59 → found_at r s o ≡ semicolon_at r s o
  semicolon-here q = found-semicolon r s o h.within h.apart (low 59 q (omega arith)) (sym e ∙ q)

  pub point-here : b ≡ 46 → found_at r s o ≡ point_at r s o
  point-here q = found-point r s o h.within h.apart (low 46 q (omega arith)) (sym e ∙ q)

  module _ (z : reserved r (drop o s) ≡ false) (n63 : b ≡ 63 → ⊥) (n39 : b ≡ 39 → ⊥) (n34 : b ≡ 34 → ⊥) (n59 : b ≡ 59 → ⊥) (n46 : b ≡ 46 → ⊥) where
    pub none_here : is_ordinary b ≡ false → found_at r s o ≡ Missing NoStart
    none_here f = found_none r s o h.within h.apart z (λ q. n46 (e ∙ q)) (λ q. n63 (e ∙ q)) (λ q. n39 (e ∙ q)) (λ q. n34 (e ∙ q)) (λ q. n59 (e ∙ q)) (rw (← e) f)

    pub bare-here : is_ordinary b ≡ true → starts_decimal b ≡ false → found_at r s o ≡ Value 10 (end_of_word s o - o)
    bare-here f d =
        found_word r s o h.within h.apart z (λ q. n46 (e ∙ q)) (λ q. n63 (e ∙ q)) (λ q. n39 (e ∙ q)) (λ q. n34 (e ∙ q)) (λ q. n59 (e ∙ q)) (rw (← e) f)
        ∙ bare-word r s o (rw (← e) (other_none b d n46))
