-- Proved: the rendering of a number that keeps the limits, by itself, is one token in either reading, of kind 14, or 15 with uncertainty, and fills it (number-whole).
-- Assumes nothing.
use Prim.Native.Nat.{ℕ, zero, suc, ◌+◌, ◌-◌, ◌≤◌, ◌<◌}
use mathlib.Core.Bool.{true≢false, Bool, true, false, cond}
use mathlib.Core.Path.{◌≡◌, refl, sym, ap, ◌∙◌, subst}
use mathlib.Core.List.{List, [], ◌∷◌, ◌++◌}
use native.Mathlib.Omega.{arith}
use borrow.Author.Tests.{eqb-true, eqb-false, leb-true}
use lib.Dec.{leb, eqb}
use lib.ListN.{length, take}
use lib.Seq.{take-length}
use Rattle.rules.specs.declared.Reading.{Reading}
use Rattle.rules.specs.declared.Reading.TheVariants.{First, Strict}
use Rattle.text.specs.Bytes.{is_digit, is_space, is, ends_word}
use Rattle.text.specs.Runs.{span}
use Rattle.text.proofs.Bools.{and_l, and_r}
use Rattle.words.specs.Words.{is_ordinary, word, in_word}
use Rattle.folding.specs.Folding.{lower}
use Rattle.keywords.specs.Keywords.{starts, is_word, key_data, key_global, key_loop, key_save, key_stop}
use Rattle.numbers.specs.Parts.{is_empty, absent, Parts, parts, written, is_numeric, counts_as}
use Rattle.numbers.specs.declared.Decimal.{Decimal}
use Rattle.numbers.specs.Cif.{all_digits}
use Rattle.numbers.specs.Spelling.{plain, sign_bytes, unc_bytes, render_number, Kept}
use Rattle.numbers.proofs.Made.{all, others, number-made}
use Rattle.numbers.proofs.Spell.{parts-spell}
use Rattle.numbers.proofs.Spelled.{unc_part, exp_part, frac_part, sign-bytes, exp-spells, frac-spells, digits-plain, some-plain, number_is, number-within, number-here}
use Rattle.values.specs.Values.{value, lexed, number_or, word_or, lex_value}
use Rattle.grammar.specs.Tokens.{Mode, lex_in}

-- what holds of each number below n
abbrev pub All : (ℕ → Type 0) → ℕ → Type 0
All P zero = Unit {0}
All P (suc n) = P n × All P n

all-below : (P : ℕ → Type 0) (n : ℕ) → All P n → (k : ℕ) → k < n → P k
all-below P zero a k h = absurd (omega arith)
all-below P (suc n) a k h = go (eqb k n) refl (all-below P n a.1 k)
  where
    go : (t : Bool) → eqb k n ≡ t → (k < n → P k) → P k
    go true q r = subst P (sym (eqb-true k n q)) a.0
    go false q r = let d : ¬ (k ≡ n) = eqb-false k n q in r (omega arith)

-- what holds of the ten digits holds of each digit
pub digit-cases : (P : ℕ → Type 0) → All (λ k. P (48 + k)) 10 → (b : ℕ) → is_digit b ≡ true → P b
unfolding is_digit
digit-cases P a b e =
    let lo : 48 ≤ b = leb-true 48 b (and_l (leb 48 b) (leb b 57) e) in
    let hi : b ≤ 57 = leb-true b 57 (and_r (leb 48 b) (leb b 57) e) in
    let q : 48 + (b - 48) ≡ b = omega arith in
    subst P q (all-below (λ k. P (48 + k)) 10 a (b - 48) (omega arith))

rendered-in_word : (d : Decimal) → all in_word (render_number d) ≡ true
unfolding all others in_word ends_word
rendered-in_word d = number-made in_word refl refl (render_number d) (number_is d)

word-all : (w : List ℕ) → all in_word w ≡ true → word w ≡ length w
unfolding all word span
word-all [] e = refl
word-all (b ∷ w) e = rw (and_l (in_word b) (all in_word w) e) (ap suc (word-all w (and_r (in_word b) (all in_word w) e)))

-- a word that starts with a digit or `-` is bare text or a number
StartsBare : Reading → Mode → List ℕ → ℕ → Type 0
StartsBare r m s b = lex_in r 10 m (b ∷ s) ≡ word_or r (lexed (value 10) (word (b ∷ s))) (b ∷ s)

minus-bare : (r : Reading) (m : Mode) (s : List ℕ) → StartsBare r m s 45
unfolding StartsBare lex_in starts is_word key_data key_global key_stop key_loop key_save lower is is_space lex_value is_ordinary
minus-bare First m s = refl
minus-bare Strict m s = refl

digit-bare : (r : Reading) (m : Mode) (s : List ℕ) (b : ℕ) → is_digit b ≡ true → StartsBare r m s b
unfolding StartsBare lex_in starts is_word key_data key_global key_stop key_loop key_save lower is is_space lex_value is_ordinary
digit-bare First m s = digit-cases (λ b. StartsBare First m s b) (refl, (refl, (refl, (refl, (refl, (refl, (refl, (refl, (refl, (refl, tt))))))))))
digit-bare Strict m s = digit-cases (λ b. StartsBare Strict m s b) (refl, (refl, (refl, (refl, (refl, (refl, (refl, (refl, (refl, (refl, tt))))))))))

module _ (r : Reading) (m : Mode) where
  Bare : List ℕ → Type 0
  Bare w = lex_in r 10 m w ≡ word_or r (lexed (value 10) (word w)) w

  digits-bare : (p q : List ℕ) → is_empty p ≡ false → all_digits p ≡ true → Bare (p ++ q)
  unfolding is_empty all_digits StartsBare Bare
  digits-bare [] q n a = absurd (true≢false n)
  digits-bare (d ∷ p) q n a = digit-bare r m (p ++ q) d (and_l (is_digit d) (all_digits p) a)

  number-bare : (d : Decimal) → Bare (render_number d)
  unfolding render_number StartsBare sign_bytes Bare
  number-bare d = go d.minus (plain d.integer) _ (some-plain d.integer) (digits-plain d.integer)
    where
      go : (b : Bool) (p q : List ℕ) → is_empty p ≡ false → all_digits p ≡ true → Bare (sign_bytes b ++ (p ++ q))
      go true p q n a = minus-bare r m (p ++ q)
      go false p q n a = digits-bare p q n a

some_bytes : (a p r : List ℕ) → is_empty p ≡ false → 0 < length (a ++ (p ++ r))
unfolding is_empty
some_bytes [] [] r n = absurd (true≢false n)
some_bytes [] (d ∷ p) r n = omega arith
some_bytes (b ∷ a) p r n = omega arith

pub number_size : (d : Decimal) → 0 < length (render_number d)
unfolding render_number
number_size d = some_bytes (sign_bytes d.minus) (plain d.integer) _ (some-plain d.integer)

-- its parts
rendered : Decimal → Parts
rendered d =
    record {
      sgn = sign_bytes d.minus;
      int = plain d.integer;
      frac = frac_part d.places d.fraction;
      exp = exp_part d.lowers d.exponent (unc_bytes d.uncertain d.uncertainty);
      unc = unc_part d.uncertain d.uncertainty;
    }

rendered-parts : (d : Decimal) → parts (render_number d) ≡ rendered d
unfolding render_number rendered
rendered-parts d =
    parts-spell (plain d.integer) (sign-bytes d.minus) (digits-plain d.integer)
    (frac-spells d.places d.fraction (exp-spells d.lowers d.exponent d.uncertain d.uncertainty))

-- it is a number in either reading: an exponent or a bracket that is there has digits
exponent-written : (d : Decimal) → written (parts (render_number d)).exp ≡ true
unfolding written rendered exp_part absent
exponent-written d =
    rw (rendered-parts d)
    (by d.exponent)
  where
    by : (e : ℕ) → written (exp_part d.lowers e (unc_bytes d.uncertain d.uncertainty)) ≡ true
    by zero = refl
    by (suc e) = rw (some-plain (suc e))

uncertainty-written : (d : Decimal) → written (parts (render_number d)).unc ≡ true
unfolding written rendered unc_part absent
uncertainty-written d =
    rw (rendered-parts d)
    (by d.uncertain)
  where
    by : (b : Bool) → written (unc_part b d.uncertainty) ≡ true
    by true = rw (some-plain d.uncertainty)
    by false = refl

number_counts : (r : Reading) (d : Decimal) → counts_as r (parts (render_number d)) ≡ true
unfolding is_numeric
number_counts First d = number_is d
number_counts Strict d = rw (number_is d, exponent-written d, uncertainty-written d)

-- THE NUMBER'S TOKEN: its rendering alone is read whole, as kind 14 or 15
pub number-whole : (r : Reading) (m : Mode) (d : Decimal) → Kept d → lex_in r 10 m (render_number d) ≡ lexed (value (cond d.uncertain 15 14)) (length (render_number d))
unfolding word_or number_or Bare
number-whole r m d k =
    let w = render_number d in
    let e : word w ≡ length w = word-all w (rendered-in_word d) in
    let t : take (word w) w ≡ w = rw e (take-length w) in
    number-bare r m d ∙ rw (t, number_counts r d, number-within d k, number-here d, e)
