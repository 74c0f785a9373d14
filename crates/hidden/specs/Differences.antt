-- Two texts that differ in nothing that an outline may show: they are as long as each other, and at each place stands the same byte, or a digit in both, or, inside a
-- recorded quoted value or text field, a byte that is no mark in both. Assumes nothing.
use Rattle.std.specs.Prelude.{ℕ, suc, ◌+◌, ◌<◌, ◌≡◌, Bool, true, false, ◌&&◌, ◌||◌, List, [], ◌∷◌, leb, ltb, length, get_or}
use Rattle.text.specs.Bytes.{is, is_ascii, is_digit, is_eol}
use Rattle.grammar.specs.Machine.{Rec}

-- the bytes that open and close values, and line ends: `'`, `"`, `;`, LF, CR
unfoldable pub is_mark : ℕ → Bool
is_mark b = is 39 b || is 34 b || is 59 b || is_eol b

-- the kinds of values that stand between marks: quotes and text fields
unfoldable pub is_quoted : ℕ → Bool
is_quoted k = leb 11 k && leb k 13

-- place i lies between the marks of a record
unfoldable pub inside_rec : Rec → ℕ → Bool
inside_rec r i = is_quoted r.kind && (ltb r.at i && ltb (suc i) (r.at + r.size))

unfoldable pub inside_recs : List Rec → ℕ → Bool
inside_recs [] i = false
inside_recs (r ∷ rs) i = inside_rec r i || inside_recs rs i

-- b may stand for a; I says that the place is inside a value
pub data Swap (I : Type 0) : ℕ → ℕ → Type 0 where
  same : {b : ℕ} → Swap I b b
  digits : {a b : ℕ} → is_digit a ≡ true → is_digit b ≡ true → Swap I a b
  inside : {a b : ℕ} → I → is_mark a ≡ false → is_mark b ≡ false → is_ascii b ≡ true → Swap I a b

-- t may stand for s; I says which places are inside a value
pub record Differ (I : ℕ → Type 0) (s t : List ℕ) : Type 0 where
  pub as_long : length s ≡ length t
  pub bytes : (j : ℕ) → j < length s → Swap (I j) (get_or s j 0) (get_or t j 0)

-- digits alone
unfoldable pub DigitsDiffer : List ℕ → List ℕ → Type 0
DigitsDiffer s t = Differ (λ j. ⊥) s t

-- digits, and what stands inside the values of these records
unfoldable pub ContentsDiffer : List Rec → List ℕ → List ℕ → Type 0
ContentsDiffer rs s t = Differ (λ j. inside_recs rs j ≡ true) s t
