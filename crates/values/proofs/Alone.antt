-- Laws of bytes that are one value alone: a content between its marks is one just where it keeps the rule of its kind (no mark and no line end in quotes, in the strict
-- reading no mark before space; a line end at its end, and no `;` behind one before, in a text field); a bare value by the answer there. Assumes nothing.
use Prim.Native.Nat.{ℕ, suc, ◌-◌, ◌≤◌, ◌<◌}
use mathlib.Core.Path.{◌≡◌, refl, sym, ap, ap₂, ◌∙◌}
use mathlib.Core.Bool.{true, false, ◌&&◌, and-false, true≢false, false≢true}
use mathlib.Core.List.{List, [], ◌∷◌, ◌++◌}
use mathlib.Core.Option.{Option, none, some}
use native.Mathlib.Omega.{arith}
use borrow.Author.Tests.{eq-eqb, ne_eqb, eqb-true}
use lib.Dec.{eqb, eqb-suc-suc}
use lib.ListN.{length, get_or, length-append}
use Rattle.rules.specs.declared.Reading.{Reading}
use Rattle.rules.specs.declared.Reading.TheVariants.{First, Strict}
use Rattle.text.specs.Bytes.{is, is_eol, is_space}
use Rattle.text.proofs.Bools.{and_l, and_r, never_true}
use Rattle.columns.specs.Before.{byte_before}
use Rattle.columns.proofs.Before.{before-start}
use Rattle.words.specs.Words.{word}
use Rattle.keywords.proofs.Keywords.{reserved-low}
use Rattle.std.specs.Prelude.{Some, None}
use Rattle.quotes.specs.Quotes.{quoted, strict_quoted, field}
use Rattle.quotes.specs.Answers.{field_end}
use Rattle.quotes.specs.Content.{plain, strict_plain, last_eol, ends_at, is_none}
use Rattle.quotes.proofs.Quotes.{field-behind, field-nothing}
use Rattle.quotes.proofs.Content.{quoted-plain, strict-plain, field-content, last-eol, last_none}
use Rattle.found.specs.declared.Found.TheVariants.{Value}
use Rattle.values.specs.Values.{Reason, open_quote, open_field, Class, block, loop, save, tag, value, over_limit, nothing, Lexed, lexed, closed, lex_value, lex_as_value}
use Rattle.values.specs.Finding.{found_at}
use Rattle.values.specs.Alone.{is_kind, is_alone}
use Rattle.values.proofs.Laws.{as-value-end, found-token, found_none, highest, value-lies}
use Rattle.values.proofs.Views.{Read, missing, point, unknown, bare, quote, double, multi, number, over, view}

-- behind an opening mark stands what its search finds
pub single-value : (s : List ℕ) → lex_as_value First 10 (39 ∷ s) ≡ closed 11 open_quote (quoted 39 s)
unfolding lex_as_value lex_value is
single-value s = rw (reserved-low First (39 ∷ s) 0 (omega arith) (omega arith))

pub double-value : (s : List ℕ) → lex_as_value First 10 (34 ∷ s) ≡ closed 12 open_quote (quoted 34 s)
unfolding lex_as_value lex_value is
double-value s = rw (reserved-low First (34 ∷ s) 0 (omega arith) (omega arith))

pub field-value : (r : Reading) (s : List ℕ) → lex_as_value r 10 (59 ∷ s) ≡ closed 13 open_field (field s)
unfolding lex_as_value lex_value is is_eol is_space
field-value First s = rw (reserved-low First (59 ∷ s) 0 (omega arith) (omega arith))
field-value Strict s = rw (reserved-low Strict (59 ∷ s) 0 (omega arith) (omega arith))

-- in the strict reading a quoted value has one kind, and a `;` that is not in column 1 starts a bare one
pub strict-single-value : (s : List ℕ) → lex_as_value Strict 10 (39 ∷ s) ≡ closed 21 open_quote (strict_quoted 39 s)
unfolding lex_as_value lex_value is is_space
strict-single-value s = rw (reserved-low Strict (39 ∷ s) 0 (omega arith) (omega arith))

pub strict-double-value : (s : List ℕ) → lex_as_value Strict 10 (34 ∷ s) ≡ closed 21 open_quote (strict_quoted 34 s)
unfolding lex_as_value lex_value is is_space
strict-double-value s = rw (reserved-low Strict (34 ∷ s) 0 (omega arith) (omega arith))

pub semicolon-value : (s : List ℕ) → lex_as_value Strict 32 (59 ∷ s) ≡ lexed (value 10) (word (59 ∷ s))
unfolding lex_as_value lex_value is is_eol is_space
semicolon-value s = rw (reserved-low Strict (59 ∷ s) 0 (omega arith) (omega arith))

-- it takes in so many bytes just where the search answers so
closed-ends : (k n : ℕ) (why : Reason) (r : Option ℕ) → (is_kind k (closed k why r).class && eqb (closed k why r).size (suc n)) ≡ ends_at n r
unfolding is_kind closed lexed
closed-ends k n why none = refl
closed-ends k n why (some m) = rw (eq-eqb k k refl, eqb-suc-suc m n)

-- one byte behind a list
behind : (m : ℕ) (c : List ℕ) → length (c ++ (m ∷ [])) ≡ suc (length c)
behind m c = rw length-append (omega arith)

-- a content in quotes
pub alone-single : (c : List ℕ) → plain 39 c ≡ is_alone First 10 11 (39 ∷ (c ++ (39 ∷ [])))
unfolding is_alone
alone-single c = sym (rw (single-value, behind 39 c) (closed-ends 11 (suc (length c)) _ (quoted 39 (c ++ (39 ∷ []))) ∙ quoted-plain 39 c))

pub alone-double : (c : List ℕ) → plain 34 c ≡ is_alone First 10 12 (34 ∷ (c ++ (34 ∷ [])))
unfolding is_alone
alone-double c = sym (rw (double-value, behind 34 c) (closed-ends 12 (suc (length c)) _ (quoted 34 (c ++ (34 ∷ []))) ∙ quoted-plain 34 c))

-- in the quotes of the strict reading
pub strict-single : (c : List ℕ) → strict_plain false 39 c ≡ is_alone Strict 10 21 (39 ∷ (c ++ (39 ∷ [])))
unfolding is_alone is_space
strict-single c = sym (rw (strict-single-value, behind 39 c) (closed-ends 21 (suc (length c)) _ (strict_quoted 39 (c ++ (39 ∷ []))) ∙ strict-plain 39 refl c))

pub strict-double : (c : List ℕ) → strict_plain false 34 c ≡ is_alone Strict 10 21 (34 ∷ (c ++ (34 ∷ [])))
unfolding is_alone is_space
strict-double c = sym (rw (strict-double-value, behind 34 c) (closed-ends 21 (suc (length c)) _ (strict_quoted 34 (c ++ (34 ∷ []))) ∙ strict-plain 34 refl c))

-- behind a `;` that is not in column 1
pub alone-semicolon : (s : List ℕ) → is_alone Strict 32 10 (59 ∷ s) ≡ eqb (word (59 ∷ s)) (length (59 ∷ s))
unfolding is_alone is_kind lexed
alone-semicolon s = rw semicolon-value

-- a content between the marks of a text field
alone-field : (r : Reading) (c : List ℕ) → is_alone r 10 13 (59 ∷ (c ++ (59 ∷ []))) ≡ (is_none (field c) && last_eol false c)
unfolding is_alone
alone-field r c = rw (field-value, behind 59 c) (closed-ends 13 (suc (length c)) _ (field (c ++ (59 ∷ []))) ∙ field-content c)

-- an empty one, one that does not end in a line end, one that is closed before its end, and any other
module _ (r : Reading) (c : List ℕ) where
  pub field-empty : length c ≡ 0 → is_alone r 10 13 (59 ∷ (c ++ (59 ∷ []))) ≡ false
  field-empty h = alone-field r c ∙ rw (last_none c h) (and-false (is_none (field c)))

  pub field-mid : (length c ≡ 0 → ⊥) → is_eol (get_or c (length c - 1) 0) ≡ false → is_alone r 10 13 (59 ∷ (c ++ (59 ∷ []))) ≡ false
  field-mid h e = alone-field r c ∙ rw (last-eol false c h, e) (and-false (is_none (field c)))

  pub field-closed : (n : ℕ) → field_end c 0 ≡ Some n → is_alone r 10 13 (59 ∷ (c ++ (59 ∷ []))) ≡ false
  field-closed n e = alone-field r c ∙ rw (field-behind c 0 n e).1

  pub field-whole : (length c ≡ 0 → ⊥) → is_eol (get_or c (length c - 1) 0) ≡ true → field_end c 0 ≡ None → is_alone r 10 13 (59 ∷ (c ++ (59 ∷ []))) ≡ true
  field-whole h e f = alone-field r c ∙ rw (field-nothing c 0 f, last-eol false c h, e)

  -- it is not empty, and ends in a line end
  pub field-some : is_alone r 10 13 (59 ∷ (c ++ (59 ∷ []))) ≡ true → length c ≡ 0 → ⊥
  field-some h z = true≢false (sym h ∙ field-empty z)

  pub field-last : is_alone r 10 13 (59 ∷ (c ++ (59 ∷ []))) ≡ true → is_eol (get_or c (length c - 1) 0) ≡ true
  field-last h = sym (last-eol false c (field-some h)) ∙ and_r (is_none (field c)) (last_eol false c) (sym (alone-field r c) ∙ h)

-- a bare value: by the token that is found, and none where another answer is given
module _ (r : Reading) (c : List ℕ) where
  start : byte_before c 0 ≡ 10
  start = before-start c 0 (omega arith)

  pub bare-value : (k n : ℕ) → found_at r c 0 ≡ Value k n → is_alone r 10 10 c ≡ (eqb k 10 && eqb n (length c))
  unfolding is_alone is_kind lexed
  bare-value k n e = let q : lex_as_value r 10 c ≡ lexed (value k) n = rw start at (found-token r c 0 k n e) in rw q

  pub bare-other : ((k n : ℕ) → found_at r c 0 ≡ Value k n → ⊥) → is_alone r 10 10 c ≡ false
  unfolding is_alone is_kind
  bare-other h = by (lex_as_value r 10 c).class (λ k e. found_none r c 0 h k (rw start e))
    where
      by : (x : Class) → ((k : ℕ) → x ≡ value k → ⊥) → (is_kind 10 x && eqb (lex_as_value r 10 c).size (length c)) ≡ false
      by (value k) f = absurd (f k refl)
      by over_limit f = refl
      by block f = refl
      by loop f = refl
      by save f = refl
      by tag f = refl
      by (nothing w) f = refl

-- the token that bytes are alone
kind-is : (k : ℕ) (x : Class) → is_kind k x ≡ true → x ≡ value k
unfolding is_kind
kind-is k (value j) e = ap value (eqb-true j k e)
kind-is k over_limit e = absurd (false≢true e)
kind-is k block e = absurd (false≢true e)
kind-is k loop e = absurd (false≢true e)
kind-is k save e = absurd (false≢true e)
kind-is k tag e = absurd (false≢true e)
kind-is k (nothing w) e = absurd (false≢true e)

module _ (r : Reading) (p k : ℕ) (w : List ℕ) (h : is_alone r p k w ≡ true) where
  pub alone-token : lex_as_value r p w ≡ lexed (value k) (length w)
  unfolding is_alone lexed
  alone-token =
      let c : (lex_as_value r p w).class ≡ value k = kind-is k (lex_as_value r p w).class (and_l (is_kind k (lex_as_value r p w).class) _ h) in
      let n : (lex_as_value r p w).size ≡ length w = eqb-true (lex_as_value r p w).size (length w) (and_r (is_kind k (lex_as_value r p w).class) _ h) in
      ap₂ lexed c n

  -- its kind is one of the reading's; only a text field ends a line
  pub alone-high : k ≤ highest r
  alone-high = (value-lies r p w k (length w) alone-token).high

  pub alone-plain : (k ≡ 13 → ⊥) → (j : ℕ) → j < length w → is_eol (get_or w j 0) ≡ false
  alone-plain f = (value-lies r p w k (length w) alone-token).plain f

-- no bytes are none
pub alone-none : (r : Reading) (p k : ℕ) → is_alone r p k [] ≡ false
unfolding is_alone is_kind lexed
alone-none r p k = rw (as-value-end r p)

-- the first reading has no kind 21
pub first-quoted : (p : ℕ) (w : List ℕ) → is_alone First p 21 w ≡ false
first-quoted p w = never_true (is_alone First p 21 w) (λ h. let l = alone-high First p 21 w h in omega arith)

-- the strict one has neither 11 nor 12
kind-not : (k : ℕ) → 11 ≤ k → k ≤ 12 → (w : List ℕ) (x : Lexed) → Read Strict w x → is_kind k x.class ≡ false
unfolding is_kind lexed
kind-not k l u w _ (missing y) = refl
kind-not k l u w _ (point t q) = ne_eqb 8 k (λ e. omega arith)
kind-not k l u w _ (unknown t q) = ne_eqb 9 k (λ e. omega arith)
kind-not k l u w _ (bare h) = ne_eqb 10 k (λ e. omega arith)
kind-not k l u w _ (quote t n q e) = ne_eqb 21 k (λ e. omega arith)
kind-not k l u w _ (double t n q e) = ne_eqb 21 k (λ e. omega arith)
kind-not k l u w _ (multi t n q e) = ne_eqb 13 k (λ e. omega arith)
kind-not k l u w _ (number true e q h) = ne_eqb 15 k (λ e. omega arith)
kind-not k l u w _ (number false e q h) = ne_eqb 14 k (λ e. omega arith)
kind-not k l u w _ (over h) = refl

pub strict-by-mark : (p k : ℕ) → 11 ≤ k → k ≤ 12 → (w : List ℕ) → is_alone Strict p k w ≡ false
unfolding is_alone
strict-by-mark p k l u w = rw (kind-not k l u w (lex_as_value Strict p w) (view Strict p w))

-- and 21 only behind a mark
pub strict-other : (p b : ℕ) (s : List ℕ) → (b ≡ 39 → ⊥) → (b ≡ 34 → ⊥) → is_alone Strict p 21 (b ∷ s) ≡ false
unfolding is_alone is_kind lexed
strict-other p b s f g = rw (by (lex_as_value Strict p (b ∷ s)) (view Strict p (b ∷ s)))
  where
    first : (c : ℕ) (t : List ℕ) → b ∷ s ≡ c ∷ t → b ≡ c
    first c t q = ap (λ w. get_or w 0 0) q

    by : (x : Lexed) → Read Strict (b ∷ s) x → is_kind 21 x.class ≡ false
    by _ (missing y) = refl
    by _ (point t q) = refl
    by _ (unknown t q) = refl
    by _ (bare h) = refl
    by _ (quote t n q e) = absurd (f (first 39 t q))
    by _ (double t n q e) = absurd (g (first 34 t q))
    by _ (multi t n q e) = refl
    by _ (number true e q h) = refl
    by _ (number false e q h) = refl
    by _ (over h) = refl
