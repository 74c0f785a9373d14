-- Laws of values: what is found says of the token there, where that token lies, and what a number means. Assumes nothing.
use Prim.Native.Nat.{ℕ, zero, suc, ◌+◌, ◌-◌, ◌≤◌, ◌<◌}
use mathlib.Core.Path.{◌≡◌, refl, sym, ap, ◌∙◌}
use mathlib.Core.Bool.{true, false, cond, ◌||◌}
use mathlib.Core.List.{List, [], ◌∷◌}
use mathlib.Core.Option.{some}
use native.Mathlib.Omega.{arith}
use borrow.Author.Tests.{eqb-true, ne_eqb}
use lib.Dec.{eqb}
use lib.ListN.{length, take, drop, get_or, length-drop}
use lib.Seq.{get_or-drop}
use Rattle.rules.specs.declared.Reading.{Reading}
use Rattle.rules.specs.declared.Reading.TheVariants.{First, Strict}
use Rattle.text.specs.Bytes.{is, is_eol}
use Rattle.columns.specs.Before.{byte_before}
use Rattle.words.specs.Words.{word, is_ordinary}
use Rattle.keywords.specs.Keywords.{reserved}
use Rattle.quotes.specs.Quotes.{quoted_by}
use Rattle.words.proofs.Words.{word_end, word_fits, word-plain}
use Rattle.quotes.proofs.Quotes.{Ends, field-ends}
use Rattle.quotes.proofs.Strict.{quoted-ends, quoted-plain}
use Rattle.numbers.specs.Parts.{parts, within}
use Rattle.numbers.specs.Meaning.{meaning, number_of}
use Rattle.numbers.specs.declared.Number.TheVariants.{Is}
use Rattle.numbers.proofs.Facts.{is-number}
use Rattle.numbers.proofs.Judged.{meaning-uncertain}
use Rattle.numbers.specs.declared.Decimal.{Decimal}
use Rattle.kinds.specs.Kinds.{kind_of, marks_of, is_value_kind}
use Rattle.kinds.proofs.Marks.{value-kind, value-marks}
use Rattle.found.specs.declared.Why.{Why}
use Rattle.values.specs.declared.Value.TheVariants.{Token, Number, Over as OverAnswer, Missing as MissingAnswer}
use Rattle.found.specs.declared.Found.{Found}
use Rattle.found.specs.declared.Found.TheVariants.{Value, Over, Missing}
use Rattle.values.specs.Values.{at_end, reserved_word, no_start, Class, block, loop, save, tag, value, over_limit, nothing, Lexed, lexed, parted, lex_value, lex_as_value}
use Rattle.enclosed.specs.Pieces.{quote_kind}
use Rattle.values.specs.Answers.{why_not, wanted, meant, value_answer, value_at}
use Rattle.values.specs.Finding.{found_at}
use Rattle.found.specs.Packing.{why_found}
use Rattle.unquoted.specs.Pieces.{kind_of_number}
use Rattle.values.proofs.Views.{Read, missing, point, unknown, bare, quote, double, multi, number, over, view}

-- What is found, and the token that stands there

never : {A : Type 0} → ◌≡◌ {A = ℕ} 0 1 → A
never e = absurd (omega arith)

wanted-value : (c : Class) (m k n : ℕ) → wanted c m ≡ Value k n → (c ≡ value k) × (m ≡ n)
unfolding wanted
wanted-value (value j) m k n e =
    let a : j ≡ k = cc in
    let b : m ≡ n = cc in
    (rw a, b)
wanted-value over_limit m k n e = never (cc)
wanted-value block m k n e = never (cc)
wanted-value loop m k n e = never (cc)
wanted-value save m k n e = never (cc)
wanted-value tag m k n e = never (cc)
wanted-value (nothing w) m k n e = never (cc)

-- why none is found where a token stands
pub wanted-why : (c : Class) (n : ℕ) → why_not c ≡ why_found (wanted c n)
unfolding why_not wanted
wanted-why (value j) n = refl
wanted-why over_limit n = refl
wanted-why block n = refl
wanted-why loop n = refl
wanted-why save n = refl
wanted-why tag n = refl
wanted-why (nothing r) n = refl

-- what is found is what the token there is, as a value
pub found-as-value : (r : Reading) (s : List ℕ) (o : ℕ) → found_at r s o ≡ wanted (lex_as_value r (byte_before s o) (drop o s)).class (lex_as_value r (byte_before s o) (drop o s)).size
unfolding found_at
found-as-value r s o = refl

-- that token: none at the end, none where a reserved word stands, and else by its first byte
pub as-value-end : (r : Reading) (p : ℕ) → lex_as_value r p [] ≡ lexed (nothing at_end) 0
unfolding lex_as_value
as-value-end r p = refl

pub as-value : (r : Reading) (p b : ℕ) (s : List ℕ) → lex_as_value r p (b ∷ s) ≡ parted r p (cond (reserved r (b ∷ s)) (lexed (nothing reserved_word) 0) (lex_value r p b s))
unfolding lex_as_value
as-value r p b s = refl

-- the first reading does not ask for the byte before
pub first-anywhere : (p q b : ℕ) (s : List ℕ) → lex_value First p b s ≡ lex_value First q b s
unfolding lex_value
first-anywhere p q b s = refl

pub first-as-value : (p q : ℕ) (s : List ℕ) → lex_as_value First p s ≡ lex_as_value First q s
unfolding lex_as_value lex_value
first-as-value p q [] = refl
first-as-value p q (b ∷ s) = refl

-- a tag is no value
pub tag-none : (r : Reading) (p b : ℕ) (s : List ℕ) → is 95 b ≡ true → lex_value r p b s ≡ lexed (nothing no_start) 0
unfolding is lex_value is_ordinary
tag-none r p b s e = rw (eqb-true b 95 e)

-- a value is found where its token stands
pub found-token : (r : Reading) (s : List ℕ) (o k n : ℕ) → found_at r s o ≡ Value k n → lex_as_value r (byte_before s o) (drop o s) ≡ lexed (value k) n
unfolding found_at lexed
found-token r s o k n e = by (lex_as_value r (byte_before s o) (drop o s)) e
  where
    by : (x : Lexed) → wanted x.class x.size ≡ Value k n → x ≡ record { class = value k; size = n }
    by x q =
        let w = wanted-value x.class x.size k n q in
        rw (← w.0, ← w.1)

-- and nowhere else
pub found_none : (r : Reading) (s : List ℕ) (o : ℕ) → ((k n : ℕ) → found_at r s o ≡ Value k n → ⊥) → (k : ℕ) → (lex_as_value r (byte_before s o) (drop o s)).class ≡ value k → ⊥
unfolding found_at wanted
found_none r s o h k e = h k (lex_as_value r (byte_before s o) (drop o s)).size (rw e)

-- Where a value lies

-- the highest kind of a value
abbrev pub highest : Reading → ℕ
highest First = 15
highest Strict = 21

-- the first n bytes of s are a value of kind k: there is one at least; only a text field ends a line, and it ends with `;`; a quoted value and a field have two marks
pub record Lies (r : Reading) (s : List ℕ) (k n : ℕ) : Type 0 where
  pub low : 8 ≤ k
  pub high : k ≤ highest r
  pub pos : 0 < n
  pub fits : n ≤ length s
  pub plain : (k ≡ 13 → ⊥) → (j : ℕ) → j < n → is_eol (get_or s j 0) ≡ false
  pub last : k ≡ 13 → get_or s (n - 1) 0 ≡ 59
  pub marks : 11 ≤ k → k ≤ 13 → 2 ≤ n

-- kinds that either reading has
common : (r : Reading) (k : ℕ) → k ≤ 15 → k ≤ highest r
common First k h = h
common Strict k h = omega arith

-- one byte that ends no line
lies-one : (r : Reading) (k b : ℕ) (s t : List ℕ) → s ≡ b ∷ t → is_eol b ≡ false → 8 ≤ k → k < 11 → Lies r s k 1
lies-one r k b s t q e l h =
    rw q (record {
      low = l;
      high = common r k (omega arith);
      pos = omega arith;
      fits = omega arith;
      plain = λ f. at;
      last = λ f. absurd (omega arith);
      marks = λ l u. absurd (omega arith);
    })
  where
    at : (j : ℕ) → j < 1 → is_eol (get_or (b ∷ t) j 0) ≡ false
    at zero l = e
    at (suc j) l = absurd (omega arith)

lies_word : (r : Reading) (k : ℕ) (s : List ℕ) → 8 ≤ k → k ≤ 15 → 0 < word s → ((11 ≤ k) × (k ≤ 13) → ⊥) → Lies r s k (word s)
lies_word r k s l u h f =
    record {
      low = l;
      high = common r k u;
      pos = h;
      fits = word_fits s;
      plain = λ g j l. word-plain s 0 j (omega arith) (omega (arith, word_end s 0));
      last = λ g. absurd (f (omega arith, omega arith));
      marks = λ l u. absurd (f (l, u));
    }

-- behind its opening mark
lies-closed : (r : Reading) (k m : ℕ) (s t : List ℕ) (n : ℕ) → 8 ≤ k → k ≤ highest r → s ≡ m ∷ t → Ends m t n → ((k ≡ 13 → ⊥) → (j : ℕ) → j < suc n → is_eol (get_or (m ∷ t) j 0) ≡ false) → (k ≡ 13 → m ≡ 59) → Lies r s k (suc n)
lies-closed r k m s t n l h q i p f =
    rw q (record {
      low = l;
      high = h;
      pos = omega arith;
      fits = omega (arith, i.fits);
      plain = p;
      last = λ g. at n i.pos i.last ∙ f g;
      marks = λ l u. omega (arith, i.pos);
    })
  where
    at : (n : ℕ) → 0 < n → get_or t (n - 1) 0 ≡ m → get_or (m ∷ t) (suc n - 1) 0 ≡ m
    at zero h e = absurd (omega arith)
    at (suc n) h e =
        let a : suc n - 1 ≡ n = omega arith in
        let b : suc (suc n) - 1 ≡ suc n = omega arith in
        rw b (rw a at e)

lies-quote : (r : Reading) (k m : ℕ) (s t : List ℕ) (n : ℕ) → 8 ≤ k → k ≤ highest r → (k ≡ 13 → ⊥) → s ≡ m ∷ t → is_eol m ≡ false → quoted_by r m t ≡ some n → Lies r s k (suc n)
lies-quote r k m s t n l h g q e c = lies-closed r k m s t n l h q (quoted-ends r m t n c) (λ f. at) (λ f. absurd (g f))
  where
    at : (j : ℕ) → j < suc n → is_eol (get_or (m ∷ t) j 0) ≡ false
    at zero l = e
    at (suc j) l = quoted-plain r m e t n c j (omega arith)

-- the kind of a quoted value
quote-high : (r : Reading) (k : ℕ) → k ≤ 12 → quote_kind r k ≤ highest r
quote-high First k h = omega arith
quote-high Strict k h = omega arith

quote-low : (r : Reading) (k : ℕ) → 11 ≤ k → 8 ≤ quote_kind r k
quote-low First k h = omega arith
quote-low Strict k h = omega arith

quote-no-field : (r : Reading) (k : ℕ) → k ≤ 12 → quote_kind r k ≡ 13 → ⊥
quote-no-field First k h e = omega arith
quote-no-field Strict k h e = omega arith

read-lies : (r : Reading) (s : List ℕ) (x : Lexed) (k n : ℕ) → Read r s x → x.class ≡ value k → x.size ≡ n → Lies r s k n
unfolding lexed is_eol
read-lies r s _ k n (missing w) e g = never (cc)
read-lies r s _ k n (point t q) e g = let h : 8 ≡ k = cc in rw (← h, ← g) (lies-one r 8 46 s t q refl (omega arith) (omega arith))
read-lies r s _ k n (unknown t q) e g = let h : 9 ≡ k = cc in rw (← h, ← g) (lies-one r 9 63 s t q refl (omega arith) (omega arith))
read-lies r s _ k n (bare p) e g = let h : 10 ≡ k = cc in rw (← h, ← g) (lies_word r 10 s (omega arith) (omega arith) p (λ f. omega arith))
read-lies r s _ k n (quote t m q c) e g = let h : quote_kind r 11 ≡ k = cc in rw (← h, ← g) (lies-quote r (quote_kind r 11) 39 s t m (quote-low r 11 (omega arith)) (quote-high r 11 (omega arith)) (quote-no-field r 11 (omega arith)) q refl c)
read-lies r s _ k n (double t m q c) e g = let h : quote_kind r 12 ≡ k = cc in rw (← h, ← g) (lies-quote r (quote_kind r 12) 34 s t m (quote-low r 12 (omega arith)) (quote-high r 12 (omega arith)) (quote-no-field r 12 (omega arith)) q refl c)
read-lies r s _ k n (multi t m q c) e g = let h : 13 ≡ k = cc in rw (← h, ← g) (lies-closed r 13 59 s t m (omega arith) (common r 13 (omega arith)) q (field-ends t m c) (λ f. absurd (f refl)) (λ f. refl))
read-lies r s _ k n (number true u w p) e g = let h : 15 ≡ k = cc in rw (← h, ← g) (lies_word r 15 s (omega arith) (omega arith) p (λ f. omega arith))
read-lies r s _ k n (number false u w p) e g = let h : 14 ≡ k = cc in rw (← h, ← g) (lies_word r 14 s (omega arith) (omega arith) p (λ f. omega arith))
read-lies r s _ k n (over p) e g = never (cc)

pub value-lies : (r : Reading) (p : ℕ) (s : List ℕ) (k n : ℕ) → lex_as_value r p s ≡ lexed (value k) n → Lies r s k n
unfolding lexed
value-lies r p s k n e = read-lies r s (lex_as_value r p s) k n (view r p s) (ap (λ (x : Lexed). x.class) e) (ap (λ (x : Lexed). x.size) e)

-- the same at an offset
module _ (r : Reading) (s : List ℕ) (o k n : ℕ) (i : Lies r (drop o s) k n) where
  pub lies_within : o + n ≤ length s
  lies_within = omega (arith, i.pos, i.fits, length-drop o s)

  pub lies-plain : (k ≡ 13 → ⊥) → (j : ℕ) → o ≤ j → j < o + n → is_eol (get_or s j 0) ≡ false
  lies-plain f j l u =
      let e : o + (j - o) ≡ j = omega arith in
      rw (← e, ← get_or-drop o s (j - o) 0) (i.plain f (j - o) (omega arith))

  pub lies-last : k ≡ 13 → get_or s (o + n - 1) 0 ≡ 59
  lies-last f =
      let e : o + (n - 1) ≡ o + n - 1 = omega (arith, i.pos) in
      rw (← e, ← get_or-drop o s (n - 1) 0) (i.last f)

-- where a value that is found lies
pub found-lies : (r : Reading) (s : List ℕ) (o k n : ℕ) → found_at r s o ≡ Value k n → Lies r (drop o s) k n
found-lies r s o k n e = value-lies r (byte_before s o) (drop o s) k n (found-token r s o k n e)

-- a value is no longer than its text
pub found_within : (r : Reading) (s : List ℕ) (o k n : ℕ) → found_at r s o ≡ Value k n → o + n ≤ length s
found_within r s o k n e = lies_within r s o k n (found-lies r s o k n e)

-- What a number that is found means

-- its bytes are a number; its kind goes by its meaning, and it keeps the limits
pub record NumberFound (r : Reading) (s : List ℕ) (k n : ℕ) : Type 0 where
  pub number : number_of r (take n s) ≡ Is (meaning (parts (take n s)))
  pub kind : k ≡ kind_of_number (meaning (parts (take n s)))
  pub kept : within (parts (take n s)) ≡ true

-- a quoted value is no number
quote-kind : (r : Reading) (k : ℕ) → k ≤ 12 → 14 ≤ quote_kind r k → quote_kind r k ≤ 15 → ⊥
quote-kind First k h l u = omega arith
quote-kind Strict k h l u = omega arith

read_number : (r : Reading) (s : List ℕ) (x : Lexed) (k n : ℕ) → Read r s x → x.class ≡ value k → x.size ≡ n → 14 ≤ k → k ≤ 15 → NumberFound r s k n
unfolding lexed
read_number r s _ k n (missing w) e g l z = never (cc)
read_number r s _ k n (point t q) e g l z = let h : 8 ≡ k = cc in absurd (omega arith)
read_number r s _ k n (unknown t q) e g l z = let h : 9 ≡ k = cc in absurd (omega arith)
read_number r s _ k n (bare p) e g l z = let h : 10 ≡ k = cc in absurd (omega arith)
read_number r s _ k n (quote t m q c) e g l z = let h : quote_kind r 11 ≡ k = cc in absurd (quote-kind r 11 (omega arith) (rw h l) (rw h z))
read_number r s _ k n (double t m q c) e g l z = let h : quote_kind r 12 ≡ k = cc in absurd (quote-kind r 12 (omega arith) (rw h l) (rw h z))
read_number r s _ k n (multi t m q c) e g l z = let h : 13 ≡ k = cc in absurd (omega arith)
read_number r s _ k n (number true u w p) e g l z =
    let h : 15 ≡ k = cc in
    rw (← h, ← g) (record { number = w; kind = rw (meaning-uncertain (parts (take (word s) s)), u); kept = (is-number r (take (word s) s) _ w).kept })
read_number r s _ k n (number false u w p) e g l z =
    let h : 14 ≡ k = cc in
    rw (← h, ← g) (record { number = w; kind = rw (meaning-uncertain (parts (take (word s) s)), u); kept = (is-number r (take (word s) s) _ w).kept })
read_number r s _ k n (over p) e g l z = never (cc)

-- a value of kind 14 or 15 is a number
pub found_number : (r : Reading) (s : List ℕ) (o k n : ℕ) → found_at r s o ≡ Value k n → 14 ≤ k → k ≤ 15 → NumberFound r (drop o s) k n
unfolding lexed
found_number r s o k n e l u =
    let p : ℕ = byte_before s o in
    let t = found-token r s o k n e in
    read_number r (drop o s) (lex_as_value r p (drop o s)) k n (view r p (drop o s)) (ap (λ (x : Lexed). x.class) t) (ap (λ (x : Lexed). x.size) t) l u

-- a value of a kind from 14 on that is not quoted has kind 14 or 15
read-kind : (r : Reading) (s : List ℕ) (x : Lexed) (k : ℕ) → Read r s x → x.class ≡ value k → (k ≡ 21 → ⊥) → k ≤ 15
unfolding lexed
read-kind r s _ k (missing w) e g = never (cc)
read-kind r s _ k (point t q) e g = let h : 8 ≡ k = cc in omega arith
read-kind r s _ k (unknown t q) e g = let h : 9 ≡ k = cc in omega arith
read-kind r s _ k (bare p) e g = let h : 10 ≡ k = cc in omega arith
read-kind First s _ k (quote t m q c) e g = let h : 11 ≡ k = cc in omega arith
read-kind Strict s _ k (quote t m q c) e g = let h : 21 ≡ k = cc in absurd (g (sym h))
read-kind First s _ k (double t m q c) e g = let h : 12 ≡ k = cc in omega arith
read-kind Strict s _ k (double t m q c) e g = let h : 21 ≡ k = cc in absurd (g (sym h))
read-kind r s _ k (multi t m q c) e g = let h : 13 ≡ k = cc in omega arith
read-kind r s _ k (number true u w p) e g = let h : 15 ≡ k = cc in omega arith
read-kind r s _ k (number false u w p) e g = let h : 14 ≡ k = cc in omega arith
read-kind r s _ k (over p) e g = never (cc)

pub found-kind : (r : Reading) (s : List ℕ) (o k n : ℕ) → found_at r s o ≡ Value k n → (k ≡ 21 → ⊥) → k ≤ 15
unfolding lexed
found-kind r s o k n e g =
    let p : ℕ = byte_before s o in
    read-kind r (drop o s) (lex_as_value r p (drop o s)) k (view r p (drop o s)) (ap (λ (x : Lexed). x.class) (found-token r s o k n e)) g

-- it is one of the kinds of values, and has its marks
pub found-value : (r : Reading) (s : List ℕ) (o k n : ℕ) → found_at r s o ≡ Value k n → is_value_kind k ≡ true
found-value r s o k n e = value-kind k (found-lies r s o k n e).low (found-kind r s o k n e)

pub found-marks : (r : Reading) (s : List ℕ) (o k n : ℕ) → found_at r s o ≡ Value k n → marks_of (kind_of k) ≤ n
found-marks r s o k n e = let l = found-lies r s o k n e in value-marks k n (found-value r s o k n e) l.pos l.marks

-- What is found says what the value there is: a number has its meaning, other values are what they are

pub value_found : (r : Reading) (s : List ℕ) (o : ℕ) (f : Found) → found_at r s o ≡ f → value_at r s o ≡ meant (drop o s) f
unfolding found_at value_at value_answer
value_found r s o f e = ap (meant (drop o s)) e

module _ (r : Reading) (s : List ℕ) (o : ℕ) where
  token-kind : (k n : ℕ) → found_at r s o ≡ Value k n → (k ≡ 14 → ⊥) → (k ≡ 15 → ⊥) → Token k n ≡ value_at r s o
  unfolding meant
  token-kind k n e f g = sym (value_found r s o (Value k n) e ∙ rw (ne_eqb k 14 f, ne_eqb k 15 g))

  pub value-token : (k n : ℕ) → found_at r s o ≡ Value k n → k < 14 → Token k n ≡ value_at r s o
  value-token k n e l = token-kind k n e (λ q. omega arith) (λ q. omega arith)

  pub value-quoted : (k n : ℕ) → found_at r s o ≡ Value k n → k ≡ 21 → Token k n ≡ value_at r s o
  value-quoted k n e l = token-kind k n e (λ q. omega arith) (λ q. omega arith)

  pub value-number : (k n : ℕ) (d : Decimal) → found_at r s o ≡ Value k n → 14 ≤ k → (k ≡ 21 → ⊥) → d ≡ meaning (parts (take (o + n - o) (drop o s))) → Number d n ≡ value_at r s o
  unfolding meant
  value-number k n d e l g q =
      let z : o + n - o ≡ n = omega arith in
      sym (value_found r s o (Value k n) e ∙ rw (either k l (found-kind r s o k n e g), rw z at q))
    where
      either : (k : ℕ) → 14 ≤ k → k ≤ 15 → (eqb k 14 || eqb k 15) ≡ true
      either k l h = by (k - 14) (omega arith)
        where
          by : (j : ℕ) → k ≡ 14 + j → (eqb k 14 || eqb k 15) ≡ true
          by zero e = rw e
          by (suc zero) e = rw e
          by (suc (suc j)) e = absurd (omega arith)

  pub value-over : (f : Found) → found_at r s o ≡ f → f ≡ Over → OverAnswer ≡ value_at r s o
  unfolding meant
  value-over f e q = sym (value_found r s o Over (e ∙ q))

  pub value-missing : (w : Why) → found_at r s o ≡ Missing w → MissingAnswer w ≡ value_at r s o
  unfolding meant
  value-missing w e = sym (value_found r s o (Missing w) e)
