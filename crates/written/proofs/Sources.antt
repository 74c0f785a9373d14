-- Where the records of a text come from. Proved: each was made of one of its tokens, or ends a loop (sources); it lies within the text, its kind is one that a store has,
-- and the word of a number is one, within the limits (facts). Assumes nothing.
use Prim.Native.Nat.{ℕ, ◌+◌, ◌≤◌, ◌<◌}
use mathlib.Core.Bool.{Bool, true, false}
use mathlib.Core.Path.{◌≡◌, refl, sym, ap, ◌∙◌}
use mathlib.Core.List.{List, [], ◌∷◌, ◌++◌}
use native.Mathlib.Omega.{arith}
use lib.ListN.{length, drop, length-drop}
use Rattle.rules.specs.declared.Reading.{Reading}
use Rattle.rules.specs.declared.Reading.TheVariants.{First, Strict}
use Rattle.columns.specs.Before.{byte_before}
use Rattle.text.specs.Bytes.{ends_word}
use Rattle.words.specs.Words.{in_word}
use Rattle.words.specs.Names.{fits_tag, heading_fits}
use Rattle.kinds.specs.Kinds.{kind_of, number_of, is_value_kind}
use Rattle.kinds.proofs.Marks.{each-value}
use Rattle.values.specs.Values.{Class, block, loop, save, tag, value, Lexed, lexed, lex_as_value}
use Rattle.found.specs.declared.Found.TheVariants.{Value}
use Rattle.values.specs.Answers.{wanted}
use Rattle.values.specs.Finding.{found_at}
use Rattle.values.proofs.Laws.{found-lies, found-value}
use Rattle.grammar.specs.Tokens.{Mode, in_block, in_frame, lex_in, lex}
use Rattle.grammar.specs.Machine.{Rec, loop_end}
use Rattle.grammar.proofs.Fits.{lex-fits}
use Rattle.written.proofs.Lexing.{mode_of, as-value, NumberWord, number_word, Worded, key_tag, tag_word, plain_key, key-word}
use Rattle.written.proofs.Taken.{Took, Tags, opens, named, Rows, first, next, Taken, heading, single, rows, no_rows, opened, further, shut}

-- what holds of each record
pub data Each (P : Rec → Type 0) : List Rec → Type 0 where
  none : Each P []
  also : {r : Rec} {rs : List Rec} → P r → Each P rs → Each P (r ∷ rs)

each_append : {P : Rec → Type 0} {a b : List Rec} → Each P a → Each P b → Each P (a ++ b)
each_append none g = g
each_append (also p h) g = also p (each_append h g)

pub each_map : {P Q : Rec → Type 0} {rs : List Rec} → ((r : Rec) → P r → Q r) → Each P rs → Each Q rs
each_map f none = none
each_map f (also {r = r} p h) = also (f r p) (each_map f h)

-- one more
snoc : {P : Rec → Type 0} {a : List Rec} {r : Rec} → Each P a → P r → Each P (a ++ (r ∷ []))
snoc h p = each_append h (also p none)

-- the token that a record was made of
pub data Source (g : Reading) (s : List ℕ) (r : Rec) : Type 0 where
  of-heading : (m : Mode) → Took g s m block 1 r → heading_fits g r.size ≡ true → Source g s r
  of-opening : Took g s in_block save 2 r → heading_fits g r.size ≡ true → Source g s r
  of-closing : Took g s in_frame save 3 r → Source g s r
  of-tag : (f : Bool) → Took g s (mode_of f) tag 4 r → fits_tag g r.size ≡ true → Source g s r
  of-loop : (f : Bool) → Took g s (mode_of f) loop 5 r → Source g s r
  of-name : (f : Bool) → Took g s (mode_of f) tag 6 r → fits_tag g r.size ≡ true → Source g s r
  of_end : r ≡ loop_end → Source g s r
  of-value : (f : Bool) (k : ℕ) → Took g s (mode_of f) (value k) k r → Source g s r

tags-sources : {g : Reading} {s : List ℕ} {f : Bool} {n : ℕ} {h : List Rec} → Tags g s f n h → Each (Source g s) h
tags-sources {f = f} (opens t) = also (of-loop f t) none
tags-sources {f = f} (named g t w) = snoc (tags-sources g) (of-name f t w)

rows-sources : {g : Reading} {s : List ℕ} {f : Bool} {n j : ℕ} {h : List Rec} → Rows g s f n j h → Each (Source g s) h
rows-sources {f = f} (first k g t) = snoc (tags-sources g) (of-value f k t)
rows-sources {f = f} (next k g t) = snoc (rows-sources g) (of-value f k t)

pub sources : {g : Reading} {s : List ℕ} {f e : Bool} {rs : List Rec} → Taken g s f e rs → Each (Source g s) rs
sources (heading {m = m} t w) = also (of-heading m t w) none
sources {f = f} (single k h g v w) = snoc (snoc (sources h) (of-tag f g v)) (of-value f k w)
sources (rows g r z) = snoc (each_append (sources g) (rows-sources r)) (of_end refl)
sources (no_rows q g t) = snoc (each_append (sources g) (tags-sources t)) (of_end refl)
sources (opened h t w) = snoc (sources h) (of-opening t w)
sources (further {m = m} q h t w) = snoc (sources h) (of-heading m t w)
sources (shut h t) = snoc (sources h) (of-closing t)

-- what is known of a record of a text
pub record Facts (g : Reading) (s : List ℕ) (r : Rec) : Type 0 where
  pub low : 1 ≤ r.kind
  pub known : number_of (kind_of r.kind) ≡ r.kind
  pub within : r.at + r.size ≤ length s
  pub name : r.kind ≡ 6 → 0 < r.size
  pub number : 14 ≤ r.kind → r.kind ≤ 15 → NumberWord g (drop r.at s) r.kind r.size

worded-some : (u : List ℕ) (n : ℕ) → Worded key_tag u n → 0 < n
unfolding key_tag plain_key in_word ends_word
worded-some u n w = omega (arith, w.whole, key-word key_tag u refl w.opens)

-- the value that a token is
pub value_found : (g : Reading) (s : List ℕ) (o k n : ℕ) → lex_as_value g (byte_before s o) (drop o s) ≡ lexed (value k) n → found_at g s o ≡ Value k n
unfolding found_at wanted lexed
value_found g s o k n e = rw e

-- a value's kind is a kind that a store has
pub value-known : (k : ℕ) → is_value_kind k ≡ true → number_of (kind_of k) ≡ k
unfolding kind_of
value-known k v = each-value (λ k. number_of (kind_of k) ≡ k) refl refl refl refl refl refl refl refl refl k v

-- in the block and in frames the first reading knows the tokens of a block
pub lex-in : (g : Reading) (p : ℕ) (f : Bool) (s : List ℕ) → lex g p (mode_of f) s ≡ lex_in g p (mode_of f) s
unfolding mode_of lex
lex-in First p true s = refl
lex-in First p false s = refl
lex-in Strict p f s = refl

module _ {g : Reading} {s : List ℕ} {r : Rec} where
  took-within : {m : Mode} {k : ℕ} (c : Class) → Took g s m c k r → r.at + r.size ≤ length s
  unfolding lexed
  took-within {m} c t =
      let n : (lex g (byte_before s r.at) m (drop r.at s)).size ≡ r.size = ap (λ (x : Lexed). x.size) t.reads in
      omega (arith, lex-fits g (byte_before s r.at) m (drop r.at s), length-drop r.at s, t.within)

  took-facts : {m : Mode} (c : Class) (k : ℕ) → 1 ≤ k → k < 14 → number_of (kind_of k) ≡ k → (k ≡ 6 → 0 < r.size) → Took g s m c k r → Facts g s r
  took-facts c k l h q f t =
      let e = t.kind in
      record { low = omega arith; known = rw e q; within = took-within c t; name = λ q. f (sym e ∙ q); number = λ g. absurd (omega arith) }

  other : {m : Mode} (c : Class) (k : ℕ) → 1 ≤ k → k < 6 → number_of (kind_of k) ≡ k → Took g s m c k r → Facts g s r
  other c k l h q t = took-facts c k l (omega arith) q (λ q. absurd (omega arith)) t

  name-some : (f : Bool) → Took g s (mode_of f) tag 6 r → 0 < r.size
  name-some f t = worded-some (drop r.at s) r.size (tag_word g (byte_before s r.at) (mode_of f) (drop r.at s) r.size (sym (lex-in g (byte_before s r.at) f (drop r.at s)) ∙ t.reads))

  pub value-reads : (f : Bool) (k : ℕ) → Took g s (mode_of f) (value k) k r → lex_as_value g (byte_before s r.at) (drop r.at s) ≡ lexed (value k) r.size
  value-reads f k t = as-value g (byte_before s r.at) (mode_of f) (drop r.at s) k r.size (sym (lex-in g (byte_before s r.at) f (drop r.at s)) ∙ t.reads)

  end-facts : r ≡ loop_end → Facts g s r
  unfolding loop_end kind_of
  end-facts e = rw e (record { low = omega arith; known = refl; within = omega arith; name = λ g. absurd (omega arith); number = λ g. absurd (omega arith) })

  pub facts : Source g s r → Facts g s r
  unfolding kind_of
  facts (of-heading m t w) = other block 1 (omega arith) (omega arith) refl t
  facts (of-opening t w) = other save 2 (omega arith) (omega arith) refl t
  facts (of-closing t) = other save 3 (omega arith) (omega arith) refl t
  facts (of-tag f t w) = other tag 4 (omega arith) (omega arith) refl t
  facts (of-loop f t) = other loop 5 (omega arith) (omega arith) refl t
  facts (of-name f t w) = took-facts tag 6 (omega arith) (omega arith) refl (λ q. name-some f t) t
  facts (of_end e) = end-facts e
  facts (of-value f k t) =
      let v = value-reads f k t in
      let w = value_found g s r.at k r.size v in
      let l = found-lies g s r.at k r.size w in
      let e = t.kind in
      record {
        low = omega (arith, l.low);
        known = rw e (value-known k (found-value g s r.at k r.size w));
        within = took-within (value k) t;
        name = λ q. absurd (omega (arith, l.low));
        number = λ a b. rw e (number_word g (byte_before s r.at) (drop r.at s) k r.size v (omega arith) (omega arith));
      }
