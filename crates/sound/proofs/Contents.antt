-- The contents and numbers of a text that is read keep the rules of a store. Proved: a content could be read as its kind (content-read), and a number's parts keep the
-- limits (parts-kept). Assumes nothing.
use Prim.Native.Nat.{ℕ, zero, suc, ◌+◌, ◌-◌, ◌%◌, ◌^◌, ◌≤◌, ◌<◌}
use mathlib.Core.Bool.{true≢false, false≢true, Bool, true, false, cond}
use mathlib.Core.Path.{◌≡◌, refl, sym, ap, ◌∙◌}
use mathlib.Core.List.{List, [], ◌∷◌, ◌++◌}
use native.Mathlib.Omega.{arith}
use borrow.Author.Tests.{eq-eqb, le-leb, lt-ltb, le-ltb}
use lib.Dec.{eqb}
use lib.ListN.{length, take, drop}
use lib.Seq.{take-suc, drop-drop, length-take-le}
use Rattle.rules.specs.declared.Reading.{Reading}
use Rattle.rules.specs.declared.Reading.TheVariants.{First, Strict}
use Rattle.text.specs.Bytes.{is_ascii, ends_word}
use Rattle.text.specs.Runs.{span}
use Rattle.text.proofs.Bools.{and_l, and_r}
use Rattle.text.proofs.Runs.{span-le}
use Rattle.words.specs.Words.{in_word, word}
use Rattle.keywords.specs.Keywords.{key_data, key_save}
use Rattle.words.proofs.Words.{word_fits}
use Rattle.quotes.proofs.Quotes.{Ends, quote-ends, field-ends}
use Rattle.numbers.specs.declared.Decimal.{Decimal}
use Rattle.numbers.proofs.Made.{all}
use Rattle.numbers.proofs.Facts.{Bounded}
use Rattle.kinds.specs.declared.Kind.{Kind}
use Rattle.kinds.specs.declared.Kind.TheVariants.{NoKind, Block, FrameOpen, FrameClose, Tag, Loop, LoopTag, LoopEnd, Inapplicable, Unknown, Bare, SingleQuoted, DoubleQuoted, Multiline, Number, Uncertain, Quoted}
use Rattle.records.specs.Bytes.{flag}
use Rattle.kinds.specs.Kinds.{kind_of, number_of, shape_of, marks_of, opening, is_content, has_content}
use Rattle.entries.specs.Entries.{stored}
use Rattle.values.specs.Values.{save, tag, value, Lexed, lexed, lex_as_value}
use Rattle.values.proofs.Views.{Read, missing, point, unknown, bare, quote, double, multi, number, over, view}
use Rattle.values.proofs.Laws.{Lies, value-lies, first-as-value, found-value}
use Rattle.columns.specs.Before.{byte_before}
use Rattle.words.specs.Names.{fits_tag, heading_fits}
use Rattle.words.proofs.Words.{word_end, word-plain}
use Rattle.lines.specs.Lines.{screened, is_fine, fits}
use Rattle.lines.proofs.Lines.{fits-screened}
use Rattle.readable.specs.Tokens.{is_bare_field, marked}
use Rattle.readable.specs.Readable.{is_name, readable_by, keeps_lines, is_kept, readable}
use Rattle.readable_strict.specs.Columns.{column_of}
use Rattle.readable_strict.proofs.Kept.{lines-kept}
use Rattle.contents.specs.Contents.{exponent_kept, parts_kept}
use Rattle.values.specs.Alone.{is_kind, is_alone}
use Rattle.grammar.specs.Tokens.{in_block}
use Rattle.grammar.specs.Machine.{Rec, loop_end}
use Rattle.sizes.specs.Sizes.{content_size}
use Rattle.desk.specs.Written.{content_of}
use Rattle.written.proofs.Runs.{all-span, span-all}
use Rattle.written.proofs.Lexing.{mode_of, never, Worded, key_tag, heading-word, opening-word, tag_word, plain_key, key-word}
use Rattle.written.proofs.Taken.{Took}
use Rattle.written.proofs.Sources.{Source, of-heading, of-opening, of-closing, of-tag, of-loop, of-name, of_end, of-value, value-reads, value_found, value-known, lex-in}
use Rattle.sound.proofs.Again.{word-again, alone-again}
use Rattle.sound.proofs.Columns.{Column, column-at, fits-take, fits-left, fits-skip}
use Rattle.sound.proofs.Strict.{bare-alone, bare-first, field-alone, quoted-alone, no-mark}

-- The content of a token of kind k that has so many bytes at an offset

pub record Readable (g : Reading) (s : List ℕ) (k : Kind) (at size : ℕ) : Type 0 where
  pub marked : marks_of k ≤ size
  pub content : is_kept g k (take (size - marks_of k) (drop (at + opening k) s)) ≡ true

-- a name behind its keyword
record Named (s key : List ℕ) (at size : ℕ) : Type 0 where
  marked : length key ≤ size
  name : is_name (take (size - length key) (drop (at + length key) s)) ≡ true
  long : length key + length (take (size - length key) (drop (at + length key) s)) ≡ size

named : (s key : List ℕ) (at size : ℕ) → plain_key key ≡ true → Worded key (drop at s) size → Named s key at size
unfolding is_name
named s key at size p w =
    let v = drop (at + length key) s in
    let n : size ≡ length key + word v = w.whole ∙ key-word key (drop at s) p w.opens ∙ rw (drop-drop (length key) at s) in
    let z : size - length key ≡ word v = omega arith in
    record { marked = omega arith; name = rw z (eq-eqb (word (take (word v) v)) (length (take (word v) v)) (word-again v ∙ sym (length-take-le (word v) v (word_fits v)))); long = rw z (omega (arith, length-take-le (word v) v (word_fits v))) }

-- a value between its marks
record Between (s : List ℕ) (m n : ℕ) : Type 0 where
  two : 2 ≤ n
  token : take n s ≡ m ∷ (take (n - 2) (drop 1 s) ++ (m ∷ []))

between : (m : ℕ) (s t : List ℕ) (n : ℕ) → s ≡ m ∷ t → Ends m t n → Between s m (suc n)
between m s t zero q e = absurd (omega (arith, e.pos))
between m s t (suc n) q e =
    let z : suc (suc n) - 2 ≡ n = omega arith in
    let y : suc n - 1 ≡ n = omega arith in
    record {
      two = omega arith;
      token = rw (q, z) (ap {B = List ℕ} (λ r. m ∷ r) (take-suc t n 0 (omega (arith, e.fits)) ∙ ap (λ (b : ℕ). take n t ++ (b ∷ [])) (rw y at e.last)));
    }

mark_of : ℕ → ℕ
mark_of k = cond (eqb k 11) 39 (cond (eqb k 12) 34 59)

read_between : (s : List ℕ) (x : Lexed) (k n : ℕ) → Read First s x → x.class ≡ value k → x.size ≡ n → 11 ≤ k → k ≤ 13 → Between s (mark_of k) n
unfolding lexed mark_of
read_between s _ k n (missing r) e g l h = never (cc)
read_between s _ k n (point t q) e g l h = let z : 8 ≡ k = cc in absurd (omega arith)
read_between s _ k n (unknown t q) e g l h = let z : 9 ≡ k = cc in absurd (omega arith)
read_between s _ k n (bare p) e g l h = let z : 10 ≡ k = cc in absurd (omega arith)
read_between s _ k n (quote t m q c) e g l h = let z : 11 ≡ k = cc in rw (← z, ← g) (between 39 s t m q (quote-ends 39 t m c))
read_between s _ k n (double t m q c) e g l h = let z : 12 ≡ k = cc in rw (← z, ← g) (between 34 s t m q (quote-ends 34 t m c))
read_between s _ k n (multi t m q c) e g l h = let z : 13 ≡ k = cc in rw (← z, ← g) (between 59 s t m q (field-ends t m c))
read_between s _ k n (number true u w p) e g l h = let z : 15 ≡ k = cc in absurd (omega arith)
read_between s _ k n (number false u w p) e g l h = let z : 14 ≡ k = cc in absurd (omega arith)
read_between s _ k n (over p) e g l h = never (cc)

-- a value taken out of the text is alone what it was
module _ (s : List ℕ) (at n k : ℕ) (e : lex_as_value First 10 (drop at s) ≡ lexed (value k) n) where
  lies : Lies First (drop at s) k n
  lies = value-lies First 10 (drop at s) k n e

  alone : 10 ≤ k → k ≤ 13 → is_alone First 10 k (take n (drop at s)) ≡ true
  unfolding is_alone is_kind lexed
  alone l h =
      let x = alone-again k n l h lies.pos (drop at s) e in
      rw (x, eq-eqb k k refl) (eq-eqb n (length (take n (drop at s))) (sym (length-take-le n (drop at s) lies.fits)))

  alone-between : 11 ≤ k → k ≤ 13 → (2 ≤ n) × (is_alone First 10 k (mark_of k ∷ (take (n - 2) (drop (at + 1) s) ++ (mark_of k ∷ []))) ≡ true)
  unfolding lexed
  alone-between l h =
      let b = read_between (drop at s) (lex_as_value First 10 (drop at s)) k n (view First 10 (drop at s)) (ap (λ (x : Lexed). x.class) e) (ap (λ (x : Lexed). x.size) e) l h in
      (b.two, rw (← drop-drop 1 at s, ← b.token) (alone (omega arith) h))

-- THE CONTENT OF A VALUE
value-readable : (s : List ℕ) (at n : ℕ) (k : Kind) → lex_as_value First 10 (drop at s) ≡ lexed (value (number_of k)) n → is_content (shape_of k) ≡ true → Readable First s k at n
unfolding is_content shape_of marks_of opening readable_by mark_of
value-readable s at n NoKind e c = absurd (false≢true c)
value-readable s at n Block e c = absurd (omega (arith, (lies s at n 1 e).low))
value-readable s at n FrameOpen e c = absurd (omega (arith, (lies s at n 2 e).low))
value-readable s at n FrameClose e c = absurd (false≢true c)
value-readable s at n Tag e c = absurd (omega (arith, (lies s at n 4 e).low))
value-readable s at n Loop e c = absurd (false≢true c)
value-readable s at n LoopTag e c = absurd (omega (arith, (lies s at n 6 e).low))
value-readable s at n LoopEnd e c = absurd (false≢true c)
value-readable s at n Inapplicable e c = absurd (false≢true c)
value-readable s at n Unknown e c = absurd (false≢true c)
value-readable s at n Bare e c =
    let z : n - 0 ≡ n = omega arith in
    let y : at + 0 ≡ at = omega arith in
    record { marked = omega arith; content = rw (z, y) (alone s at n 10 e (omega arith) (omega arith)) }
value-readable s at n SingleQuoted e c = let b = alone-between s at n 11 e (omega arith) (omega arith) in record { marked = b.0; content = b.1 }
value-readable s at n DoubleQuoted e c = let b = alone-between s at n 12 e (omega arith) (omega arith) in record { marked = b.0; content = b.1 }
value-readable s at n Multiline e c = let b = alone-between s at n 13 e (omega arith) (omega arith) in record { marked = b.0; content = b.1 }
value-readable s at n Number e c = absurd (false≢true c)
value-readable s at n Uncertain e c = absurd (false≢true c)
value-readable s at n Quoted e c = absurd (omega (arith, (lies s at n 21 e).high))

-- The same in the strict reading, where the text's lines are fine

module _ (s : List ℕ) (fine : is_fine (screened s) ≡ true) (at : ℕ) (within : at ≤ length s) where
  column : Column s at
  column = column-at s (sym (fits-screened s) ∙ fine) at within

  -- a name fits behind its keyword
  name-fits : (key : List ℕ) (size : ℕ) → plain_key key ≡ true → Worded key (drop at s) size → fits (length key) (take (size - length key) (drop (at + length key) s)) ≡ true
  name-fits key size p w =
      let u = drop at s in
      let n : word u ≡ length key + word (drop (length key) u) = key-word key u p w.opens in
      let x = fits-skip (length key) column.before u column.most (omega (arith, word_fits u)) (λ i l. word-plain u 0 i (omega arith) (omega (arith, word_end u 0))) column.fine in
      rw (← drop-drop (length key) at s)
      (fits-take (size - length key) (length key) (drop (length key) u) (fits-left (length key) (column.before + length key) (drop (length key) u) (omega arith) x.1 x.0))

  -- a token fits at the start of a line
  token-fits : (n : ℕ) → fits 0 (take n (drop at s)) ≡ true
  token-fits n = fits-take n 0 (drop at s) (fits-left 0 column.before (drop at s) (omega arith) column.most column.fine)

  -- and a bare one that starts with `;` behind a space
  bare-fits : (n : ℕ) → lex_as_value Strict (byte_before s at) (drop at s) ≡ lexed (value 10) n → fits (cond (is_bare_field Bare (take n (drop at s))) 1 0) (take n (drop at s)) ≡ true
  bare-fits n e = by (is_bare_field Bare (take n (drop at s))) refl
    where
      by : (x : Bool) → is_bare_field Bare (take n (drop at s)) ≡ x → fits (cond x 1 0) (take n (drop at s)) ≡ true
      by false q = token-fits n
      by true q =
          let l : 0 < column.before = column.right (bare-first (byte_before s at) (drop at s) n e q) in
          fits-take n 1 (drop at s) (fits-left 1 column.before (drop at s) (omega arith) column.most column.fine)

strict-kept : (k : Kind) (c : List ℕ) → readable_by Strict k c ≡ true → fits (column_of k c) c ≡ true → is_kept Strict k c ≡ true
strict-kept k c h f = rw (lines-kept k c h, f) h

strict-readable : (s : List ℕ) (fine : is_fine (screened s) ≡ true) (at n : ℕ) (within : at ≤ length s) (k : Kind) → lex_as_value Strict (byte_before s at) (drop at s) ≡ lexed (value (number_of k)) n → is_content (shape_of k) ≡ true → Readable Strict s k at n
unfolding is_content shape_of marks_of opening readable_by is_bare_field
strict-readable s fine at n within NoKind e c = absurd (false≢true c)
strict-readable s fine at n within Block e c = absurd (omega (arith, (value-lies Strict (byte_before s at) (drop at s) 1 n e).low))
strict-readable s fine at n within FrameOpen e c = absurd (omega (arith, (value-lies Strict (byte_before s at) (drop at s) 2 n e).low))
strict-readable s fine at n within FrameClose e c = absurd (false≢true c)
strict-readable s fine at n within Tag e c = absurd (omega (arith, (value-lies Strict (byte_before s at) (drop at s) 4 n e).low))
strict-readable s fine at n within Loop e c = absurd (false≢true c)
strict-readable s fine at n within LoopTag e c = absurd (omega (arith, (value-lies Strict (byte_before s at) (drop at s) 6 n e).low))
strict-readable s fine at n within LoopEnd e c = absurd (false≢true c)
strict-readable s fine at n within Inapplicable e c = absurd (false≢true c)
strict-readable s fine at n within Unknown e c = absurd (false≢true c)
strict-readable s fine at n within Bare e c =
    let z : n - 0 ≡ n = omega arith in
    let y : at + 0 ≡ at = omega arith in
    record { marked = omega arith; content = rw (z, y) (strict-kept Bare (take n (drop at s)) (bare-alone (byte_before s at) (drop at s) n e) (bare-fits s fine at within n e)) }
strict-readable s fine at n within SingleQuoted e c = absurd (no-mark (byte_before s at) (drop at s) 11 n (omega arith) (omega arith) e)
strict-readable s fine at n within DoubleQuoted e c = absurd (no-mark (byte_before s at) (drop at s) 12 n (omega arith) (omega arith) e)
strict-readable s fine at n within Multiline e c =
    let f = field-alone (byte_before s at) (drop at s) n e in
    record { marked = f.pos; content = rw (← drop-drop 1 at s, f.token, f.alone, fits-screened, token-fits s fine at within n) }
strict-readable s fine at n within Number e c = absurd (false≢true c)
strict-readable s fine at n within Uncertain e c = absurd (false≢true c)
strict-readable s fine at n within Quoted e c =
    let f = quoted-alone (byte_before s at) (drop at s) n e in
    let y : at + 0 ≡ at = omega arith in
    record { marked = f.pos; content = rw (y, f.token, f.alone, fits-screened, token-fits s fine at within n) }

-- by the reading
value-kept : (g : Reading) (s : List ℕ) → keeps_lines g s ≡ true → (at n : ℕ) → at ≤ length s → (k : Kind) → lex_as_value g (byte_before s at) (drop at s) ≡ lexed (value (number_of k)) n → is_content (shape_of k) ≡ true → Readable g s k at n
value-kept First s fine at n within k e c = value-readable s at n k (first-as-value 10 (byte_before s at) (drop at s) ∙ e) c
value-kept Strict s fine at n within k e c = strict-readable s fine at n within k e c

-- a kind whose content stands behind a keyword
pub record NameKind (k : Kind) (key : List ℕ) : Type 0 where
  pub marks : marks_of k ≡ length key
  pub opens : opening k ≡ length key
  pub column : (c : List ℕ) → column_of k c ≡ length key

name-kept : (g : Reading) (s : List ℕ) → keeps_lines g s ≡ true → (at n : ℕ) → at ≤ length s → (k : Kind) (key : List ℕ) → NameKind k key → plain_key key ≡ true → Worded key (drop at s) n
    → ((c : List ℕ) → length key + length c ≡ n → is_name c ≡ true → readable_by g k c ≡ true) → Readable g s k at n
name-kept First s fine at n within k key i p w f =
    let x = named s key at n p w in
    record { marked = rw i.marks x.marked; content = rw (i.marks, i.opens) (f _ x.long x.name) }
name-kept Strict s fine at n within k key i p w f =
    let x = named s key at n p w in
    let c = take (n - length key) (drop (at + length key) s) in
    record { marked = rw i.marks x.marked; content = rw (i.marks, i.opens) (strict-kept k c (f c x.long x.name) (rw (i.column c) (name-fits s fine at within key n p w))) }

-- The content of any record

none_here : {A : Type 0} (k j : ℕ) → k ≡ j → is_content (shape_of (kind_of j)) ≡ false → is_content (shape_of (kind_of k)) ≡ true → A
none_here k j q e c = absurd (true≢false (sym c ∙ ap (λ (n : ℕ). is_content (shape_of (kind_of n))) q ∙ e))

-- what is read as a name of each kind
block-named : (g : Reading) (n : ℕ) → heading_fits g n ≡ true → (c : List ℕ) → 5 + length c ≡ n → is_name c ≡ true → readable_by g Block c ≡ true
unfolding readable_by key_data
block-named g n w c l e = let z : length (key_data ++ c) ≡ n = omega arith in rw (z, w) e

frame-named : (g : Reading) (n : ℕ) → heading_fits g n ≡ true → (c : List ℕ) → 5 + length c ≡ n → is_name c ≡ true → readable_by g FrameOpen c ≡ true
unfolding readable_by key_save
frame-named g n w c l e = let z : length (key_save ++ c) ≡ n = omega arith in rw (z, w) e

tag-named : (g : Reading) (n : ℕ) → fits_tag g n ≡ true → (c : List ℕ) → 1 + length c ≡ n → is_name c ≡ true → readable_by g Tag c ≡ true
unfolding readable_by
tag-named g n w c l e = let z : suc (length c) ≡ n = omega arith in rw (z, w) e

column-named : (g : Reading) (n : ℕ) → fits_tag g n ≡ true → (c : List ℕ) → 1 + length c ≡ n → is_name c ≡ true → readable_by g LoopTag c ≡ true
unfolding readable_by
column-named g n w c l e = let z : suc (length c) ≡ n = omega arith in rw (z, w) e

tag-worded : (g : Reading) (s : List ℕ) (f : Bool) (k : ℕ) (r : Rec) → Took g s (mode_of f) tag k r → Worded key_tag (drop r.at s) r.size
tag-worded g s f k r t =
    let p : ℕ = byte_before s r.at in
    let u : List ℕ = drop r.at s in
    tag_word g p (mode_of f) u r.size (sym (lex-in g p f u) ∙ t.reads)

opening-worded : (g : Reading) (s : List ℕ) (r : Rec) → Took g s in_block save 2 r → Worded key_save (drop r.at s) r.size
unfolding mode_of
opening-worded g s r t =
    let p : ℕ = byte_before s r.at in
    let u : List ℕ = drop r.at s in
    opening-word g p u r.size (sym (lex-in g p false u) ∙ t.reads)

source-readable : {g : Reading} {s : List ℕ} {r : Rec} → keeps_lines g s ≡ true → Source g s r → is_content (shape_of (kind_of r.kind)) ≡ true → Readable g s (kind_of r.kind) r.at r.size
unfolding kind_of shape_of is_content marks_of opening readable_by key_data key_save key_tag plain_key in_word ends_word
source-readable {g} {s} {r} fine (of-heading m t w) c =
    let q : kind_of r.kind ≡ Block = ap kind_of t.kind in
    let i : NameKind Block key_data = record { marks = refl; opens = refl; column = λ c. refl } in
    rw q (name-kept g s fine r.at r.size t.within Block key_data i refl (heading-word g (byte_before s r.at) m (drop r.at s) r.size t.reads) (block-named g r.size w))
source-readable {g} {s} {r} fine (of-opening t w) c =
    let q : kind_of r.kind ≡ FrameOpen = ap kind_of t.kind in
    let i : NameKind FrameOpen key_save = record { marks = refl; opens = refl; column = λ c. refl } in
    rw q (name-kept g s fine r.at r.size t.within FrameOpen key_save i refl (opening-worded g s r t) (frame-named g r.size w))
source-readable {g} {s} {r} fine (of-closing t) c = none_here r.kind 3 t.kind refl c
source-readable {g} {s} {r} fine (of-tag f t w) c =
    let q : kind_of r.kind ≡ Tag = ap kind_of t.kind in
    let i : NameKind Tag key_tag = record { marks = refl; opens = refl; column = λ c. refl } in
    rw q (name-kept g s fine r.at r.size t.within Tag key_tag i refl (tag-worded g s f 4 r t) (tag-named g r.size w))
source-readable {g} {s} {r} fine (of-loop f t) c = none_here r.kind 5 t.kind refl c
source-readable {g} {s} {r} fine (of-name f t w) c =
    let q : kind_of r.kind ≡ LoopTag = ap kind_of t.kind in
    let i : NameKind LoopTag key_tag = record { marks = refl; opens = refl; column = λ c. refl } in
    rw q (name-kept g s fine r.at r.size t.within LoopTag key_tag i refl (tag-worded g s f 6 r t) (column-named g r.size w))
source-readable {g} {s} {r} fine (of_end e) c = none_here r.kind 7 (unfold loop_end in ap (λ (r : Rec). r.kind) e) refl c
source-readable {g} {s} {r} fine (of-value f k t) c =
    let v = value-reads f k t in
    let q : number_of (kind_of r.kind) ≡ k = ap (λ (n : ℕ). number_of (kind_of n)) t.kind ∙ value-known k (found-value g s r.at k r.size (value_found g s r.at k r.size v)) in
    value-kept g s fine r.at r.size t.within (kind_of r.kind) (v ∙ ap (λ (n : ℕ). lexed (value n) r.size) (sym q)) c

-- a part of an ASCII text is ASCII
all_take : (p : ℕ → Bool) (n : ℕ) (s : List ℕ) → all p s ≡ true → all p (take n s) ≡ true
unfolding all
all_take p zero s e = refl
all_take p (suc n) [] e = refl
all_take p (suc n) (b ∷ s) e = rw (and_l (p b) (all p s) e) (all_take p n s (and_r (p b) (all p s) e))

all_drop : (p : ℕ → Bool) (n : ℕ) (s : List ℕ) → all p s ≡ true → all p (drop n s) ≡ true
unfolding all
all_drop p zero s e = e
all_drop p (suc n) [] e = refl
all_drop p (suc n) (b ∷ s) e = all_drop p n s (and_r (p b) (all p s) e)

-- COULD BE READ AS ITS KIND
pub record Content (g : Reading) (s : List ℕ) (r : Rec) : Type 0 where
  pub marked : marks_of (kind_of r.kind) ≤ r.size
  pub size : content_size r.kind r.size ≡ r.size - marks_of (kind_of r.kind)
  pub readable : readable g (kind_of r.kind) (content_of s r) ≡ true

pub content-read : (g : Reading) (s : List ℕ) (r : Rec) → length s ≤ span is_ascii s → keeps_lines g s ≡ true → Source g s r → is_content (shape_of (kind_of r.kind)) ≡ true → Content g s r
unfolding content_of content_size has_content readable
content-read g s r a fine h c =
    let x = source-readable fine h c in
    let k = kind_of r.kind in
    let part = take (r.size - marks_of k) (drop (r.at + opening k) s) in
    let n : span is_ascii s ≡ length s = omega (arith, span-le is_ascii s) in
    let ascii = all-span is_ascii part (all_take is_ascii (r.size - marks_of k) (drop (r.at + opening k) s) (all_drop is_ascii (r.at + opening k) s (span-all is_ascii s n))) in
    record { marked = x.marked; size = rw c; readable = rw (c, eq-eqb (span is_ascii part) (length part) ascii) x.content }

-- NUMBERS KEEP THE LIMITS
flag_small : (b : Bool) → flag b ≤ 1
unfolding flag
flag_small true = omega arith
flag_small false = omega arith

exponent_small : (b : Bool) (e : ℕ) → e < 1000000000 → (b ≡ true → 0 < e) → exponent_kept (cond b (4294967296 - e) e % 4294967296) ≡ true
unfolding exponent_kept
exponent_small true e h p =
    let z : (4294967296 - e) % 4294967296 ≡ 4294967296 - e = omega (arith, p refl) in
    rw (z, le-ltb (4294967296 - e) 1000000000 (omega arith)) (lt-ltb 3294967296 (4294967296 - e) (omega (arith, p refl)))
exponent_small false e h p =
    let z : e % 4294967296 ≡ e = omega arith in
    rw (z, lt-ltb e 1000000000 h)

pub parts-kept : (d : Decimal) (u : ℕ) → Bounded d → u < 1000000000 → parts_kept (stored d u) ≡ true
unfolding parts_kept stored
parts-kept d u b h =
    rw (
      le-leb (flag d.minus) 1 (flag_small d.minus),
      lt-ltb d.integer 1000000000 b.integer,
      le-leb d.places 18 b.places,
      lt-ltb d.fraction (10 ^ d.places) b.fraction,
      exponent_small d.lowers d.exponent b.exponent b.lowers,
    )
    (lt-ltb u 1000000000 h)
