-- The tokens that a sound store renders to, by either reading. Proved: the token of each record, on its line, is read whole as its kind (reads-tag, reads-head,
-- reads-loop, reads-open, reads-shut, reads-value), and is ASCII (token-ascii). Assumes nothing.
use Prim.Native.Nat.{ℕ, suc, ◌-◌, ◌^◌, ◌<◌}
use mathlib.Core.Bool.{true≢false, false≢true, Bool, true, false, cond, ◌&&◌, ◌||◌}
use mathlib.Core.Path.{◌≡◌, refl, sym, ap, ◌∙◌}
use mathlib.Core.List.{List, [], ◌∷◌, ◌++◌}
use native.Mathlib.Omega.{arith}
use borrow.Author.Tests.{eqb-true, ltb-true, leb-true, leb-false}
use lib.Dec.{eqb, leb, ltb}
use lib.ListN.{length}
use Rattle.rules.specs.declared.Reading.{Reading}
use Rattle.rules.specs.declared.Reading.TheVariants.{First, Strict}
use Rattle.text.specs.Bytes.{is, is_ascii, is_digit, is_space, ends_word}
use Rattle.text.specs.Runs.{span}
use Rattle.text.proofs.Bools.{and_l, and_r, or_cases}
use Rattle.columns.specs.Before.{is_parted}
use Rattle.words.specs.Words.{in_word, word}
use Rattle.folding.specs.Folding.{lower}
use Rattle.keywords.specs.Keywords.{starts, is_word, stands, key_data, key_loop, key_save, key_global, key_stop, reserved}
use Rattle.numbers.specs.declared.Decimal.{Decimal}
use Rattle.numbers.specs.Parts.{cut, digits, sign, point, absent, is_empty, exponent, bracket, parts, is_number}
use Rattle.numbers.specs.Spelling.{render_number, Kept}
use Rattle.numbers.proofs.Made.{all, others, number-made}
use Rattle.numbers.proofs.Spelled.{number_is}
use Rattle.entries.specs.declared.Fields.{Fields}
use Rattle.kinds.specs.declared.Kind.{Kind}
use Rattle.kinds.specs.declared.Kind.TheVariants.{NoKind, Block, FrameOpen, FrameClose, Tag, Loop, LoopTag, LoopEnd, Inapplicable, Unknown, Bare, SingleQuoted, DoubleQuoted, Multiline, Number, Uncertain, Quoted}
use Rattle.entries.specs.declared.Parts.{Parts}
use Rattle.kinds.specs.declared.Shape.{Shape}
use Rattle.kinds.specs.declared.Shape.TheVariants.{Empty, Place, Content, Count, Parts as PartsShape, PartsUncertain}
use Rattle.kinds.specs.Kinds.{number_of, shape_of, is_content, is_value_kind}
use Rattle.entries.specs.Entries.{no_parts, is_kind as is_kind_of}
use Rattle.values.specs.Values.{Class, block, loop, save, tag, value, lexed, number_or, word_or, alone_or, lex_value, lex_as_value}
use Rattle.values.proofs.Laws.{value-lies}
use Rattle.values.proofs.Alone.{alone-token, alone-none}
use Rattle.grammar.specs.Tokens.{Mode, in_block, in_frame, save_size, save_length, lex_in, lex, tag_first}
use Rattle.grammar.proofs.Lexes.{lex-tag, lex-loop, lex-save, lex-data}
use Rattle.readable.specs.Tokens.{mark, marked, is_bare_field, lead, stands as stands-behind}
use Rattle.readable.specs.Readable.{is_name, readable_by, readable, keeps_lines, is_kept}
use Rattle.contents.specs.Contents.{exponent_kept, parts_kept, content_length, content_bytes, own_rule}
use Rattle.contents.proofs.Kept.{content-length, content-size, own-inside, own-readable, own-parts}
use Rattle.values.specs.Alone.{is_kind, is_alone}
use Rattle.record_lines.specs.Lines.{decimal_of, token_text}
use Rattle.written.proofs.Runs.{span-all}
use Rattle.written.proofs.Lexing.{mode_of, in-any-mode}
use Rattle.round_trip.proofs.NumberLex.{number_size, number-whole}
use Rattle.round_trip.proofs.Passes.{Reads, first_passes, strict-passes}

-- shapes with decimal parts
unfoldable pub has_parts : Shape → Bool
has_parts Empty = false
has_parts Place = false
has_parts Content = false
has_parts Count = false
has_parts PartsShape = true
has_parts PartsUncertain = true

-- what is stored besides: an exponent of four bytes, and nothing where a kind has no parts or no uncertainty
pub record Stored (k : Kind) (f : Fields) : Type 0 where
  pub known : is_kind_of k ≡ true
  pub exponent : f.parts.exponent < 4294967296
  pub certain : k ≡ Number → f.parts.uncertainty ≡ 0
  pub none : has_parts (shape_of k) ≡ false → f.parts ≡ no_parts

-- a record of a sound store
pub record Fine (r : Reading) (ar : List ℕ) (k : Kind) (f : Fields) : Type 0 where
  pub content : is_content (shape_of k) ≡ true → readable r k (content_bytes ar k f) ≡ true
  pub size : is_content (shape_of k) ≡ true → length (content_bytes ar k f) ≡ content_length k f
  pub parts : is_content (shape_of k) ≡ false → parts_kept f.parts ≡ true
  pub stored : Stored k f

pub fine : (r : Reading) (ar : List ℕ) (k : Kind) (f : Fields) → own_rule r ar k f ≡ true → Stored k f → Fine r ar k f
fine r ar k f e g =
    record {
      content = λ q. own-readable r ar k f e q;
      size = λ q. omega (arith, content-size ar k f (own-inside r ar k f e q), content-length k f);
      parts = λ q. own-parts r ar k f e q;
      stored = g;
    }

-- Numbers

-- stored parts that are kept stand for a number that keeps the limits
pub number-kept : (u : Bool) (p : Parts) → parts_kept p ≡ true → p.exponent < 4294967296 → (u ≡ false → p.uncertainty ≡ 0) → Kept (decimal_of u p)
unfolding parts_kept decimal_of
number-kept u p e small certain =
    let e₁ = and_r (leb p.sign 1) _ e in
    let e₂ = and_r (ltb p.integer 1000000000) _ e₁ in
    let e₃ = and_r (leb p.places 18) _ e₂ in
    let e₄ = and_r (ltb p.fraction (10 ^ p.places)) _ e₃ in
    let x = exponent-kept p.exponent small (and_l (exponent_kept p.exponent) _ e₄) in
    record {
      integer = ltb-true p.integer 1000000000 (and_l (ltb p.integer 1000000000) _ e₁);
      places = leb-true p.places 18 (and_l (leb p.places 18) _ e₂);
      fraction = ltb-true p.fraction (10 ^ p.places) (and_l (ltb p.fraction (10 ^ p.places)) _ e₃);
      exponent = x.0;
      uncertainty = ltb-true p.uncertainty 1000000000 (and_r (exponent_kept p.exponent) _ e₄);
      unsigned = x.1;
      certain = certain;
    }
  where
    exponent-kept : (e : ℕ) → e < 4294967296 → exponent_kept e ≡ true
        → (cond (leb 2147483648 e) (4294967296 - e) e < 1000000000) × (cond (leb 2147483648 e) (4294967296 - e) e ≡ 0 → leb 2147483648 e ≡ false)
    exponent-kept e s k = by (leb 2147483648 e) refl (unfold exponent_kept in k)
      where
        by : (t : Bool) → leb 2147483648 e ≡ t → (ltb e 1000000000 || ltb 3294967296 e) ≡ true → (cond t (4294967296 - e) e < 1000000000) × (cond t (4294967296 - e) e ≡ 0 → t ≡ false)
        by true q k = or_cases (ltb e 1000000000) (ltb 3294967296 e) (λ w. absurd (omega (arith, leb-true 2147483648 e q, ltb-true e 1000000000 w))) (λ w. (omega (arith, ltb-true 3294967296 e w), λ z. absurd (omega arith))) k
        by false q k = or_cases (ltb e 1000000000) (ltb 3294967296 e) (λ w. (ltb-true e 1000000000 w, λ z. refl)) (λ w. absurd (omega (arith, leb-false 2147483648 e q, ltb-true 3294967296 e w))) k

-- Tokens that are read whole

-- in the block and in a frame every token is read
in-block : (f : Bool) (s : List ℕ) → lex First 10 (mode_of f) s ≡ lex_in First 10 (mode_of f) s
unfolding mode_of lex
in-block true s = refl
in-block false s = refl

module _ (f : Bool) (w : List ℕ) (c : Class) (some_bytes : 0 < length w) where
  first-line : lex_in First 10 (mode_of f) w ≡ lexed c (length w) → Reads First (mode_of f) [] w c
  unfolding lexed
  first-line e = first_passes (mode_of f) w c (record { reads = e; fills = refl; some_bytes = some_bytes }) (λ t. in-block f (w ++ 10 ∷ t))

  -- what is one token by itself is read so on its line: before a token that is no bare value stands no space
  line_reads : (r : Reading) (k : Kind) (b : List ℕ) → eqb (number_of k) 10 ≡ false → lex_in r 10 (mode_of f) w ≡ lexed c (length w) → Reads r (mode_of f) (lead r k b) w c
  unfolding is_bare_field
  line_reads First k b n e = first-line e
  line_reads Strict k b n e = rw n (strict-passes false (mode_of f) w c e some_bytes)

parted-lf : (r : Reading) (x : Bool) → x ≡ true → (is_parted r 10 && x) ≡ true
unfolding is_space
parted-lf First x e = e
parted-lf Strict x e = e

name-length : (c : List ℕ) → is_name c ≡ true → word c ≡ length c
unfolding is_name
name-length c e = eqb-true (word c) (length c) e

module _ (r : Reading) (f : Bool) (c : List ℕ) (e : is_name c ≡ true) where
  pub reads-tag : (k : Kind) → eqb (number_of k) 10 ≡ false → Reads r (mode_of f) (lead r k c) (95 ∷ c) tag
  unfolding word span in_word ends_word is tag_first
  reads-tag k n =
      line_reads f (95 ∷ c) tag (omega arith) r k c n (lex-tag 10 (mode_of f) r (95 ∷ c) (parted-lf r (tag_first (95 ∷ c)) refl) ∙ ap (λ (n : ℕ). lexed tag (suc n)) (name-length c e))

data-word : (c : List ℕ) → is_name c ≡ true → word (key_data ++ c) ≡ length (key_data ++ c)
unfolding key_data word span in_word ends_word
data-word c e = ap (λ (n : ℕ). suc (suc (suc (suc (suc n))))) (name-length c e)

save-word : (c : List ℕ) → is_name c ≡ true → word (key_save ++ c) ≡ length (key_save ++ c)
unfolding key_save word span in_word ends_word
save-word c e = ap (λ (n : ℕ). suc (suc (suc (suc (suc n))))) (name-length c e)

-- a heading: in the strict reading one in the block, too
data-strict : (m : Mode) (c : List ℕ) → is_name c ≡ true → lex_in Strict 10 m (key_data ++ c) ≡ lexed block (length (key_data ++ c))
unfolding starts key_data lower is is_space
data-strict m c e = lex-data 10 m (key_data ++ c) refl ∙ ap (λ (n : ℕ). lexed block n) (data-word c e)

pub reads-head : (m : Mode) (c : List ℕ) → is_name c ≡ true → Reads Strict m (lead Strict Block c) (key_data ++ c) block
unfolding is_bare_field key_data
reads-head m c e = strict-passes false m (key_data ++ c) block (data-strict m c e) (omega arith)

loop-stands : (r : Reading) → stands r key_loop key_loop ≡ true
unfolding is_word starts key_loop lower is word span in_word ends_word
loop-stands First = refl
loop-stands Strict = refl

pub reads-loop : (r : Reading) (f : Bool) (c : List ℕ) → Reads r (mode_of f) (lead r Loop c) key_loop loop
unfolding key_loop
reads-loop r f c = line_reads f key_loop loop (omega arith) r Loop c refl (lex-loop 10 (mode_of f) r key_loop (parted-lf r (stands r key_loop key_loop) (loop-stands r)))

save-starts : (c : List ℕ) → starts key_save (key_save ++ c) ≡ true
unfolding starts key_save lower is
save-starts c = refl

shut-length : (r : Reading) → save_length r in_frame key_save ≡ length key_save
unfolding save_size key_save word span in_word ends_word
shut-length First = refl
shut-length Strict = refl

pub reads-shut : (r : Reading) (c : List ℕ) → Reads r in_frame (lead r FrameClose c) key_save save
unfolding key_save mode_of starts lower is
reads-shut r c = line_reads true key_save save (omega arith) r FrameClose c refl (lex-save 10 in_frame r key_save (parted-lf r (starts key_save key_save) refl) ∙ ap (λ (n : ℕ). lexed save n) (shut-length r))

pub shut-five : length key_save ≡ 5
unfolding key_save
shut-five = refl

open-length : (r : Reading) (c : List ℕ) → is_name c ≡ true → save_length r in_block (key_save ++ c) ≡ length (key_save ++ c)
unfolding save_size
open-length First c e = save-word c e
open-length Strict c e = save-word c e

pub reads-open : (r : Reading) (c : List ℕ) → is_name c ≡ true → Reads r in_block (lead r FrameOpen c) (key_save ++ c) save
unfolding key_save mode_of
reads-open r c e =
    line_reads false (key_save ++ c) save (omega arith) r FrameOpen c refl (lex-save 10 in_block r (key_save ++ c) (parted-lf r (starts key_save (key_save ++ c)) (save-starts c)) ∙ ap (λ (n : ℕ). lexed save n) (open-length r c e))

-- w alone, where rendering puts it, is a value of kind k
pub alone-reads : (r : Reading) (f : Bool) (k : Kind) (c w : List ℕ) → is_alone r (stands-behind r k c) (number_of k) w ≡ true → Reads r (mode_of f) (lead r k c) w (value (number_of k))
alone-reads First f k c w e =
    let x = alone-token First 10 (number_of k) w e in
    first-line f w (value (number_of k)) (value-lies First 10 w (number_of k) (length w) x).pos (in-any-mode First 10 (mode_of f) w (number_of k) (length w) x)
alone-reads Strict f k c w e =
    let p : ℕ = cond (is_bare_field k c) 32 10 in
    let x = alone-token Strict p (number_of k) w e in
    strict-passes (is_bare_field k c) (mode_of f) w (value (number_of k)) (in-any-mode Strict p (mode_of f) w (number_of k) (length w) x) (value-lies Strict p w (number_of k) (length w) x).pos

point-alone : (r : Reading) (f : Bool) (c : List ℕ) → Reads r (mode_of f) (lead r Inapplicable c) (46 ∷ []) (value 8)
unfolding is_alone is_kind lex_as_value reserved starts is_word key_data key_global key_loop key_save key_stop lower is is_space lex_value lexed word_or number_or alone_or word span in_word ends_word parts sign digits is_digit point cut exponent absent bracket is_number is_empty is_bare_field
point-alone First f c = alone-reads First f Inapplicable c (46 ∷ []) refl
point-alone Strict f c = alone-reads Strict f Inapplicable c (46 ∷ []) refl

unknown-alone : (r : Reading) (f : Bool) (c : List ℕ) → Reads r (mode_of f) (lead r Unknown c) (63 ∷ []) (value 9)
unfolding is_alone is_kind lex_as_value reserved starts is_word key_data key_global key_loop key_save key_stop lower is is_space lex_value lexed alone_or word span in_word ends_word is_bare_field
unknown-alone First f c = alone-reads First f Unknown c (63 ∷ []) refl
unknown-alone Strict f c = alone-reads Strict f Unknown c (63 ∷ []) refl

-- the token of a record
unfoldable pub word_for : List ℕ → Kind → Fields → List ℕ
word_for ar k f = token_text k (content_bytes ar k f) f.parts

-- what stands before it
unfoldable pub lead_for : Reading → List ℕ → Kind → Fields → List ℕ
lead_for r ar k f = lead r k (content_bytes ar k f)

module _ (r : Reading) (ar : List ℕ) (f : Fields) where
  -- a content that is readable is so by its kind, and keeps the rules of lines
  kept-content : (k : Kind) → is_content (shape_of k) ≡ true → Fine r ar k f → is_kept r k (content_bytes ar k f) ≡ true
  unfolding readable
  kept-content k e h = and_r (eqb (span is_ascii (content_bytes ar k f)) (length (content_bytes ar k f))) _ (h.content e)

  pub by_kind : (k : Kind) → is_content (shape_of k) ≡ true → Fine r ar k f → readable_by r k (content_bytes ar k f) ≡ true
  by_kind k e h = and_r (keeps_lines r (lead r k (content_bytes ar k f) ++ marked k (content_bytes ar k f))) _ (kept-content k e h)

  pub content-lines : (k : Kind) → is_content (shape_of k) ≡ true → Fine r ar k f → keeps_lines r (lead r k (content_bytes ar k f) ++ marked k (content_bytes ar k f)) ≡ true
  content-lines k e h = and_l (keeps_lines r (lead r k (content_bytes ar k f) ++ marked k (content_bytes ar k f))) _ (kept-content k e h)

module _ (r : Reading) (ar : List ℕ) (fr : Bool) (f : Fields) where
  number-reads : (u : Bool) (k : Kind) → eqb (number_of k) 10 ≡ false → is_content (shape_of k) ≡ false → Fine r ar k f → (u ≡ false → k ≡ Number) → Reads r (mode_of fr) (lead_for r ar k f) (render_number (decimal_of u f.parts)) (value (cond u 15 14))
  unfolding lead_for decimal_of
  number-reads u k n e h c =
      let d = decimal_of u f.parts in
      line_reads fr (render_number d) (value (cond u 15 14)) (number_size d) r k (content_bytes ar k f) n (number-whole r (mode_of fr) d (number-kept u f.parts (h.parts e) h.stored.exponent (λ q. h.stored.certain (c q))))

  -- THE TOKEN OF A VALUE is read whole, as its kind
  pub reads-value : (k : Kind) → is_value_kind (number_of k) ≡ true → Fine r ar k f → Reads r (mode_of fr) (lead_for r ar k f) (word_for ar k f) (value (number_of k))
  unfolding is_value_kind word_for lead_for token_text shape_of is_content readable_by
  reads-value NoKind e h = absurd (false≢true e)
  reads-value Block e h = absurd (false≢true e)
  reads-value FrameOpen e h = absurd (false≢true e)
  reads-value FrameClose e h = absurd (false≢true e)
  reads-value Tag e h = absurd (false≢true e)
  reads-value Loop e h = absurd (false≢true e)
  reads-value LoopTag e h = absurd (false≢true e)
  reads-value LoopEnd e h = absurd (false≢true e)
  reads-value Inapplicable e h = point-alone r fr (content_bytes ar Inapplicable f)
  reads-value Unknown e h = unknown-alone r fr (content_bytes ar Unknown f)
  reads-value Bare e h = alone-reads r fr Bare (content_bytes ar Bare f) _ (by_kind r ar f Bare refl h)
  reads-value SingleQuoted e h = alone-reads r fr SingleQuoted (content_bytes ar SingleQuoted f) _ (by_kind r ar f SingleQuoted refl h)
  reads-value DoubleQuoted e h = alone-reads r fr DoubleQuoted (content_bytes ar DoubleQuoted f) _ (by_kind r ar f DoubleQuoted refl h)
  reads-value Multiline e h = alone-reads r fr Multiline (content_bytes ar Multiline f) _ (by_kind r ar f Multiline refl h)
  reads-value Quoted e h = alone-reads r fr Quoted (content_bytes ar Quoted f) _ (by_kind r ar f Quoted refl h)
  reads-value Number e h = number-reads false Number refl refl h (λ q. refl)
  reads-value Uncertain e h = number-reads true Uncertain refl refl h (λ q. absurd (true≢false q))

-- a quoted value of the strict reading holds its opening mark at least
pub quoted-some : (r : Reading) (ar : List ℕ) (f : Fields) → Fine r ar Quoted f → 0 < length (content_bytes ar Quoted f)
unfolding readable_by shape_of is_content
quoted-some r ar f h = by (content_bytes ar Quoted f) (by_kind r ar f Quoted refl h)
  where
    by : (c : List ℕ) → is_alone r (stands-behind r Quoted c) 21 (c ++ mark c) ≡ true → 0 < length c
    by [] e = unfold mark in absurd (false≢true (sym (alone-none r (stands-behind r Quoted []) 21) ∙ e))
    by (b ∷ c) e = omega arith

-- ASCII

pub all_append : (p : ℕ → Bool) (x y : List ℕ) → all p x ≡ true → all p y ≡ true → all p (x ++ y) ≡ true
unfolding all
all_append p [] y h g = g
all_append p (b ∷ x) y h g = rw (and_l (p b) (all p x) h) (all_append p x y (and_r (p b) (all p x) h) g)

number-ascii : (d : Decimal) → all is_ascii (render_number d) ≡ true
unfolding all others is_ascii
number-ascii d = number-made is_ascii refl refl (render_number d) (number_is d)

module _ (r : Reading) (ar : List ℕ) (f : Fields) where
  content-ascii : (k : Kind) → is_content (shape_of k) ≡ true → Fine r ar k f → all is_ascii (content_bytes ar k f) ≡ true
  unfolding readable
  content-ascii k e h =
      let c = content_bytes ar k f in
      span-all is_ascii c (eqb-true (span is_ascii c) (length c) (and_l (eqb (span is_ascii c) (length c)) _ (h.content e)))

  between : (m : ℕ) (c : List ℕ) → is_ascii m ≡ true → all is_ascii c ≡ true → all is_ascii (m ∷ (c ++ (m ∷ []))) ≡ true
  unfolding all
  between m c e h = rw e (all_append is_ascii c (m ∷ []) h (rw e))

  with-mark : (c : List ℕ) → all is_ascii c ≡ true → all is_ascii (c ++ mark c) ≡ true
  unfolding all mark
  with-mark [] h = refl
  with-mark (b ∷ c) h = all_append is_ascii (b ∷ c) (b ∷ []) h (rw (and_l (is_ascii b) (all is_ascii c) h))

  pub token-ascii : (k : Kind) → Fine r ar k f → all is_ascii (word_for ar k f) ≡ true
  unfolding word_for token_text shape_of is_content all is_ascii key_data key_save key_loop
  token-ascii NoKind h = refl
  token-ascii Block h = content-ascii Block refl h
  token-ascii FrameOpen h = content-ascii FrameOpen refl h
  token-ascii FrameClose h = refl
  token-ascii Tag h = content-ascii Tag refl h
  token-ascii Loop h = refl
  token-ascii LoopTag h = content-ascii LoopTag refl h
  token-ascii LoopEnd h = refl
  token-ascii Inapplicable h = refl
  token-ascii Unknown h = refl
  token-ascii Bare h = content-ascii Bare refl h
  token-ascii SingleQuoted h = between 39 (content_bytes ar SingleQuoted f) refl (content-ascii SingleQuoted refl h)
  token-ascii DoubleQuoted h = between 34 (content_bytes ar DoubleQuoted f) refl (content-ascii DoubleQuoted refl h)
  token-ascii Multiline h = between 59 (content_bytes ar Multiline f) refl (content-ascii Multiline refl h)
  token-ascii Quoted h = with-mark (content_bytes ar Quoted f) (content-ascii Quoted refl h)
  token-ascii Number h = number-ascii (decimal_of false f.parts)
  token-ascii Uncertain h = number-ascii (decimal_of true f.parts)
