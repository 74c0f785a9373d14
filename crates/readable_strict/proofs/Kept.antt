-- Laws of contents in the strict reading: how long a token with a name is, what a bare value that starts with `;` is, when a quoted content keeps its rule, and that a
-- token's lines are fine just where its content fits behind what stands before it. Assumes nothing.
use Prim.Native.Nat.{ℕ, suc, ◌+◌, ◌-◌, ◌≤◌, ◌<◌}
use mathlib.Core.Path.{◌≡◌, refl, sym, ap, ◌∙◌}
use mathlib.Core.Bool.{Bool, true, false, cond, ◌&&◌, and-true, and-false, true≢false, false≢true}
use mathlib.Core.List.{List, [], ◌∷◌, ◌++◌}
use native.Mathlib.Omega.{arith}
use borrow.Author.Tests.{eqb-true, eqb-false}
use lib.Dec.{eqb}
use lib.ListN.{length, take, drop, get_or, length-append, get_or-append}
use Rattle.std.proofs.lemmas.List.{take_rest}
use Rattle.rules.specs.declared.Reading.TheVariants.{Strict}
use Rattle.text.specs.Bytes.{is, is_eol}
use Rattle.words.specs.Names.{fits_tag, heading_fits}
use Rattle.keywords.specs.Keywords.{key_data, key_save}
use Rattle.kinds.specs.declared.Kind.{Kind}
use Rattle.kinds.specs.declared.Kind.TheVariants.{NoKind, Block, FrameOpen, FrameClose, Tag, Loop, LoopTag, LoopEnd}
use Rattle.kinds.specs.declared.Kind.TheVariants.{Inapplicable, Unknown, Bare, SingleQuoted, DoubleQuoted, Multiline, Number, Uncertain, Quoted}
use Rattle.quotes.specs.Content.{strict_plain}
use Rattle.lines.specs.Lines.{screened, is_fine, fits}
use Rattle.lines.proofs.Lines.{fits-screened, fits-printable, fits-quote, fits-field}
use Rattle.values.specs.Alone.{is_alone}
use Rattle.values.proofs.Alone.{strict-single, strict-double, strict-other, alone-semicolon, alone-none, alone-plain, field-some, field-last}
use Rattle.readable.specs.Tokens.{mark, marked, starts_field, is_bare_field, lead}
use Rattle.readable.specs.Readable.{is_name, is_heading, is_tag, is_value, readable_by, is_kept}
use Rattle.readable.proofs.Readable.{strict-no-single, strict-no-double}
use Rattle.readable_strict.specs.Columns.{column_of}

-- a keyword has five bytes
data-length : (c : List ℕ) → length (key_data ++ c) ≡ 5 + length c
unfolding key_data
data-length c = omega arith

save-length : (c : List ℕ) → length (key_save ++ c) ≡ 5 + length c
unfolding key_save
save-length c = omega arith

-- a name by the length of its token
pub heading_by : (c : List ℕ) → is_heading Strict Block c ≡ (heading_fits Strict (5 + length c) && is_name c)
heading_by c = rw (data-length c)

pub tag_by : (c : List ℕ) → is_tag Strict Tag c ≡ (fits_tag Strict (1 + length c) && is_name c)
tag_by c = let e : suc (length c) ≡ 1 + length c = omega arith in rw e

-- the names of blocks and of frames keep one rule
pub frame-heading : (c : List ℕ) → is_heading Strict Block c ≡ is_heading Strict FrameOpen c
frame-heading c = rw (data-length c, save-length c)

-- a bare content: behind a space any word is one that starts with `;`
pub bare-led : (c : List ℕ) → is_bare_field Bare c ≡ true → is_value Strict Bare c ≡ is_name c
unfolding is_bare_field starts_field is_name is
bare-led [] h = absurd (false≢true h)
bare-led (b ∷ c) h = rw (eqb-true b 59 h) (alone-semicolon c)

pub bare-plain : (c : List ℕ) → is_bare_field Bare c ≡ false → is_value Strict Bare c ≡ is_alone Strict 10 10 c
bare-plain c h = rw h

-- a quoted content: none, a mark and what may stand behind it, any other byte
pub quoted_none : (c : List ℕ) → length c < 1 → is_value Strict Quoted c ≡ false
unfolding is_bare_field mark
quoted_none [] h = alone-none Strict 10 21
quoted_none (b ∷ c) h = absurd (omega arith)

pub quoted_single : (c : List ℕ) → 1 ≤ length c → get_or c 0 0 ≡ 39 → strict_plain false (get_or c 0 0) (take (length c - 1) (drop 1 c)) ≡ is_value Strict Quoted c
unfolding is_bare_field mark
quoted_single [] h e = absurd (omega arith)
quoted_single (b ∷ c) h e = let q : b ≡ 39 = e in rw (q, take_rest (39 ∷ c) 1) (strict-single c)

pub quoted_double : (c : List ℕ) → 1 ≤ length c → get_or c 0 0 ≡ 34 → strict_plain false (get_or c 0 0) (take (length c - 1) (drop 1 c)) ≡ is_value Strict Quoted c
unfolding is_bare_field mark
quoted_double [] h e = absurd (omega arith)
quoted_double (b ∷ c) h e = let q : b ≡ 34 = e in rw (q, take_rest (34 ∷ c) 1) (strict-double c)

pub quoted_other : (c : List ℕ) → 1 ≤ length c → (get_or c 0 0 ≡ 39 → ⊥) → (get_or c 0 0 ≡ 34 → ⊥) → is_value Strict Quoted c ≡ false
unfolding is_bare_field mark
quoted_other [] h f g = absurd (omega arith)
quoted_other (b ∷ c) h f g = strict-other 10 b (c ++ (b ∷ [])) f g

-- The lines of a token that is read as its kind: its content fits behind what stands before it

keyword-lines : (a b d e g : ℕ) → ((32 ≤ a) × (a < 127)) → ((32 ≤ b) × (b < 127)) → ((32 ≤ d) × (d < 127)) → ((32 ≤ e) × (e < 127)) → ((32 ≤ g) × (g < 127)) → (c : List ℕ) → is_fine (screened (a ∷ b ∷ d ∷ e ∷ g ∷ c)) ≡ fits 5 c
keyword-lines a b d e g p q r s t c =
    fits-screened _ ∙ fits-printable a p.0 p.1 0 _ (omega arith) ∙ fits-printable b q.0 q.1 1 _ (omega arith) ∙ fits-printable d r.0 r.1 2 _ (omega arith) ∙ fits-printable e s.0 s.1 3 _ (omega arith) ∙ fits-printable g t.0 t.1 4 c (omega arith)

byte-lines : (a : ℕ) → 32 ≤ a → a < 127 → (c : List ℕ) → is_fine (screened (a ∷ c)) ≡ fits 1 c
byte-lines a l u c = fits-screened (a ∷ c) ∙ fits-printable a l u 0 c (omega arith)

bare-lines : (t : Bool) (c : List ℕ) → is_fine (screened (cond t (32 ∷ []) [] ++ c)) ≡ fits (cond t 1 0) c
bare-lines true c = byte-lines 32 (omega arith) (omega arith) c
bare-lines false c = fits-screened c

field-lines : (c : List ℕ) → is_alone Strict 10 13 (59 ∷ (c ++ (59 ∷ []))) ≡ true → is_fine (screened (59 ∷ (c ++ (59 ∷ [])))) ≡ fits 1 c
field-lines c h = byte-lines 59 (omega arith) (omega arith) (c ++ (59 ∷ [])) ∙ fits-field 59 (omega arith) (omega arith) 1 c (field-some Strict c h) (field-last Strict c h)

-- its mark is one of two
marked_by : (b : ℕ) (c : List ℕ) → is_alone Strict 10 21 (b ∷ c) ≡ true → (32 ≤ b) × (b < 127)
marked_by b c h = by (eqb b 39) refl (eqb b 34) refl
  where
    by : (t : Bool) → eqb b 39 ≡ t → (u : Bool) → eqb b 34 ≡ u → (32 ≤ b) × (b < 127)
    by true e u f = let q : b ≡ 39 = eqb-true b 39 e in (omega arith, omega arith)
    by false e true f = let q : b ≡ 34 = eqb-true b 34 f in (omega arith, omega arith)
    by false e false f = absurd (true≢false (sym h ∙ strict-other 10 b c (eqb-false b 39 e) (eqb-false b 34 f)))

quote-lines : (b : ℕ) (c : List ℕ) → is_alone Strict 10 21 (b ∷ (c ++ (b ∷ []))) ≡ true → is_fine (screened (b ∷ (c ++ (b ∷ [])))) ≡ fits 1 (b ∷ c)
quote-lines b c h =
    let m = marked_by b (c ++ (b ∷ [])) h in
    fits-screened (b ∷ (c ++ (b ∷ []))) ∙ fits-quote b m.0 m.1 0 (b ∷ c) (omega arith) (λ k l. front k l (alone-plain Strict 10 21 (b ∷ (c ++ (b ∷ []))) h (λ e. omega arith) k (omega (arith, length-append (b ∷ c) (b ∷ [])))))
  where
    front : (k : ℕ) → k < length (b ∷ c) → is_eol (get_or ((b ∷ c) ++ (b ∷ [])) k 0) ≡ false → is_eol (get_or (b ∷ c) k 0) ≡ false
    front k l e = sym (ap is_eol (get_or-append (b ∷ c) (b ∷ []) 0 k l)) ∙ e

pub lines-kept : (k : Kind) (c : List ℕ) → readable_by Strict k c ≡ true → is_fine (screened (lead Strict k c ++ marked k c)) ≡ fits (column_of k c) c
unfolding readable_by is_bare_field mark key_data key_save
lines-kept NoKind c h = absurd (false≢true h)
lines-kept Block c h = keyword-lines 100 97 116 97 95 (omega arith, omega arith) (omega arith, omega arith) (omega arith, omega arith) (omega arith, omega arith) (omega arith, omega arith) c
lines-kept FrameOpen c h = keyword-lines 115 97 118 101 95 (omega arith, omega arith) (omega arith, omega arith) (omega arith, omega arith) (omega arith, omega arith) (omega arith, omega arith) c
lines-kept FrameClose c h = absurd (false≢true h)
lines-kept Tag c h = byte-lines 95 (omega arith) (omega arith) c
lines-kept Loop c h = absurd (false≢true h)
lines-kept LoopTag c h = byte-lines 95 (omega arith) (omega arith) c
lines-kept LoopEnd c h = absurd (false≢true h)
lines-kept Inapplicable c h = absurd (false≢true h)
lines-kept Unknown c h = absurd (false≢true h)
lines-kept Bare c h = bare-lines (starts_field c) c
lines-kept SingleQuoted c h = absurd (true≢false (sym h ∙ strict-no-single c))
lines-kept DoubleQuoted c h = absurd (true≢false (sym h ∙ strict-no-double c))
lines-kept Multiline c h = field-lines c h
lines-kept Number c h = absurd (false≢true h)
lines-kept Uncertain c h = absurd (false≢true h)
lines-kept Quoted [] h = absurd (true≢false (sym h ∙ alone-none Strict 10 21))
lines-kept Quoted (b ∷ c) h = quote-lines b c h

-- all that is asked of it
pub kept_refused : (k : Kind) (c : List ℕ) → readable_by Strict k c ≡ false → is_kept Strict k c ≡ false
kept_refused k c h = rw h (and-false (is_fine (screened (lead Strict k c ++ marked k c))))

pub kept_by : (k : Kind) (c : List ℕ) → readable_by Strict k c ≡ true → is_kept Strict k c ≡ fits (column_of k c) c
kept_by k c h = rw h (and-true (is_fine (screened (lead Strict k c ++ marked k c))) ∙ lines-kept k c h)

-- few bytes stand before a content on its line
pub column-few : (k : Kind) (c : List ℕ) → column_of k c ≤ 2048
column-few NoKind c = omega arith
column-few Block c = omega arith
column-few FrameOpen c = omega arith
column-few FrameClose c = omega arith
column-few Tag c = omega arith
column-few Loop c = omega arith
column-few LoopTag c = omega arith
column-few LoopEnd c = omega arith
column-few Inapplicable c = omega arith
column-few Unknown c = omega arith
column-few Bare c = by (is_bare_field Bare c)
  where
    by : (t : Bool) → cond t 1 0 ≤ 2048
    by true = omega arith
    by false = omega arith
column-few SingleQuoted c = omega arith
column-few DoubleQuoted c = omega arith
column-few Multiline c = omega arith
column-few Number c = omega arith
column-few Uncertain c = omega arith
column-few Quoted c = omega arith
