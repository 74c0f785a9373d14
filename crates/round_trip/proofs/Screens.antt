-- The lines of a rendering. Proved: in the strict reading none of them is too long, and no control byte stands in them (rendering-kept). Assumes nothing.
use Prim.Native.Nat.{ℕ, suc, ◌+◌, ◌≤◌}
use mathlib.Core.Path.{◌≡◌, refl, sym, ◌∙◌}
use mathlib.Core.Bool.{Bool, true, false, cond, not, ◌&&◌, and-false, true≢false}
use mathlib.Core.List.{List, [], ◌∷◌, ◌++◌, append_assoc}
use native.Mathlib.Omega.{arith}
use borrow.Author.Tests.{leb-true, ltb-true}
use lib.Dec.{eqb, leb, ltb}
use lib.ListN.{length}
use Rattle.rules.specs.declared.Reading.{Reading}
use Rattle.rules.specs.declared.Reading.TheVariants.{First, Strict}
use Rattle.text.specs.Bytes.{is_eol}
use Rattle.text.proofs.Bools.{and_l, and_r}
use Rattle.keywords.specs.Keywords.{key_loop, key_save}
use Rattle.std.specs.Prelude.{Result, Ok, Err}
use Rattle.lines.specs.declared.Flaw.{Flaw}
use Rattle.lines.specs.declared.Flaw.TheVariants.{LongLine, Control}
use Rattle.lines.specs.Lines.{is_control, column, is_long, screened, is_fine, fits}
use Rattle.lines.proofs.Lines.{fits-screened, fits-none, fits_by, fits-printable}
use Rattle.numbers.specs.declared.Decimal.{Decimal}
use Rattle.numbers.specs.Spelling.{render_number}
use Rattle.numbers.proofs.Made.{all, others, number-made}
use Rattle.numbers.proofs.Spelled.{number_is}
use Rattle.numbers.proofs.Rendered.{number_short}
use Rattle.kinds.specs.declared.Kind.{Kind}
use Rattle.kinds.specs.declared.Kind.TheVariants.{NoKind, Block, FrameOpen, FrameClose, Tag, Loop, LoopTag, LoopEnd, Inapplicable, Unknown, Bare, SingleQuoted, DoubleQuoted, Multiline, Number, Uncertain, Quoted}
use Rattle.kinds.specs.Kinds.{number_of, shape_of, is_content}
use Rattle.entries.specs.declared.Entry.{Entry}
use Rattle.entries.specs.declared.Fields.{Fields}
use Rattle.grammar.specs.Machine.{Answer}
use Rattle.grammar.specs.Reading.{screens, checked}
use Rattle.readable.specs.Tokens.{is_bare_field}
use Rattle.readable.specs.Readable.{keeps_lines}
use Rattle.contents.proofs.Kept.{parts-limits}
use Rattle.record_lines.specs.Lines.{decimal_of, token_text, is_end}
use Rattle.round_trip.proofs.Lines.{line, ending, render}
use Rattle.round_trip.proofs.Alone.{Fine as FineRecord, word_for, lead_for, content-lines}
use Rattle.round_trip.proofs.Nests.{Filled, full, more, line_for, lines_for}
use Rattle.std.specs.Prelude.{Option}

-- an LF starts a line
lf-fits : (c : ℕ) (t : List ℕ) → fits c (10 ∷ t) ≡ fits 0 t
unfolding is_long is_control column is_eol
lf-fits c t = fits_by c 10 t ∙ rw (and-false (eqb c 2048))

fits_line : (c : ℕ) (w t : List ℕ) → fits c w ≡ true → fits 0 t ≡ true → fits c (w ++ 10 ∷ t) ≡ true
fits_line c [] t p q = lf-fits c t ∙ q
fits_line c (b ∷ w) t p q =
    let h : (not (is_long c b) && (not (is_control b) && fits (column c b) w)) ≡ true = sym (fits_by c b w) ∙ p in
    let k = and_r (not (is_long c b)) _ h in
    fits_by c b (w ++ 10 ∷ t) ∙ rw (and_l (not (is_long c b)) _ h, and_l (not (is_control b)) _ k) (fits_line (column c b) w t (and_r (not (is_control b)) _ k) q)

kept_line : (r : Reading) (w t : List ℕ) → keeps_lines r w ≡ true → keeps_lines r t ≡ true → keeps_lines r (w ++ 10 ∷ t) ≡ true
kept_line First w t p q = refl
kept_line Strict w t p q = fits-screened (w ++ 10 ∷ t) ∙ fits_line 0 w t (sym (fits-screened w) ∙ p) (sym (fits-screened t) ∙ q)

-- some printable bytes
unfoldable printable : ℕ → Bool
printable b = leb 32 b && ltb b 127

fits-plain : (c : ℕ) (w : List ℕ) → all printable w ≡ true → c + length w ≤ 2048 → fits c w ≡ true
unfolding all printable
fits-plain c [] h l = fits-none c
fits-plain c (b ∷ w) h l =
    let p = and_l (leb 32 b && ltb b 127) (all printable w) h in
    fits-printable b (leb-true 32 b (and_l (leb 32 b) (ltb b 127) p)) (ltb-true b 127 (and_r (leb 32 b) (ltb b 127) p)) c w (omega arith)
    ∙ fits-plain (suc c) w (and_r (leb 32 b && ltb b 127) (all printable w) h) (omega arith)

plain-line : (w : List ℕ) → all printable w ≡ true → length w ≤ 2048 → is_fine (screened w) ≡ true
plain-line w h l = fits-screened w ∙ fits-plain 0 w h (omega arith)

number-line : (d : Decimal) → length (render_number d) ≤ 60 → is_fine (screened (render_number d)) ≡ true
unfolding all others printable
number-line d l = plain-line (render_number d) (number-made printable refl refl (render_number d) (number_is d)) (omega arith)

-- the line of a record
module _ (ar : List ℕ) (f : Fields) where
  strict-line : (k : Kind) → is_end k ≡ false → FineRecord Strict ar k f → is_fine (screened (lead_for Strict ar k f ++ word_for ar k f)) ≡ true
  unfolding is_end lead_for word_for token_text shape_of is_content is_bare_field all printable key_loop key_save decimal_of
  strict-line NoKind e h = absurd (true≢false e)
  strict-line Block e h = content-lines Strict ar f Block refl h
  strict-line FrameOpen e h = content-lines Strict ar f FrameOpen refl h
  strict-line FrameClose e h = plain-line key_save refl (omega arith)
  strict-line Tag e h = content-lines Strict ar f Tag refl h
  strict-line Loop e h = plain-line key_loop refl (omega arith)
  strict-line LoopTag e h = content-lines Strict ar f LoopTag refl h
  strict-line LoopEnd e h = absurd (true≢false e)
  strict-line Inapplicable e h = plain-line (46 ∷ []) refl (omega arith)
  strict-line Unknown e h = plain-line (63 ∷ []) refl (omega arith)
  strict-line Bare e h = content-lines Strict ar f Bare refl h
  strict-line SingleQuoted e h = content-lines Strict ar f SingleQuoted refl h
  strict-line DoubleQuoted e h = content-lines Strict ar f DoubleQuoted refl h
  strict-line Multiline e h = content-lines Strict ar f Multiline refl h
  strict-line Number e h = number-line (decimal_of false f.parts) (number_short (decimal_of false f.parts) (parts-limits f.parts (h.parts refl)).places)
  strict-line Uncertain e h = number-line (decimal_of true f.parts) (number_short (decimal_of true f.parts) (parts-limits f.parts (h.parts refl)).places)
  strict-line Quoted e h = content-lines Strict ar f Quoted refl h

line_kept : (r : Reading) (ar : List ℕ) (f : Fields) (k : Kind) → is_end k ≡ false → FineRecord r ar k f → keeps_lines r (lead_for r ar k f ++ word_for ar k f) ≡ true
line_kept First ar f k e h = refl
line_kept Strict ar f k e h = strict-line ar f k e h

none_kept : (r : Reading) → keeps_lines r [] ≡ true
none_kept First = refl
none_kept Strict = fits-screened [] ∙ fits-none 0

-- ALL LINES of a sound store's rendering
pub rendering-kept : (r : Reading) (ar : List ℕ) {a n : ℕ} {es : List (Option Entry)} → Filled r ar a n es → keeps_lines r (render (lines_for r ar es)) ≡ true
unfolding lines_for line_for render
rendering-kept r ar (full e) = none_kept r
rendering-kept r ar (more {es = es} {k = k} {f = f} h z g) = by (is_end k) refl (rendering-kept r ar g)
  where
    l : List ℕ
    l = lead_for r ar k f

    w : List ℕ
    w = word_for ar k f

    by : (t : Bool) → is_end k ≡ t → keeps_lines r (render (lines_for r ar es)) ≡ true → keeps_lines r (render (cond t ending (line (number_of k) l w) ∷ lines_for r ar es)) ≡ true
    by true e q = q
    by false e q =
        let y : l ++ (w ++ 10 ∷ render (lines_for r ar es)) ≡ (l ++ w) ++ 10 ∷ render (lines_for r ar es) = sym (append_assoc l w (10 ∷ render (lines_for r ar es))) in
        rw y (kept_line r (l ++ w) (render (lines_for r ar es)) (line_kept r ar f k e h) q)

-- so the tokens alone decide
screens-fine : (x : Result (Unit {0}) Flaw) (a : Answer) → is_fine x ≡ true → screens x a ≡ a
unfolding screens is_fine
screens-fine (Ok u) a e = refl
screens-fine (Err (LongLine o)) a e = absurd (true≢false (sym e))
screens-fine (Err (Control o)) a e = absurd (true≢false (sym e))

pub kept-checked : (r : Reading) (s : List ℕ) (a : Answer) → keeps_lines r s ≡ true → checked r s a ≡ a
kept-checked First s a e = refl
kept-checked Strict s a e = screens-fine (screened s) a e
