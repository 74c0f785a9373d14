-- Laws of a record's line: its pieces, its length, and what a sound record says of them. Assumes nothing.
use Prim.Native.Nat.{ℕ, zero, suc, ◌+◌, ◌-◌, ◌≤◌}
use mathlib.Core.Path.{◌≡◌, refl, sym, ap, ◌∙◌}
use mathlib.Core.Bool.{Bool, true, false, cond, true≢false}
use mathlib.Core.List.{List, [], ◌∷◌, ◌++◌, append_assoc}
use native.Mathlib.Omega.{arith}
use lib.Dec.{ltb}
use lib.ListN.{length, take, drop, get_or, length-append}
use lib.Seq.{drop-cons}
use mathlib.Core.Logic.{inl, inr}
use types.Run.{OneOf}
use denote.Enum.Declared.{tag_of}
use Rattle.rules.specs.declared.Reading.{Reading}
use Rattle.text.proofs.Bools.{and_l, and_r}
use Rattle.keywords.specs.Keywords.{key_data, key_loop, key_save}
use Rattle.numbers.specs.Spelling.{render_number}
use Rattle.kinds.specs.declared.Kind.{Kind}
use Rattle.kinds.specs.declared.Kind.TheVariants.{NoKind, Block, FrameOpen, FrameClose, Tag, Loop, LoopTag, LoopEnd, Inapplicable, Unknown, Bare, SingleQuoted, DoubleQuoted, Multiline, Number, Uncertain, Quoted}
use Rattle.kinds.specs.declared.Shape.{Shape}
use Rattle.kinds.specs.declared.Shape.TheVariants.{Empty, Place, Content, Count, Parts as PartsShape, PartsUncertain}
use Rattle.entries.specs.declared.Parts.{Parts}
use Rattle.entries.specs.declared.Fields.{Fields}
use Rattle.kinds.specs.Kinds.{shape_of, is_content, marks_of}
use Rattle.kinds.specs.contracts.Shape.{the_type as shape-type}
use Rattle.readable.specs.Tokens.{mark, is_led}
use Rattle.readable.proofs.Readable.{led-bare, mark-none, mark-some, quoted-some}
use Rattle.contents.specs.Contents.{content_length, content_bytes, parts_kept, is_inside, own_rule}
use Rattle.contents.proofs.Kept.{Lies, content-length, content-bytes, content-size, own-placed, placed-in, own-inside, own-readable, own-parts, parts-limits}
use Rattle.record_lines.specs.Lines.{decimal_of, token_text, is_end, plain_line, line_of}
use Rattle.record_lines.specs.Writing.{mark_of, opening_text, body_by, body_text, closing_text, keeps_digits, is_writable, plain_length, line_length}
use Rattle.numerals.specs.Written.{Short}
use Rattle.entries.specs.Entries.{whole}

-- The pieces of a line

-- what opens a token of one mark or two
pub opening-mark : (k : Kind) → true ≡ ltb 0 (mark_of k) → opening_text k ≡ mark_of k ∷ []
unfolding mark_of opening_text
opening-mark NoKind e = absurd (true≢false e)
opening-mark Block e = absurd (true≢false e)
opening-mark FrameOpen e = absurd (true≢false e)
opening-mark FrameClose e = absurd (true≢false e)
opening-mark Tag e = refl
opening-mark Loop e = absurd (true≢false e)
opening-mark LoopTag e = refl
opening-mark LoopEnd e = absurd (true≢false e)
opening-mark Inapplicable e = refl
opening-mark Unknown e = refl
opening-mark Bare e = absurd (true≢false e)
opening-mark SingleQuoted e = refl
opening-mark DoubleQuoted e = refl
opening-mark Multiline e = refl
opening-mark Number e = absurd (true≢false e)
opening-mark Uncertain e = absurd (true≢false e)
opening-mark Quoted e = absurd (true≢false e)

-- what closes one of two, where nothing of the content does
pub closing-mark : (k : Kind) (c : List ℕ) → true ≡ ltb 1 (length (closing_text k [])) → closing_text k c ≡ (mark_of k ∷ []) ++ (10 ∷ [])
unfolding mark_of closing_text
closing-mark NoKind c e = absurd (true≢false e)
closing-mark Block c e = absurd (true≢false e)
closing-mark FrameOpen c e = absurd (true≢false e)
closing-mark FrameClose c e = absurd (true≢false e)
closing-mark Tag c e = absurd (true≢false e)
closing-mark Loop c e = absurd (true≢false e)
closing-mark LoopTag c e = absurd (true≢false e)
closing-mark LoopEnd c e = absurd (true≢false e)
closing-mark Inapplicable c e = absurd (true≢false e)
closing-mark Unknown c e = absurd (true≢false e)
closing-mark Bare c e = absurd (true≢false e)
closing-mark SingleQuoted c e = refl
closing-mark DoubleQuoted c e = refl
closing-mark Multiline c e = refl
closing-mark Number c e = absurd (true≢false e)
closing-mark Uncertain c e = absurd (true≢false e)
closing-mark Quoted c e = absurd (true≢false (e ∙ ap (λ (m : List ℕ). ltb 1 (length (m ++ (10 ∷ [])))) (mark-none [] refl)))

-- the first byte of a part
pub mark-empty : (s : List ℕ) (from size : ℕ) → size ≡ 0 → mark (take size (drop from s)) ≡ []
mark-empty s from size e = rw e (mark-none [] refl)

pub mark-part : (s : List ℕ) (from size : ℕ) → size ≤ length s - from → (size ≡ 0 → ⊥) → mark (take size (drop from s)) ≡ get_or s from 0 ∷ []
mark-part s from zero h e = absurd (e refl)
mark-part s from (suc n) h e = rw (drop-cons s from 0 (omega arith)) (mark-some (get_or s from 0 ∷ take n (drop (suc from) s)) (λ z. omega arith))

-- what closes a quoted value of the strict reading
pub closing-quoted : (ar : List ℕ) (k : Kind) (f : Fields) (size : ℕ) → size ≡ content_length k f → k ≡ Quoted → closing_text k (content_bytes ar k f) ≡ mark (take size (drop f.number ar)) ++ (10 ∷ [])
unfolding closing_text
closing-quoted ar k f size e q =
    let bytes : content_bytes ar k f ≡ take size (drop f.number ar) = content-bytes ar k f ∙ sym (ap (λ n. take n (drop f.number ar)) (e ∙ content-length k f)) in
    ap (λ c. closing_text k c) bytes ∙ rw q

module _ (ar : List ℕ) (k : Kind) (f : Fields) where
  pub body-content : shape_of k ≡ Content → body_text ar k f ≡ take (f.token.length - marks_of k) (drop f.number ar)
  unfolding body_text body_by
  body-content e = rw e (content-bytes ar k f)

  pub body-parts : shape_of k ≡ PartsShape → body_text ar k f ≡ render_number (decimal_of false f.parts)
  unfolding body_text body_by
  body-parts e = rw e

  pub body-uncertain : shape_of k ≡ PartsUncertain → body_text ar k f ≡ render_number (decimal_of true f.parts)
  unfolding body_text body_by
  body-uncertain e = rw e

-- nothing in it by its shape
pub body-none : (s : Shape) (c : List ℕ) (p : Parts) → OneOf (0 ∷ 1 ∷ 3 ∷ []) (tag_of shape-type s) → body_by s c p ≡ []
unfolding body_by
body-none Empty c p h = refl
body-none Place c p h = refl
body-none Count c p h = refl
body-none Content c p (inl h) = absurd (omega arith)
body-none Content c p (inr (inl h)) = absurd (omega arith)
body-none Content c p (inr (inr h)) = absurd (omega arith)
body-none PartsShape c p (inl h) = absurd (omega arith)
body-none PartsShape c p (inr (inl h)) = absurd (omega arith)
body-none PartsShape c p (inr (inr h)) = absurd (omega arith)
body-none PartsUncertain c p (inl h) = absurd (omega arith)
body-none PartsUncertain c p (inr (inl h)) = absurd (omega arith)
body-none PartsUncertain c p (inr (inr h)) = absurd (omega arith)

-- the pieces together
quoted : (m : ℕ) (c : List ℕ) → (m ∷ (c ++ (m ∷ []))) ++ (10 ∷ []) ≡ m ∷ (c ++ (m ∷ 10 ∷ []))
quoted m c = ap (λ (z : List ℕ). m ∷ z) (append_assoc c (m ∷ []) (10 ∷ []))

pub line-pieces : (ar : List ℕ) (k : Kind) (f : Fields) → is_end k ≡ false → plain_line ar k f ≡ opening_text k ++ (body_text ar k f ++ closing_text k (content_bytes ar k f))
unfolding is_end token_text opening_text body_text body_by shape_of closing_text key_data key_save key_loop
line-pieces ar NoKind f e = absurd (true≢false e)
line-pieces ar Block f e = refl
line-pieces ar FrameOpen f e = refl
line-pieces ar FrameClose f e = refl
line-pieces ar Tag f e = refl
line-pieces ar Loop f e = refl
line-pieces ar LoopTag f e = refl
line-pieces ar LoopEnd f e = absurd (true≢false e)
line-pieces ar Inapplicable f e = refl
line-pieces ar Unknown f e = refl
line-pieces ar Bare f e = refl
line-pieces ar SingleQuoted f e = quoted 39 (content_bytes ar SingleQuoted f)
line-pieces ar DoubleQuoted f e = quoted 34 (content_bytes ar DoubleQuoted f)
line-pieces ar Multiline f e = quoted 59 (content_bytes ar Multiline f)
line-pieces ar Number f e = refl
line-pieces ar Uncertain f e = refl
line-pieces ar Quoted f e = append_assoc (content_bytes ar Quoted f) (mark (content_bytes ar Quoted f)) (10 ∷ [])

pub line-none : (ar : List ℕ) (k : Kind) (f : Fields) → is_end k ≡ true → plain_line ar k f ≡ []
line-none ar k f e = rw e

-- behind a space, or as it is
module _ (r : Reading) (ar : List ℕ) (k : Kind) (f : Fields) where
  pub line-led : is_led r k (content_bytes ar k f) ≡ true → line_of r ar (whole k f 0) ≡ (32 ∷ []) ++ plain_line ar k f
  unfolding line_of
  line-led e = rw e

  pub line_plain : is_led r k (content_bytes ar k f) ≡ false → line_of r ar (whole k f 0) ≡ plain_line ar k f
  unfolding line_of
  line_plain e = rw e

-- What writing asks of a record, one that keeps its own rule has

-- a number has no more digits than can be written
pub rule-digits : (r : Reading) (ar : List ℕ) (k : Kind) (f : Fields) → own_rule r ar k f ≡ true → keeps_digits k f ≡ true
unfolding keeps_digits
rule-digits r ar k f h = by (is_content (shape_of k)) refl
  where
    by : (t : Bool) → is_content (shape_of k) ≡ t → cond t true (parts_kept f.parts) ≡ true
    by true e = refl
    by false e = own-parts r ar k f h e

pub rule-writable : (r : Reading) (ar : List ℕ) (k : Kind) (f : Fields) → own_rule r ar k f ≡ true → is_writable ar k f ≡ true
unfolding is_writable
rule-writable r ar k f h = rw (own-placed r ar k f h) (rule-digits r ar k f h)

-- its content lies inside the area; its number keeps the limits
module _ (ar : List ℕ) (k : Kind) (f : Fields) (h : is_writable ar k f ≡ true) where
  pub writable-inside : is_content (shape_of k) ≡ true → Lies (length ar) k f
  unfolding is_writable
  writable-inside e = placed-in (length ar) k f (and_l (is_inside (length ar) k f) _ h) e

  pub writable-parts : is_content (shape_of k) ≡ false → parts_kept f.parts ≡ true
  unfolding is_writable keeps_digits
  writable-parts e = rw e at (and_r (is_inside (length ar) k f) _ h)

pub digits-kept : (k j : Kind) (f : Fields) → k ≡ j → is_content (shape_of j) ≡ false → keeps_digits k f ≡ true → parts_kept f.parts ≡ true
unfolding keeps_digits
digits-kept k j f e t h = let c : is_content (shape_of k) ≡ false = rw e t in rw c at h

pub parts-short : (u : Bool) (p : Parts) → parts_kept p ≡ true → Short (decimal_of u p)
unfolding decimal_of
parts-short u p h =
    let limits = parts-limits p h in
    record { integer = limits.integer; places = limits.places; exponent = limits.exponent; uncertainty = limits.uncertainty }

-- The length of a line

-- P's length is that of the content and the marks
token-size : (r : Reading) (ar : List ℕ) (k : Kind) (f : Fields) → is_content (shape_of k) ≡ true → own_rule r ar k f ≡ true → length (content_bytes ar k f) + marks_of k ≡ f.token.length
token-size r ar k f e h = content-size ar k f (own-inside r ar k f h e)

-- a content behind what opens it, and LF
prefixed : (o c : List ℕ) (n : ℕ) → length c + length o ≡ n → length ((o ++ c) ++ (10 ∷ [])) ≡ 1 + n
prefixed o c n e = omega (arith, length-append (o ++ c) (10 ∷ []), length-append o c)

bordered : (q : ℕ) (c : List ℕ) (n : ℕ) → length c + 2 ≡ n → length ((q ∷ (c ++ (q ∷ []))) ++ (10 ∷ [])) ≡ 1 + n
bordered q c n e = omega (arith, length-append (q ∷ (c ++ (q ∷ []))) (10 ∷ []), length-append c (q ∷ []))

closed : (c : List ℕ) (n : ℕ) → (length c ≡ 0 → ⊥) → length c + 1 ≡ n → length ((c ++ mark c) ++ (10 ∷ [])) ≡ 1 + n
closed c n h e =
    let one : length (mark c) ≡ 1 = ap length (mark-some c h) in
    omega (arith, length-append (c ++ mark c) (10 ∷ []), length-append c (mark c))

plain_size : (r : Reading) (ar : List ℕ) (k : Kind) (f : Fields) → own_rule r ar k f ≡ true → length (plain_line ar k f) ≡ plain_length k f
unfolding is_end token_text plain_length shape_of is_content marks_of key_data key_save key_loop
plain_size r ar NoKind f h = refl
plain_size r ar Block f h = prefixed key_data (content_bytes ar Block f) f.token.length (token-size r ar Block f refl h)
plain_size r ar FrameOpen f h = prefixed key_save (content_bytes ar FrameOpen f) f.token.length (token-size r ar FrameOpen f refl h)
plain_size r ar FrameClose f h = refl
plain_size r ar Tag f h = prefixed (95 ∷ []) (content_bytes ar Tag f) f.token.length (token-size r ar Tag f refl h)
plain_size r ar Loop f h = refl
plain_size r ar LoopTag f h = prefixed (95 ∷ []) (content_bytes ar LoopTag f) f.token.length (token-size r ar LoopTag f refl h)
plain_size r ar LoopEnd f h = refl
plain_size r ar Inapplicable f h = refl
plain_size r ar Unknown f h = refl
plain_size r ar Bare f h = prefixed [] (content_bytes ar Bare f) f.token.length (token-size r ar Bare f refl h)
plain_size r ar SingleQuoted f h = bordered 39 (content_bytes ar SingleQuoted f) f.token.length (token-size r ar SingleQuoted f refl h)
plain_size r ar DoubleQuoted f h = bordered 34 (content_bytes ar DoubleQuoted f) f.token.length (token-size r ar DoubleQuoted f refl h)
plain_size r ar Multiline f h = bordered 59 (content_bytes ar Multiline f) f.token.length (token-size r ar Multiline f refl h)
plain_size r ar Number f h = prefixed [] (render_number (decimal_of false f.parts)) (length (render_number (decimal_of false f.parts))) (omega arith)
plain_size r ar Uncertain f h = prefixed [] (render_number (decimal_of true f.parts)) (length (render_number (decimal_of true f.parts))) (omega arith)
plain_size r ar Quoted f h = closed (content_bytes ar Quoted f) f.token.length (quoted-some r (content_bytes ar Quoted f) (own-readable r ar Quoted f h refl)) (token-size r ar Quoted f refl h)

-- with what stands before it
pub line-size : (r : Reading) (ar : List ℕ) (k : Kind) (f : Fields) → own_rule r ar k f ≡ true → length (line_of r ar (whole k f 0)) ≡ line_length r ar k f
unfolding line_length
line-size r ar k f h = by (is_led r k (content_bytes ar k f)) refl
  where
    by : (t : Bool) → is_led r k (content_bytes ar k f) ≡ t → length (line_of r ar (whole k f 0)) ≡ cond t (1 + plain_length k f) (plain_length k f)
    by true e = ap length (line-led r ar k f e) ∙ omega (arith, plain_size r ar k f h)
    by false e = ap length (line_plain r ar k f e) ∙ plain_size r ar k f h

-- and as the code asks for it: behind a space stands a content of the area
pub plain-few : (r : Reading) (ar : List ℕ) (k : Kind) (f : Fields) → own_rule r ar k f ≡ true → is_led r k (content_bytes ar k f) ≡ true → plain_length k f ≤ 1 + length ar
unfolding shape_of is_content marks_of plain_length
plain-few r ar k f h e =
    let bare : k ≡ Bare = led-bare r k (content_bytes ar k f) e in
    let inside : Lies (length ar) Bare f = own-inside r ar Bare f (rw bare at h) refl in
    rw bare (omega (arith, inside.inside))

module _ (r : Reading) (ar : List ℕ) (k : Kind) (f : Fields) where
  pub length-led : is_led r k (content_bytes ar k f) ≡ true → line_length r ar k f ≡ 1 + plain_length k f
  unfolding line_length
  length-led e = rw e

  pub length-plain : is_led r k (content_bytes ar k f) ≡ false → line_length r ar k f ≡ plain_length k f
  unfolding line_length
  length-plain e = rw e
