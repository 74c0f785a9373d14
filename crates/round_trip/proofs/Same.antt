-- What the records of a rendering say, by either reading. Proved: each says what its record in the store says (say-same), and the records take as much room in store and area as
-- those that were rendered (store_same, area_same). Assumes nothing.
use Prim.Native.Nat.{ℕ, zero, suc, ◌+◌, ◌-◌, ◌%◌, ◌≤◌, ◌<◌}
use mathlib.Core.Bool.{true≢false, false≢true, Bool, true, false, cond}
use mathlib.Core.Path.{◌≡◌, refl, sym, ap, ap₂, subst}
use mathlib.Core.List.{List, [], ◌∷◌, ◌++◌, append_assoc, append-nil, map}
use native.Mathlib.Omega.{arith}
use borrow.Author.Tests.{leb-true}
use lib.Dec.{eqb, leb}
use lib.ListN.{length, take, drop, length-append}
use lib.Seq.{drop-append-add, drop-append_seam, take-append_seam, drop_at}
use Rattle.rules.specs.declared.Reading.{Reading}
use Rattle.text.proofs.Bools.{and_l}
use Rattle.keywords.specs.Keywords.{key_data, key_save}
use Rattle.numbers.specs.Parts.{parts}
use Rattle.numbers.specs.Meaning.{meaning}
use Rattle.numbers.specs.Spelling.{render_number}
use Rattle.numbers.proofs.Spelled.{number-means}
use Rattle.entries.specs.declared.Entry.{Entry}
use Rattle.entries.specs.declared.Fields.{Fields}
use Rattle.kinds.specs.declared.Kind.{Kind}
use Rattle.kinds.specs.declared.Kind.TheVariants.{NoKind, Block, FrameOpen, FrameClose, Tag, Loop, LoopTag, LoopEnd, Inapplicable, Unknown, Bare, SingleQuoted, DoubleQuoted, Multiline, Number, Uncertain, Quoted}
use Rattle.entries.specs.declared.Parts.{Parts}
use Rattle.kinds.specs.Kinds.{kind_of, number_of, shape_of, shape_length, body_length, marks_of, opening, is_content, has_content}
use Rattle.records.specs.Bytes.{flag}
use Rattle.entries.specs.Entries.{no_parts, stored, is_kind, whole}
use Rattle.grammar.specs.Machine.{Rec, loop_end}
use Rattle.sizes.specs.Sizes.{content_size, store_size, area_size}
use Rattle.desk.specs.Written.{token_text as text_of, content_of, decimal_of as read_decimal}
use Rattle.readable.specs.Tokens.{mark}
use Rattle.contents.specs.Contents.{parts_kept, content_length, content_bytes}
use Rattle.stores.specs.Soundness.{takes}
use Rattle.record_lines.specs.Lines.{decimal_of, token_text, is_end}
use Rattle.written.specs.Sayings.{Saying, says, content_in, saying}
use Rattle.round_trip.proofs.Lines.{line, ending, render, recs_at}
use Rattle.written.proofs.Told.{parts_in, told}
use Rattle.round_trip.proofs.Alone.{has_parts, Fine, number-kept, word_for, lead_for, quoted-some}
use Rattle.round_trip.proofs.Nests.{Filled, full, more, line_for, lines_for, number-kind}
use Rattle.std.specs.Prelude.{Option}

-- Decimal parts

sign-back : (n : ℕ) → n ≤ 1 → flag (eqb n 1) ≡ n
unfolding flag
sign-back zero h = refl
sign-back (suc zero) h = refl
sign-back (suc (suc n)) h = absurd (omega arith)

exponent-back : (e : ℕ) → e < 4294967296 → cond (leb 2147483648 e) (4294967296 - cond (leb 2147483648 e) (4294967296 - e) e) (cond (leb 2147483648 e) (4294967296 - e) e) % 4294967296 ≡ e
exponent-back e h = by (leb 2147483648 e) refl
  where
    by : (t : Bool) → leb 2147483648 e ≡ t → cond t (4294967296 - cond t (4294967296 - e) e) (cond t (4294967296 - e) e) % 4294967296 ≡ e
    by true q = omega (arith, leb-true 2147483648 e q)
    by false q = omega arith

-- what a number's parts stand for is stored as those parts
stored_back : (u : Bool) (p : Parts) → parts_kept p ≡ true → p.exponent < 4294967296 → stored (decimal_of u p) p.uncertainty ≡ p
unfolding stored decimal_of parts_kept
stored_back u p e h =
    let s = sign-back p.sign (leb-true p.sign 1 (and_l (leb p.sign 1) _ e)) in
    let x = exponent-back p.exponent h in
    λ i. record { sign = s i; integer = p.integer; fraction = p.fraction; places = p.places; exponent = x i; uncertainty = p.uncertainty }

-- a token read: its decimal parts are those that it was rendered from
module _ (g : Reading) (ar : List ℕ) (f : Fields) where
  no-parts : (k : Kind) → has_parts (shape_of k) ≡ false → Fine g ar k f → no_parts ≡ f.parts
  no-parts k e h = sym (h.stored.none e)

  -- the number that a rendered number means
  means-back : (u : Bool) (k : Kind) → is_content (shape_of k) ≡ false → Fine g ar k f → (u ≡ false → k ≡ Number) → meaning (parts (render_number (decimal_of u f.parts))) ≡ decimal_of u f.parts
  means-back u k e h c = number-means (decimal_of u f.parts) (number-kept u f.parts (h.parts e) h.stored.exponent (λ q. h.stored.certain (c q)))

  same_back : (u : Bool) (k : Kind) → is_content (shape_of k) ≡ false → Fine g ar k f → (n : ℕ) → n ≡ f.parts.uncertainty → stored (decimal_of u f.parts) n ≡ f.parts
  same_back u k e h n q = rw q (stored_back u f.parts (h.parts e) h.stored.exponent)

  parts-back : (k : Kind) → Fine g ar k f → parts_in (shape_of k) (meaning (parts (word_for ar k f))) ≡ f.parts
  unfolding parts_in shape_of has_parts is_content word_for token_text
  parts-back NoKind h = no-parts NoKind refl h
  parts-back Block h = no-parts Block refl h
  parts-back FrameOpen h = no-parts FrameOpen refl h
  parts-back FrameClose h = no-parts FrameClose refl h
  parts-back Tag h = no-parts Tag refl h
  parts-back Loop h = no-parts Loop refl h
  parts-back LoopTag h = no-parts LoopTag refl h
  parts-back LoopEnd h = no-parts LoopEnd refl h
  parts-back Inapplicable h = no-parts Inapplicable refl h
  parts-back Unknown h = no-parts Unknown refl h
  parts-back Bare h = no-parts Bare refl h
  parts-back SingleQuoted h = no-parts SingleQuoted refl h
  parts-back DoubleQuoted h = no-parts DoubleQuoted refl h
  parts-back Multiline h = no-parts Multiline refl h
  parts-back Quoted h = no-parts Quoted refl h
  parts-back Number h = rw (means-back false Number refl h (λ q. refl)) (same_back false Number refl h 0 (sym (h.stored.certain refl)))
  parts-back Uncertain h = rw (means-back true Uncertain refl h (λ q. absurd (true≢false q))) (same_back true Uncertain refl h _ (unfold decimal_of in refl))

-- Contents: a token is its content between what stands before and behind
record Split (k : Kind) (w c : List ℕ) : Type 0 where
  pre : List ℕ
  post : List ℕ
  joins : w ≡ pre ++ (c ++ post)
  before : length pre ≡ opening k
  marks : length pre + length post ≡ marks_of k

split : (k : Kind) (c : List ℕ) (p : Parts) → is_content (shape_of k) ≡ true → (k ≡ Quoted → 0 < length c) → Split k (token_text k c p) c
unfolding is_content shape_of token_text opening marks_of key_data key_save mark
split NoKind c p e some = absurd (false≢true e)
split Block c p e some = record { pre = key_data; post = []; joins = rw append-nil; before = refl; marks = refl }
split FrameOpen c p e some = record { pre = key_save; post = []; joins = rw append-nil; before = refl; marks = refl }
split FrameClose c p e some = absurd (false≢true e)
split Tag c p e some = record { pre = 95 ∷ []; post = []; joins = rw append-nil; before = refl; marks = refl }
split Loop c p e some = absurd (false≢true e)
split LoopTag c p e some = record { pre = 95 ∷ []; post = []; joins = rw append-nil; before = refl; marks = refl }
split LoopEnd c p e some = absurd (false≢true e)
split Inapplicable c p e some = absurd (false≢true e)
split Unknown c p e some = absurd (false≢true e)
split Bare c p e some = record { pre = []; post = []; joins = rw append-nil; before = refl; marks = refl }
split SingleQuoted c p e some = record { pre = 39 ∷ []; post = 39 ∷ []; joins = refl; before = refl; marks = refl }
split DoubleQuoted c p e some = record { pre = 34 ∷ []; post = 34 ∷ []; joins = refl; before = refl; marks = refl }
split Multiline c p e some = record { pre = 59 ∷ []; post = 59 ∷ []; joins = refl; before = refl; marks = refl }
split Quoted [] p e some = absurd (omega (arith, some refl))
split Quoted (b ∷ c) p e some = record { pre = []; post = b ∷ []; joins = refl; before = refl; marks = refl }
split Number c p e some = absurd (false≢true e)
split Uncertain c p e some = absurd (false≢true e)

-- A token w in its place, between p and q

module _ (g : Reading) (ar : List ℕ) (k : Kind) (f : Fields) (h : Fine g ar k f) where
  filled : k ≡ Quoted → 0 < length (content_bytes ar k f)
  filled e = rw e (quoted-some g ar f (rw e at h))

  rendered : List ℕ → Rec
  rendered p = record { kind = number_of k; at = length p; size = length (word_for ar k f) }

  -- the room of its content
  size_same : content_size (number_of k) (length (word_for ar k f)) ≡ takes k f
  unfolding content_size takes has_content
  size_same = rw (number-kind k) (by (is_content (shape_of k)) refl)
    where
      by : (t : Bool) → is_content (shape_of k) ≡ t → cond t (length (word_for ar k f) - marks_of k) 0 ≡ cond t (content_length k f) 0
      by false e = refl
      by true e =
          let c = content_bytes ar k f in
          let x : Split k (word_for ar k f) c = unfold word_for in split k c f.parts e filled in
          rw x.joins (simp length-append (omega (arith, x.marks, h.size e)))

  content-same : (p q : List ℕ) → content_of (p ++ (word_for ar k f ++ q)) (rendered p) ≡ content_in ar k f
  unfolding content_of content_in rendered
  content-same p q = rw (number-kind k, drop-append-add p (word_for ar k f ++ q) (opening k), size_same) (by (is_content (shape_of k)) refl)
    where
      by : (t : Bool) → is_content (shape_of k) ≡ t → take (takes k f) (drop (opening k) (word_for ar k f ++ q)) ≡ cond t (content_bytes ar k f) []
      by false e = unfold takes in rw e
      by true e =
          let c = content_bytes ar k f in
          let x : Split k (word_for ar k f) c = unfold word_for in split k c f.parts e filled in
          let n : takes k f ≡ length c = unfold takes in rw e (sym (h.size e)) in
          rw (x.joins, append_assoc x.pre (c ++ x.post) q, drop_at x.pre ((c ++ x.post) ++ q) (opening k) x.before, append_assoc c x.post q, n) (take-append_seam c (x.post ++ q))

  say-same : (next : ℕ) (p q : List ℕ) → told (p ++ (word_for ar k f ++ q)) (rendered p) ≡ saying ar (whole k f next)
  unfolding told saying rendered read_decimal text_of
  say-same next p q =
      let w = word_for ar k f in
      let token : take (length w) (drop (length p) (p ++ (w ++ q))) ≡ w = rw (drop-append_seam p (w ++ q)) (take-append_seam w q) in
      let d : parts_in (shape_of (kind_of (number_of k))) (meaning (parts (take (length w) (drop (length p) (p ++ (w ++ q)))))) ≡ f.parts = rw (number-kind k, token) (parts-back g ar f k h) in
      λ i. says (number-kind k i) (content-same p q i) (d i)

-- a loop's end has no token
end-kind : (k : Kind) → is_end k ≡ true → is_kind k ≡ true → k ≡ LoopEnd
unfolding is_end is_kind
end-kind NoKind e h = absurd (false≢true h)
end-kind Block e h = absurd (false≢true e)
end-kind FrameOpen e h = absurd (false≢true e)
end-kind FrameClose e h = absurd (false≢true e)
end-kind Tag e h = absurd (false≢true e)
end-kind Loop e h = absurd (false≢true e)
end-kind LoopTag e h = absurd (false≢true e)
end-kind LoopEnd e h = refl
end-kind Inapplicable e h = absurd (false≢true e)
end-kind Unknown e h = absurd (false≢true e)
end-kind Bare e h = absurd (false≢true e)
end-kind SingleQuoted e h = absurd (false≢true e)
end-kind DoubleQuoted e h = absurd (false≢true e)
end-kind Multiline e h = absurd (false≢true e)
end-kind Number e h = absurd (false≢true e)
end-kind Uncertain e h = absurd (false≢true e)
end-kind Quoted e h = absurd (false≢true e)

say-end : (g : Reading) (s ar : List ℕ) (k : Kind) (f : Fields) (next : ℕ) → Fine g ar k f → is_end k ≡ true → told s loop_end ≡ saying ar (whole k f next)
unfolding told saying loop_end kind_of content_of content_size has_content shape_of is_content content_in parts_in has_parts
say-end g s ar k f next h e =
    let z : k ≡ LoopEnd = end-kind k e h.stored.known in
    rw z (ap (λ (d : Parts). says LoopEnd [] d) (sym (h.stored.none (rw z))))

-- ALL RECORDS of a rendering, from offset o on, behind p
pub all_same : (g : Reading) (ar : List ℕ) {a n : ℕ} {es : List (Option Entry)} → Filled g ar a n es → (p : List ℕ) (o : ℕ) → o ≡ length p → map (told (p ++ render (lines_for g ar es))) (recs_at o (lines_for g ar es)) ≡ map (saying ar) es
unfolding lines_for line_for recs_at render
all_same g ar (full e) p o x = refl
all_same g ar (more {es = es} {k = k} {f = f} {next = next} h z d) p o x = by (is_end k) refl (λ p o x. all_same g ar d p o x)
  where
    l : List ℕ
    l = lead_for g ar k f

    w : List ℕ
    w = word_for ar k f

    q : List ℕ
    q = 10 ∷ render (lines_for g ar es)

    Rest : Type 0
    Rest = (p : List ℕ) (o : ℕ) → o ≡ length p → map (told (p ++ render (lines_for g ar es))) (recs_at o (lines_for g ar es)) ≡ map (saying ar) es

    by : (t : Bool) → is_end k ≡ t → Rest → map (told (p ++ render (cond t ending (line (number_of k) l w) ∷ lines_for g ar es))) (recs_at o (cond t ending (line (number_of k) l w) ∷ lines_for g ar es)) ≡ saying ar (whole k f next) ∷ map (saying ar) es
    by true e r = ap₂ {C = List Saying} ◌∷◌ (say-end g _ ar k f next h e) (r p o x)
    by false e r =
        ap₂ {C = List Saying} ◌∷◌
        (let y : (p ++ l) ++ (w ++ q) ≡ p ++ (l ++ (w ++ q)) = append_assoc p l (w ++ q) in
        let n : length (p ++ l) ≡ o + length l = simp length-append (omega arith) in
        let here : told ((p ++ l) ++ (w ++ q)) (record { kind = number_of k; at = length (p ++ l); size = length w }) ≡ saying ar (whole k f next) =
        unfold rendered in say-same g ar k f h next (p ++ l) q in
        let there : told (p ++ (l ++ (w ++ q))) (record { kind = number_of k; at = length (p ++ l); size = length w }) ≡ saying ar (whole k f next) =
        subst (λ (x : List ℕ). told x (record { kind = number_of k; at = length (p ++ l); size = length w }) ≡ saying ar (whole k f next)) y here in
        subst (λ (m : ℕ). told (p ++ (l ++ (w ++ q))) (record { kind = number_of k; at = m; size = length w }) ≡ saying ar (whole k f next)) n there)
        (let y : p ++ (l ++ (w ++ q)) ≡ (p ++ (l ++ (w ++ 10 ∷ []))) ++ render (lines_for g ar es) = simp append_assoc in
        subst (λ (x : List ℕ). map (told x) (recs_at (suc (o + length l + length w)) (lines_for g ar es)) ≡ map (saying ar) es) (sym y)
        (r (p ++ (l ++ (w ++ 10 ∷ []))) (suc (o + length l + length w)) (simp length-append (omega arith))))

-- and the room that they take
end-takes : (f : Fields) → takes LoopEnd f ≡ 0
unfolding takes shape_of is_content
end-takes f = refl

end-content : content_size 7 0 ≡ 0
unfolding content_size has_content kind_of shape_of is_content
end-content = refl

pub store_same : (r : Reading) (ar : List ℕ) {a n : ℕ} {es : List (Option Entry)} → Filled r ar a n es → (o : ℕ) → store_size (recs_at o (lines_for r ar es)) ≡ n
unfolding lines_for line_for recs_at store_size loop_end body_length kind_of
store_same r ar (full e) o = refl
store_same r ar (more {n = n} {es = es} {k = k} {f = f} {next = next} h z g) o = by (is_end k) refl (λ o. store_same r ar g o)
  where
    by : (t : Bool) → is_end k ≡ t → ((o : ℕ) → store_size (recs_at o (lines_for r ar es)) ≡ n) → store_size (recs_at o (cond t ending (line (number_of k) (lead_for r ar k f) (word_for ar k f)) ∷ lines_for r ar es)) ≡ next + n
    by true e x = let y : k ≡ LoopEnd = end-kind k e h.stored.known in omega (arith, x o, ap (λ (k : Kind). shape_length (shape_of k)) y)
    by false e x = omega (arith, x (suc (o + length (lead_for r ar k f) + length (word_for ar k f))), ap (λ (k : Kind). shape_length (shape_of k)) (number-kind k))

pub area_same : (r : Reading) (ar : List ℕ) {a n : ℕ} {es : List (Option Entry)} → Filled r ar a n es → (o : ℕ) → a + area_size (recs_at o (lines_for r ar es)) ≡ length ar
unfolding lines_for line_for recs_at area_size loop_end
area_same r ar (full e) o = omega arith
area_same r ar (more {a = a} {n = n} {es = es} {k = k} {f = f} {next = next} h z g) o = by (is_end k) refl (λ o. area_same r ar g o)
  where
    by : (t : Bool) → is_end k ≡ t → ((o : ℕ) → a + takes k f + area_size (recs_at o (lines_for r ar es)) ≡ length ar) → a + area_size (recs_at o (cond t ending (line (number_of k) (lead_for r ar k f) (word_for ar k f)) ∷ lines_for r ar es)) ≡ length ar
    by true e x =
        let y : k ≡ LoopEnd = end-kind k e h.stored.known in
        omega (arith, x o, end-takes f, ap (λ (k : Kind). takes k f) y, end-content)
    by false e x = omega (arith, x (suc (o + length (lead_for r ar k f) + length (word_for ar k f))), size_same r ar k f h)
