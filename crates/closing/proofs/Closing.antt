-- A frame ends as the code finds, against what the machine still answers. Assumes nothing.
use Prim.Native.Nat.{ℕ, ◌+◌, ◌-◌, ◌≤◌}
use mathlib.Core.Path.{◌≡◌, refl, sym, ap, ◌∙◌}
use mathlib.Core.Bool.{Bool, true, false, cond, ◌&&◌, ◌||◌, true≢false}
use mathlib.Core.List.{List, [], ◌∷◌, ◌++◌, append_assoc}
use mathlib.Core.Option.{none, some}
use native.Mathlib.Omega.{arith}
use borrow.Author.Tests.{eqb-true, leb-true, leb-false}
use lib.Dec.{eqb, leb}
use lib.ListN.{length, drop, drop_of_length-le}
use Rattle.rules.specs.declared.Reading.{Reading}
use Rattle.rules.specs.declared.Reading.TheVariants.{First, Strict}
use Rattle.text.proofs.Bools.{or_l, or_r, and_l, and_r}
use Rattle.columns.specs.Before.{byte_before, is_parted}
use Rattle.gaps.specs.Gaps.{gap, gap_end}
use Rattle.gaps.proofs.Gaps.{gap_from, gap_within, gap-none}
use Rattle.words.specs.Words.{word}
use Rattle.keywords.specs.Keywords.{starts, stands, key_save}
use Rattle.keywords.proofs.Starts.{stands-starts, word-is, word_stands}
use Rattle.values.specs.Values.{Class, block, loop, save, tag, value, over_limit, nothing, lexed}
use Rattle.sizes.specs.declared.Sizes.{Sizes}
use Rattle.std.specs.Prelude.{Result, Err}
use Rattle.grammar.specs.declared.Fault.{Fault}
use Rattle.grammar.specs.declared.Cause.TheVariants.{NoItem, NotParted, OpenFrame}
use Rattle.grammar.specs.Causes.{fault}
use Rattle.decisions.specs.declared.Step.{Step}
use Rattle.grammar.specs.Tokens.{in_block, in_frame, lex_in, lex, after, Tok, tok, tokens_from, tokens_at, save_at, close_at, data_at, save_length, save_size}
use Rattle.grammar.specs.Machine.{Rec, Answer, refused, run, config, rec, follow, move, at_item, fails, closes, stop}
use Rattle.sizes.specs.Sizes.{sizes_of, no_sizes, added, joined}
use Rattle.decisions.specs.Decisions.{told, tells}
use Rattle.decisions.specs.Onward.{absent_of, mode_of, left, Passed, Stepped, Framed}
use Rattle.decisions.proofs.Onward.{closing, DroppedAt, NoneHere, Counts, first-left, none_left, absent-told, left-gap, one-fits}
use Rattle.closing.specs.Closing.{leaves_open, unclosed, frame_end}
use Rattle.grammar.proofs.Descent.{failed_run}
use Rattle.grammar.proofs.Lexes.{is_heading, lex-unheaded, first-unheaded}
use Rattle.grammar.proofs.Offsets.{tokens-anywhere, Met, met-close, met-heading}
use Rattle.sizes.proofs.Room.{sizes-append, sizes-one, added_none, upto-joined}

-- A FRAME CLOSES where its items end
-- a `save_` that closes one is a token of five bytes
close-size : (r : Reading) (s : List ℕ) (p : ℕ) → close_at r s p ≡ true → (save_at r s p ≡ true) × (save_length r in_frame (drop p s) ≡ 5)
unfolding close_at save_at save_size
close-size First s p e = (e, refl)
close-size Strict s p e =
    let w = and_r (is_parted Strict (byte_before s p)) _ e in
    (rw (and_l (is_parted Strict (byte_before s p)) _ e) (stands-starts Strict key_save (drop p s) w), unfold key_save in word-is key_save (drop p s) w)

close-token : (r : Reading) (s : List ℕ) (p : ℕ) → gap (drop p s) ≡ 0 → close_at r s p ≡ true → Met r in_frame s p (lexed save 5)
close-token r s p g e =
    let c = close-size r s p e in
    rw c.1 at (met-close s p g r c.0)

pub close-answer : (r : Reading) (s : List ℕ) (a p : ℕ) (out : List Rec) → Met r in_frame s p (lexed save 5) → closing r a out (tokens_at r in_frame s p) ≡ left r 0 none s (p + 5) (out ++ (rec 3 (tok (lexed save 5) p) ∷ []))
unfolding closing failed_run fails closes run move config at_item follow left mode_of lexed tok after
close-answer First s a p out m = rw m.next
close-answer Strict s a p out m = rw m.next

pub frame-closes : (r : Reading) (s : List ℕ) (a o p : ℕ) → DroppedAt r s a o p → close_at r s p ≡ true → (out : List Rec) → left r 0 (some a) s o out ≡ left r 0 none s (gap_end s (p + 5)) (out ++ (rec 3 (tok (lexed save 5) p) ∷ []))
frame-closes r s a o p d e out =
    d.reads out ∙ close-answer r s a p out (close-token r s p d.bare e) ∙ sym (left-gap r 0 none s (p + 5) (out ++ (rec 3 (tok (lexed save 5) p) ∷ [])))

-- a part up to o in a frame that opened at a, and its close at p
closed-passed : (r : Reading) (s : List ℕ) (a o p : ℕ) (z : Sizes) → Passed r s none a (some a) o z 0 → DroppedAt r s a o p → close_at r s p ≡ true → Passed r s none a none (gap_end s (p + 5)) (added z 3 5) 0
unfolding lexed tok rec
closed-passed r s a o p z h d e =
    let m = close-token r s p d.bare e in
    let l : p + 5 ≤ gap_end s (p + 5) = gap_from s (p + 5) in
    let t = rec 3 (tok (lexed save 5) p) in
    record {
      kept = h.kept ++ (t ∷ []);
      sizes = rw (← added_none z 3 5, h.sizes) (ap (joined (sizes_of h.kept)) (sym (sizes-one t)) ∙ sym (sizes-append h.kept (t ∷ [])));
      reads = λ c out. h.reads c out ∙ frame-closes r s a o p d e (out ++ h.kept) ∙ rw append_assoc;
      onward = omega (arith, h.onward, d.onward);
      within = gap_within s (p + 5) m.within;
      bare = gap-none s (p + 5);
      fits = rw (← added_none z 3 5) (upto-joined (o - a) 5 (gap_end s (p + 5) - a) z (added no_sizes 3 5) h.fits (one-fits 3 5 5 (omega arith) (omega arith)) (omega (arith, h.onward, d.onward)));
    }

-- a frame does not close where its items end
is_save : Class → Bool
is_save save = true
is_save block = false
is_save loop = false
is_save tag = false
is_save (value k) = false
is_save over_limit = false
is_save (nothing w) = false

no-close : (c : Class) (a : ℕ) (out : List Rec) (t : Tok) → is_save c ≡ false → closes a out c t ≡ stop (refused 4 a 0)
unfolding is_save closes
no-close save a out t e = absurd (true≢false e)
no-close block a out t e = refl
no-close loop a out t e = refl
no-close tag a out t e = refl
no-close (value k) a out t e = refl
no-close over_limit a out t e = refl
no-close (nothing w) a out t e = refl

unheaded-save : (c : Class) → is_heading c ≡ false → is_save c ≡ false
unfolding is_heading is_save
unheaded-save save e = absurd (true≢false e)
unheaded-save block e = refl
unheaded-save loop e = refl
unheaded-save tag e = refl
unheaded-save (value k) e = refl
unheaded-save over_limit e = refl
unheaded-save (nothing w) e = refl

first-open : (s : List ℕ) (a p : ℕ) (out : List Rec) → gap (drop p s) ≡ 0 → close_at First s p ≡ false → closing First a out (tokens_at First in_frame s p) ≡ refused 4 a 0
unfolding closing failed_run fails follow tok close_at mode_of
first-open s a p out g e =
    let x = lex_in First (byte_before s p) in_frame (drop p s) in
    let f = first-left First (some a) s p g in
    rw (f.1, no-close x.class a out (tok x p) (unheaded-save x.class (first-unheaded (byte_before s p) in_frame (drop p s) e)))

-- in the strict reading what leaves it open: the text's end, a named `save_`, `data_`
strict-end : (s : List ℕ) (a p : ℕ) (out : List Rec) → length s ≤ p → closing Strict a out (tokens_at Strict in_frame s p) ≡ refused 4 a 0
unfolding closing tokens_at tokens_from run move config lex lex_in lexed tok at_item follow
strict-end s a p out h = rw (drop_of_length-le s h)

-- a `save_` that closes no frame has a name
named-save : (s : List ℕ) (p : ℕ) → close_at Strict s p ≡ false → save_at Strict s p ≡ true → eqb (word (drop p s)) 5 ≡ false
unfolding close_at save_at key_save
named-save s p e v = by (eqb (word (drop p s)) 5) refl
  where
    by : (b : Bool) → eqb (word (drop p s)) 5 ≡ b → eqb (word (drop p s)) 5 ≡ false
    by false q = q
    by true q =
        let a = and_l (is_parted Strict (byte_before s p)) (starts key_save (drop p s)) v in
        let k = and_r (is_parted Strict (byte_before s p)) (starts key_save (drop p s)) v in
        let w = word_stands key_save (drop p s) k (eqb-true (word (drop p s)) 5 q) in
        let c : (is_parted Strict (byte_before s p) && stands Strict key_save (drop p s)) ≡ true = rw (a, w) in
        absurd (true≢false (sym c ∙ e))

strict-save : (s : List ℕ) (a p : ℕ) (out : List Rec) → gap (drop p s) ≡ 0 → close_at Strict s p ≡ false → save_at Strict s p ≡ true → closing Strict a out (tokens_at Strict in_frame s p) ≡ refused 4 a 0
unfolding closing run move config at_item follow lexed tok
strict-save s a p out g e v = rw ((met-close s p g Strict v).next, named-save s p e v)

strict-data : (s : List ℕ) (a p : ℕ) (out : List Rec) → gap (drop p s) ≡ 0 → data_at Strict s p ≡ true → closing Strict a out (tokens_at Strict in_frame s p) ≡ refused 4 a 0
unfolding closing run move config at_item follow lexed tok
strict-data s a p out g v = let m = met-heading s p g v in rw (tokens-anywhere in_frame in_block s p, m.next)

strict-leaves : (s : List ℕ) (a p : ℕ) (out : List Rec) → gap (drop p s) ≡ 0 → close_at Strict s p ≡ false → leaves_open s p ≡ true → closing Strict a out (tokens_at Strict in_frame s p) ≡ refused 4 a 0
unfolding leaves_open
strict-leaves s a p out g e v = by (leb (length s) p) refl (save_at Strict s p) refl v
  where
    by : (b : Bool) → leb (length s) p ≡ b → (c : Bool) → save_at Strict s p ≡ c → (b || (c || data_at Strict s p)) ≡ true → closing Strict a out (tokens_at Strict in_frame s p) ≡ refused 4 a 0
    by true q c k v = strict-end s a p out (leb-true (length s) p q)
    by false q true k v = strict-save s a p out g e k
    by false q false k v = strict-data s a p out g v

-- and what does not is no item there
strict_none : (s : List ℕ) (a o p : ℕ) → DroppedAt Strict s a o p → leaves_open s p ≡ false → NoneHere Strict (some a) s p
unfolding leaves_open mode_of save_at data_at
strict_none s a o p d e =
    let l = leb-false (length s) p (or_l (leb (length s) p) _ e) in
    let r = or_r (leb (length s) p) _ e in
    record {
      bare = d.bare;
      some_bytes = omega arith;
      itemless = d.absent refl;
      unheaded = lex-unheaded Strict (byte_before s p) in_frame (drop p s) (or_l (save_at Strict s p) _ r) (or_r (save_at Strict s p) _ r);
    }

-- a frame that has been read up to o, where no item is read before p and none closes it there
open_told : (r : Reading) (s : List ℕ) (a o p : ℕ) → DroppedAt r s a o p → ((out : List Rec) → closing r a out (tokens_at r in_frame s p) ≡ refused 4 a 0) → (out : List Rec) → told (Err (fault OpenFrame a)) ≡ tells (left r 0 (some a) s o out)
unfolding told tells
open_told r s a o p d c out = rw (d.reads out, c out)

strict-left : (s : List ℕ) (a p : ℕ) (out : List Rec) → closing Strict a out (tokens_at Strict in_frame s p) ≡ left Strict 0 (some a) s p out
unfolding closing left mode_of
strict-left s a p out = refl

-- a frame's refusal is the text's
pub frame_refused : (r : Reading) (s : List ℕ) (a o : ℕ) (z : Sizes) (e : Fault) → Passed r s none a (some a) o z 0 → ((out : List Rec) → told (Err e) ≡ tells (left r 0 (some a) s o out)) → Framed r s a (Err e)
unfolding Framed Stepped
frame_refused r s a o z e h q = λ d out. rw (h.reads d out) (q (out ++ h.kept))

-- what holds of both branches holds of the one taken
either :
    (r : Reading) (s : List ℕ) (o : ℕ) (t : Bool) (x y : Result Step Fault)
    → (t ≡ true → Framed r s o x)
    → (t ≡ false → Framed r s o y)
    → Framed r s o (cond t x y)
either r s o true x y p q = p refl
either r s o false x y p q = q refl

either_fault : (r : Reading) (s : List ℕ) (o : ℕ) (t : Bool) (x y : Fault) → (t ≡ true → Framed r s o (Err x)) → (t ≡ false → Framed r s o (Err y)) → Framed r s o (Err (cond t x y))
either_fault r s o true x y p q = p refl
either_fault r s o false x y p q = q refl

module _ (s : List ℕ) (a o p : ℕ) (z : Sizes) (h : Passed Strict s none a (some a) o z 0) (d : DroppedAt Strict s a o p) where
  strict-open : close_at Strict s p ≡ false → leaves_open s p ≡ true → Framed Strict s a (Err (fault OpenFrame a))
  strict-open e v = frame_refused Strict s a o z (fault OpenFrame a) h (open_told Strict s a o p d (λ out. strict-leaves s a p out d.bare e v))

  strict-absent : leaves_open s p ≡ false → Framed Strict s a (Err (absent_of Strict s 0 p))
  unfolding Counts told
  strict-absent v =
      either_fault Strict s a (is_parted Strict (byte_before s p)) _ _
      (λ e. frame_refused Strict s a o z (fault (NoItem 0) p) h (λ out. sym (ap tells (d.reads out ∙ strict-left s a p out) ∙ absent-told Strict 0 (some a) s p tt (strict_none s a o p d v) out true e)))
      (λ e. frame_refused Strict s a o z (fault NotParted p) h (λ out. sym (ap tells (d.reads out ∙ strict-left s a p out) ∙ absent-told Strict 0 (some a) s p tt (strict_none s a o p d v) out false e)))

unclosed-framed : (r : Reading) (s : List ℕ) (a o p : ℕ) (z : Sizes) → Passed r s none a (some a) o z 0 → DroppedAt r s a o p → close_at r s p ≡ false → Framed r s a (Err (unclosed r s a p))
unclosed-framed First s a o p z h d e = frame_refused First s a o z (fault OpenFrame a) h (open_told First s a o p d (λ out. first-open s a p out d.bare e))
unclosed-framed Strict s a o p z h d e = either_fault Strict s a (leaves_open s p) _ _ (λ v. strict-open s a o p z h d e v) (λ v. strict-absent s a o p z h d v)

-- A FRAME THAT HAS BEEN READ UP TO o ends where no further item is read
pub frame-ends : (r : Reading) (s : List ℕ) (a o p : ℕ) (z : Sizes) → Passed r s none a (some a) o z 0 → DroppedAt r s a o p → Framed r s a (frame_end r s a z p)
unfolding frame_end
frame-ends r s a o p z h d =
    either r s a (close_at r s p) _ _ (λ e. unfold Framed Stepped in λ c. closed-passed r s a o p z h d e) (λ e. unclosed-framed r s a o p z h d e)

-- a frame of which no item is read before p, and which does not close there, is refused
pub open-refused : (r : Reading) (s : List ℕ) (a o p : ℕ) → DroppedAt r s a o p → close_at r s p ≡ false → (out : List Rec) → (n : ℕ) × (e : ℕ) × (c : ℕ) × (left r 0 (some a) s o out ≡ refused n e c)
unfolding Counts
open-refused First s a o p d e out = (4, a, 0, d.reads out ∙ first-open s a p out d.bare e)
open-refused Strict s a o p d e out = by (leaves_open s p) refl
  where
    none : (x : Answer) (b : Bool) → x ≡ cond b (refused 7 p 0) (refused 15 p 0) → (n : ℕ) × (e : ℕ) × (c : ℕ) × (x ≡ refused n e c)
    none x true q = (7, p, 0, q)
    none x false q = (15, p, 0, q)

    by : (b : Bool) → leaves_open s p ≡ b → (n : ℕ) × (e : ℕ) × (c : ℕ) × (left Strict 0 (some a) s o out ≡ refused n e c)
    by true v = (4, a, 0, d.reads out ∙ strict-leaves s a p out d.bare e v)
    by false v = none (left Strict 0 (some a) s o out) (is_parted Strict (byte_before s p)) (d.reads out ∙ strict-left s a p out ∙ none_left Strict 0 (some a) s p tt (strict_none s a o p d v) out)
