-- What is left to read and to write from an offset on, in the block and in a frame: an item, a heading and a frame's end take their records off it.
-- Assumes nothing.
use Prim.Native.Nat.{ℕ, ◌+◌, ◌-◌, ◌≤◌, ◌<◌}
use mathlib.Core.Path.{◌≡◌, refl, sym, ap, ◌∙◌}
use mathlib.Core.Bool.{Bool, true, false, cond, false≢true}
use mathlib.Core.List.{List, [], ◌∷◌, ◌++◌, append-nil}
use mathlib.Core.Option.{Option, none, some}
use native.Mathlib.Omega.{arith}
use lib.ListN.{length, drop}
use Rattle.rules.specs.declared.Reading.{Reading}
use Rattle.rules.specs.declared.Reading.TheVariants.{First, Strict}
use Rattle.columns.specs.Before.{byte_before, is_parted}
use Rattle.gaps.specs.Gaps.{gap, gap_end}
use Rattle.gaps.proofs.Gaps.{gap-none}
use Rattle.words.specs.Words.{word, end_of_word}
use Rattle.words.specs.Names.{heading_fits}
use Rattle.words.proofs.Words.{word_size}
use Rattle.values.specs.Values.{Class, lexed, block, loop, save, tag, value, over_limit, nothing}
use Rattle.kinds.specs.declared.Shape.TheVariants.{Content}
use Rattle.kinds.specs.Kinds.{kind_of, shape_of, marks_of}
use Rattle.std.specs.Prelude.{Result, Ok, Err}
use Rattle.grammar.specs.declared.Fault.{Fault}
use Rattle.items.specs.declared.Item.{Item as Answered}
use Rattle.items.specs.declared.Item.TheVariants.{Loop, Single, Failed, Absent}
use Rattle.grammar.specs.Causes.{cause_of, cause_number, cause_detail}
use Rattle.grammar.specs.Tokens.{before, in_block, in_frame, lex_in, Tok, tok, tokens_at, heading_at, save_at, close_at, data_at}
use Rattle.grammar.specs.Machine.{Rec, rec, Answer, refused, done, run, follow, move, at_item, fails, closes, is_joined, config, items}
use Rattle.grammar.specs.Descent.{Item, taken, failed, absent, broken, item}
use Rattle.decisions.specs.Decisions.{Told, told, tells, refusal, room}
use Rattle.found.specs.declared.Found.TheVariants.{Value}
use Rattle.items.specs.Answers.{item_answer, item_at}
use Rattle.values.specs.Finding.{found_at}
use Rattle.decisions.specs.Onward.{left, mode_of, in_frame_of, in_block_of, heads_block, Stepped}
use Rattle.deciding.specs.Blocks.{block_at}
use Rattle.grammar.specs.Reading.{decided}
use Rattle.grammar.proofs.Descent.{item_run, behind_item, behind-frame}
use Rattle.grammar.proofs.Offsets.{Met, met-open, met-data, met-heading, both, both-spot}
use Rattle.openings.proofs.Openings.{save-bytes, close-bytes, data-bytes}
use Rattle.values.specs.Answers.{wanted}
use Rattle.items.proofs.Wanted.{found-wanted}
use Rattle.items.proofs.Passes.{AlikeItem, alike-taken, alike-failed, alike-absent, alike-broken, item-alike}
use Rattle.decisions.proofs.Onward.{DroppedAt, PassedInside, first-left, left-item, item-inside, item-stepped, left-from, open-reads, heads-reads, left-gap, left-read}
use Rattle.closing.proofs.Closing.{frame-closes, open-refused}
use Rattle.deciding.proofs.Blocks.{begin-reads, end-answer, no-data, decided-from}
use Rattle.std.specs.Prelude.{Some, None}
use Rattle.walking.specs.Walk.{item_recs, item_rest, is_taken, item_of}
use Rattle.desk.specs.Desk.{IsToken, rec_at}
use Rattle.desk.proofs.Lines.{part-token}
use Rattle.writing.specs.Block.{answer_recs, is_done, recs_left, stop_of}
use Rattle.writing.proofs.Prefix.{prefixed, started, run-after}

-- what is kept already comes before the rest
pub left-prefix : (r : Reading) (d : ℕ) (f : Option ℕ) (s : List ℕ) (o : ℕ) (out : List Rec) → left r d f s o out ≡ prefixed out (left r d f s o [])
unfolding left started
left-prefix r d f s o out = ap (λ (x : List Rec). run r (tokens_at r (mode_of f) s o) (config (items d) f x [])) (sym (append-nil out)) ∙ run-after out r (tokens_at r (mode_of f) s o) (items d) f [] [] refl

-- from o in f to p in g these records are kept
pub record Steps (r : Reading) (s : List ℕ) (f : Option ℕ) (o : ℕ) (g : Option ℕ) (p : ℕ) (rs : List Rec) : Type 0 where
  pub recs : recs_left r f s o ≡ rs ++ recs_left r g s p
  pub reads : is_done (left r 0 g s p []) ≡ true

pub steps : (r : Reading) (s : List ℕ) (f : Option ℕ) (o : ℕ) (d : ℕ) (g : Option ℕ) (p : ℕ) (rs : List Rec) → is_done (left r 0 f s o []) ≡ true → left r 0 f s o [] ≡ left r d g s p rs → Steps r s f o g p rs
steps r s f o d g p rs z e = by (left r d g s p []) refl (e ∙ left-prefix r d g s p rs)
  where
    kept : (qs : List Rec) → left r 0 g s p [] ≡ done qs → left r 0 f s o [] ≡ prefixed rs (done qs) → Steps r s f o g p rs
    kept qs q h = unfold prefixed answer_recs is_done in record { recs = rw (h, q); reads = rw q }

    by : (a : Answer) → left r d g s p [] ≡ a → left r 0 f s o [] ≡ prefixed rs a → Steps r s f o g p rs
    by (done qs) q h = kept qs (left-read r d 0 g s p [] qs q) h
    by (refused n x y) q h =
        let v : is_done (left r 0 f s o []) ≡ false = unfold prefixed is_done in rw h in
        absurd (false≢true (sym v ∙ z))

refused-not : (x : Answer) (n o d : ℕ) → x ≡ refused n o d → is_done x ≡ true → ⊥
unfolding is_done
refused-not x n o d e h = false≢true (rw e at h)

-- an answer that is told as a refusal is no success
told-not : (x : Answer) (n o d : ℕ) → refusal n o d ≡ tells x → is_done x ≡ true → ⊥
unfolding refusal tells room is_done
told-not (done rs) n o d e h = false≢true (ap (λ (y : Told). y.is_read) e)
told-not (refused m x y) n o d e h = false≢true h

-- An item

-- where an item that is read stands between
pub record ItemPassed (r : Reading) (s : List ℕ) (o : ℕ) (x y : Item) : Type 0 where
  pub onward : o < heading_at (item_rest x)
  pub within : heading_at (item_rest x) ≤ length s
  pub bare : gap (drop (heading_at (item_rest x)) s) ≡ 0
  pub reason : ℕ
  pub in_block : (out : List Rec) → item_run r 0 none out x ≡ left r reason none s (heading_at (item_rest x)) (out ++ item_recs x)
  pub in_frame : (a : ℕ) (out : List Rec) → item_run r 0 (some a) out y ≡ left r 0 (some a) s (heading_at (item_rest x)) (out ++ item_recs x)

item-passed : {r : Reading} {s : List ℕ} {o : ℕ} {hs gs : List Tok} {x y : Item} → AlikeItem r s o hs gs x y → is_taken x ≡ true → ItemPassed r s o x y
unfolding is_taken item_rest item_recs item_run mode_of
item-passed {r = r} {s = s} {o = o} (alike-taken {b = c} {rs = rs} {ts = ts} {us = us} to l b h) e =
    let p = both-spot b in
    record {
      onward = omega (arith, p.onward);
      within = p.within;
      bare = p.bare;
      reason = behind_item none c ts;
      in_block = λ out. left-from r (behind_item none c ts) none s (heading_at ts) ts (out ++ rs) p.in_block;
      in_frame = λ a out. rw (behind-frame a c us) (left-from r 0 (some a) s (heading_at ts) us (out ++ rs) p.in_frame);
    }
item-passed (alike-failed f y b) e = absurd (false≢true e)
item-passed (alike-absent m n b) e = absurd (false≢true e)
item-passed (alike-broken y) e = absurd (false≢true e)

pub item-passes : (r : Reading) (s : List ℕ) (o : ℕ) → o ≤ length s → is_taken (item_of r s o) ≡ true → ItemPassed r s o (item_of r s o) (item r (tokens_at r in_frame s o))
item-passes r s o h e = item-passed (item-alike (both r s o h)) e

-- in a frame
pub frame-item-steps : (r : Reading) (s : List ℕ) (a o : ℕ) → o ≤ length s → gap (drop o s) ≡ 0 → is_done (left r 0 (some a) s o []) ≡ true → is_taken (item_of r s o) ≡ true
    → Steps r s (some a) o (some a) (heading_at (item_rest (item_of r s o))) (item_recs (item_of r s o))
frame-item-steps r s a o h g d e =
    let i : left r 0 (some a) s o [] ≡ item_run r 0 (some a) [] (item r (tokens_at r in_frame s o)) = unfold mode_of in left-item r 0 (some a) s o [] g in
    steps r s (some a) o 0 (some a) _ _ d (i ∙ (item-passes r s o h e).in_frame a [])

-- in the block all that is not read ends the reading
block-taken : (r : Reading) (s : List ℕ) (o : ℕ) (x : Item) → Stepped r 0 s o (in_block_of r s 0 (item_answer x)) → is_done (left r 0 none s o []) ≡ true → is_taken x ≡ true
unfolding Stepped item_answer is_taken told
block-taken r s o (taken b rs rest) h d = refl
block-taken r s o (failed n a e rest) h d = absurd (told-not _ (cause_number (cause_of n e)) a (cause_detail (cause_of n e)) (h []) d)
block-taken r s o (absent rest) h d = by (is_parted r (byte_before s (heading_at rest))) refl
  where
    by : (b : Bool) → is_parted r (byte_before s (heading_at rest)) ≡ b → false ≡ true
    by true e = let x : (out : List Rec) → refusal 7 (heading_at rest) 0 ≡ tells (left r 0 none s o out) = rw e at h in absurd (told-not _ 7 (heading_at rest) 0 (x []) d)
    by false e = let x : (out : List Rec) → refusal 15 (heading_at rest) 0 ≡ tells (left r 0 none s o out) = rw e at h in absurd (told-not _ 15 (heading_at rest) 0 (x []) d)
block-taken r s o (broken n a e) h d = absurd (told-not _ (cause_number (cause_of n e)) a (cause_detail (cause_of n e)) (h []) d)

pub block-item-steps : (r : Reading) (s : List ℕ) (o : ℕ) → o < length s → gap (drop o s) ≡ 0 → save_at r s o ≡ false → heads_block r s o ≡ false → is_done (left r 0 none s o []) ≡ true
    → (is_taken (item_of r s o) ≡ true) × Steps r s none o none (heading_at (item_rest (item_of r s o))) (item_recs (item_of r s o))
block-item-steps r s o h g e k d =
    let i : left r 0 none s o [] ≡ item_run r 0 none [] (item_of r s o) = unfold mode_of in left-item r 0 none s o [] g in
    let t : is_taken (item_of r s o) ≡ true = block-taken r s o (item_of r s o) (unfold item_at in item-stepped r 0 s o h g e k) d in
    (t, steps r s none o _ none _ _ d (i ∙ (item-passes r s o (omega arith) t).in_block []))

-- A heading of kind k and w bytes in the block, behind which g stands
pub record Heads (r : Reading) (s : List ℕ) (o : ℕ) (g : Option ℕ) (k w : ℕ) : Type 0 where
  pub steps : Steps r s none o g (gap_end s (o + w)) (rec_at k o w ∷ [])
  pub token : IsToken s k o w
  pub content : shape_of (kind_of k) ≡ Content

-- where all is read on, its name may stand
fits_or : (x y : Answer) (b : Bool) (n o d : ℕ) → x ≡ cond b y (refused n o d) → is_done x ≡ true → x ≡ y
fits_or x y true n o d e h = e
fits_or x y false n o d e h = absurd (refused-not x n o d e h)

heads : (r : Reading) (s : List ℕ) (o k w : ℕ) (class : Class) (g : Option ℕ) → left r 0 none s o [] ≡ cond (heading_fits r w) (left r 0 g s (o + w) (rec k (tok (lexed class w) o) ∷ [])) (refused 17 o 0)
    → is_done (left r 0 none s o []) ≡ true → Steps r s none o g (gap_end s (o + w)) (rec_at k o w ∷ [])
unfolding lexed tok rec
heads r s o k w class g e d =
    steps r s none o 0 g (gap_end s (o + w)) _ d (fits_or (left r 0 none s o []) _ (heading_fits r w) 17 o 0 e d ∙ sym (left-gap r 0 g s (o + w) (rec_at k o w ∷ [])))

module _ (r : Reading) (s : List ℕ) (o w : ℕ) (h : o ≤ length s) (g : gap (drop o s) ≡ 0) (q : w ≡ end_of_word s o - o) (d : is_done (left r 0 none s o []) ≡ true) where
  size : w ≡ word (drop o s)
  size = q ∙ word_size s o

  -- a frame's
  pub open-heads : save_at r s o ≡ true → Heads r s o (some o) 2 w
  unfolding kind_of shape_of marks_of
  open-heads e =
      let m : Met r in_block s o (lexed save w) = rw size (met-open s o g r e) in
      let five = save-bytes r s o e in
      record {
        steps = heads r s o 2 w save (some o) (open-reads r 0 s o w [] m) d;
        token = part-token s 2 o w h (omega (arith, size)) (omega (arith, size)) (omega (arith, size));
        content = refl;
      }

-- a further block's
pub block-heads : (r : Reading) (s : List ℕ) (o w : ℕ) → o ≤ length s → gap (drop o s) ≡ 0 → w ≡ end_of_word s o - o → is_done (left r 0 none s o []) ≡ true → heads_block r s o ≡ true → Heads r s o none 1 w
unfolding kind_of shape_of marks_of
block-heads First s o w h g q d e = absurd (false≢true e)
block-heads Strict s o w h g q d e =
    let z = size Strict s o w h g q d in
    let m : Met Strict in_block s o (lexed block w) = rw z (met-heading s o g e) in
    let five = data-bytes Strict s o e in
    record {
      steps = heads Strict s o 1 w block none (heads-reads 0 s o w [] m) d;
      token = part-token s 1 o w h (omega (arith, z)) (omega (arith, z)) (omega (arith, z));
      content = refl;
    }

-- A frame's end
pub close-steps : (r : Reading) (s : List ℕ) (a o p : ℕ) → DroppedAt r s a o p → is_done (left r 0 (some a) s o []) ≡ true
    → IsToken s 3 p 5 × Steps r s (some a) o none (gap_end s (p + 5)) (rec_at 3 p 5 ∷ [])
unfolding lexed tok rec kind_of marks_of
close-steps r s a o p h d = by (close_at r s p) refl
  where
    by : (t : Bool) → close_at r s p ≡ t → IsToken s 3 p 5 × Steps r s (some a) o none (gap_end s (p + 5)) (rec_at 3 p 5 ∷ [])
    by true e =
        (part-token s 3 p 5 h.within (omega arith) (close-bytes r s p e) (omega arith), steps r s (some a) o 0 none (gap_end s (p + 5)) _ d (frame-closes r s a o p h e []))
    by false e = let x = open-refused r s a o p h e [] in absurd (refused-not (left r 0 (some a) s o []) x.0 x.1 x.2 x.3 d)

-- What stands next in a frame

never : (p : ℕ) → Some p ≡ None → ⊥
never p e = let z : ◌≡◌ {A = ℕ} 0 1 = cc in omega arith

pub next-item : (x : Item) → stop_of (item_answer x) ≡ None → is_taken x ≡ true
unfolding item_answer stop_of is_taken
next-item (taken b rs rest) e = refl
next-item (failed n o d rest) e = absurd (never (heading_at rest) e)
next-item (absent rest) e = absurd (never (heading_at rest) e)
next-item (broken n o d) e = absurd (never o e)

stop_is : (p q : ℕ) → Some p ≡ Some q → p ≡ q
stop_is p q e = cc

pub next-stop : (r : Reading) (s : List ℕ) (a o p : ℕ) → o ≤ length s → gap (drop o s) ≡ 0 → is_done (left r 0 (some a) s o []) ≡ true → stop_of (item_at r s o) ≡ Some p → DroppedAt r s a o p
unfolding PassedInside stop_of told
next-stop r s a o p h g d e = by (item_at r s o) (item-inside r s a o h g) e
  where
    by : (i : Result Answered Fault) → PassedInside r s a o (in_frame_of i) → stop_of i ≡ Some p → DroppedAt r s a o p
    by (Ok (Loop n z w)) x e = absurd (never p (sym e))
    by (Ok (Single n z)) x e = absurd (never p (sym e))
    by (Ok (Failed c q)) x e = rw (stop_is q p e) at x
    by (Ok (Absent q)) x e = rw (stop_is q p e) at x
    by (Err f) x e = absurd (told-not (left r 0 (some a) s o []) (cause_number f.cause) f.at (cause_detail f.cause) (x []) d)

-- Where all is read on and an item is expected, no value stands

value-class : (c : Class) (n k w : ℕ) → wanted c n ≡ Value k w → (j : ℕ) × (c ≡ value j)
unfolding wanted
value-class (value j) n k w e = (j, refl)
value-class over_limit n k w e = let z : ◌≡◌ {A = ℕ} 0 1 = cc in absurd (omega arith)
value-class tag n k w e = let z : ◌≡◌ {A = ℕ} 0 1 = cc in absurd (omega arith)
value-class block n k w e = let z : ◌≡◌ {A = ℕ} 0 1 = cc in absurd (omega arith)
value-class loop n k w e = let z : ◌≡◌ {A = ℕ} 0 1 = cc in absurd (omega arith)
value-class save n k w e = let z : ◌≡◌ {A = ℕ} 0 1 = cc in absurd (omega arith)
value-class (nothing r) n k w e = let z : ◌≡◌ {A = ℕ} 0 1 = cc in absurd (omega arith)

value-refused : (r : Reading) (f : Option ℕ) (j : ℕ) (t : Tok) (ts : List Tok) → t.class ≡ value j → is_done (run r (t ∷ ts) (config (items 0) f [] [])) ≡ false
unfolding run follow move at_item fails closes is_joined config is_done
value-refused First none j t ts e = rw e
value-refused First (some b) j t ts e = rw e
value-refused Strict f j t ts e = rw e

pub no-value-left : (r : Reading) (f : Option ℕ) (s : List ℕ) (p : ℕ) → gap (drop p s) ≡ 0 → is_done (left r 0 f s p []) ≡ true → (k n : ℕ) → found_at r s p ≡ Value k n → ⊥
unfolding left tok
no-value-left r f s p g d k n e =
    let x = lex_in r (byte_before s p) (mode_of f) (drop p s) in
    let t = first-left r f s p g in
    let c = value-class x.class x.size k n (sym (found-wanted r (mode_of f) s p) ∙ e) in
    false≢true (sym (value-refused r f c.0 (tok x p) t.0 c.1) ∙ rw t.1 at d)

-- The blocks

pub end_none : (r : Reading) (s : List ℕ) (o : ℕ) → length s ≤ o → recs_left r none s o ≡ []
unfolding answer_recs
end_none r s o h = rw (end-answer r 0 s o [] h)

-- the first one's heading
pub record Begins (r : Reading) (s : List ℕ) (o w : ℕ) : Type 0 where
  pub bytes : 5 ≤ word (drop o s)
  pub recs : answer_recs (decided r s) ≡ rec_at 1 o w ∷ recs_left r none s (gap_end s (o + w))
  pub reads : is_done (left r 0 none s (gap_end s (o + w)) []) ≡ true

pub heading : (r : Reading) (s : List ℕ) (o w : ℕ) → o ≡ gap_end s 0 → w ≡ word (drop o s) → is_done (decided r s) ≡ true → Begins r s o w
heading r s o w q z d = by (data_at r s o) refl
  where
    g : gap (drop o s) ≡ 0
    g = rw q (gap-none s 0)

    from : decided r s ≡ block_at r s o
    from = rw q (decided-from r s)

    read : data_at r s o ≡ true → decided r s ≡ prefixed (rec_at 1 o w ∷ []) (left r 0 none s (gap_end s (o + w)) [])
    read e =
        let m : Met r before s o (lexed block w) = rw z (met-data s o g r e) in
        fits_or (decided r s) (left r 0 none s (o + w) (rec_at 1 o w ∷ [])) (heading_fits r w) 17 o 0 (from ∙ begun m) d
        ∙ sym (left-gap r 0 none s (o + w) (rec_at 1 o w ∷ [])) ∙ left-prefix r 0 none s (gap_end s (o + w)) (rec_at 1 o w ∷ [])
      where
        begun : Met r before s o (lexed block w) → block_at r s o ≡ cond (heading_fits r w) (left r 0 none s (o + w) (rec_at 1 o w ∷ [])) (refused 17 o 0)
        begun m = unfold lexed tok rec in begin-reads r s o w m

    rest : (a : Answer) → left r 0 none s (gap_end s (o + w)) [] ≡ a → decided r s ≡ prefixed (rec_at 1 o w ∷ []) a
        → (answer_recs (decided r s) ≡ rec_at 1 o w ∷ recs_left r none s (gap_end s (o + w))) × (is_done (left r 0 none s (gap_end s (o + w)) []) ≡ true)
    rest (done rs) e h = unfold prefixed answer_recs is_done in (rw (h, e), rw e)
    rest (refused n x y) e h =
        let f : is_done (decided r s) ≡ false = unfold prefixed is_done in rw h in
        absurd (false≢true (sym f ∙ d))

    by : (t : Bool) → data_at r s o ≡ t → Begins r s o w
    by true e = let x = rest (left r 0 none s (gap_end s (o + w)) []) refl (read e) in record { bytes = data-bytes r s o e; recs = x.0; reads = x.1 }
    by false e = absurd (told-not (decided r s) 3 o 0 (rw from (unfold told in no-data r s o g e)) d)
