-- Reading on: an item and a heading as the code passes over them, against what the machine still answers. Assumes nothing.
use Prim.Native.Nat.{ℕ, ◌+◌, ◌-◌, ◌≤◌, ◌<◌}
use mathlib.Core.Path.{◌≡◌, refl, sym, ap, ◌∙◌}
use mathlib.Core.Bool.{Bool, true, false, cond, true≢false, false≢true}
use mathlib.Core.List.{List, [], ◌∷◌, ◌++◌, append_assoc}
use mathlib.Core.Option.{Option, none, some}
use native.Mathlib.Omega.{arith}
use lib.ListN.{length, drop, length-drop}
use Rattle.rules.specs.declared.Reading.{Reading}
use Rattle.rules.specs.declared.Reading.TheVariants.{First, Strict}
use Rattle.rules.specs.Rules.{reading_number}
use Rattle.columns.specs.Before.{byte_before, is_parted}
use Rattle.gaps.specs.Gaps.{gap, gap_end}
use Rattle.gaps.proofs.Gaps.{gap_from, gap_within, gap-none}
use Rattle.words.specs.Words.{word, end_of_word}
use Rattle.words.specs.Names.{heading_fits}
use Rattle.words.proofs.Words.{word_end, word_size}
use Rattle.values.specs.Values.{Class, block, loop, save, tag, value, over_limit, nothing, at_end, reserved_word, no_start, open_quote, open_field, joined as joined_to, lexed}
use Rattle.sizes.specs.declared.Sizes.{Sizes}
use Rattle.std.specs.Prelude.{Result, Ok, Err}
use Rattle.grammar.specs.declared.Fault.{Fault}
use Rattle.grammar.specs.declared.Cause.TheVariants.{NoItem, NotParted, BadName}
use Rattle.grammar.specs.Causes.{cause_of, fault}
use Rattle.decisions.specs.declared.Step.{Step}
use Rattle.items.specs.declared.Item.{Item as Answered}
use Rattle.items.specs.declared.Item.TheVariants.{Absent}
use Rattle.decisions.specs.declared.Inside.{Inside}
use Rattle.decisions.specs.declared.Inside.TheVariants.{Read, Dropped}
use Rattle.grammar.specs.Tokens.{in_block, in_frame, lex_in, after, Tok, tok, tokens_at, heading_at, save_at, data_at}
use Rattle.grammar.specs.Machine.{Rec, Answer, refused, done, run, config, items, rec, follow, move, at_item, fails, closes, go, stop, in_block_only, is_joined}
use Rattle.sizes.specs.Sizes.{sizes_of, no_sizes, added, joined, Upto}
use Rattle.grammar.specs.Descent.{Item, item}
use Rattle.decisions.specs.Decisions.{told, tells, refusal}
use Rattle.items.specs.Answers.{item_answer, item_at}
use Rattle.decisions.specs.Onward.{absent_of, in_block_of, in_frame_of, read, heading_of, heads_block, mode_of, left, Passed, Stepped, Framed}
use Rattle.grammar.proofs.Causes.{Says, cause-says}
use Rattle.grammar.proofs.Descent.{failed_run, behind_item, item_run, item-run, any-detail}
use Rattle.grammar.proofs.Lexes.{starts_item, is_heading, is_end, lex-unheaded, first-unheaded, lex-parted, lex-apart}
use Rattle.grammar.proofs.Offsets.{tokens-gap, tokens-ends, lex-in, Met, met-open, met-heading, first, Spot, Both, both-last, both-save, both-more, both, both-spot}
use Rattle.items.proofs.Passes.{NoItem as NoneStarts, AlikeItem, alike-taken, alike-failed, alike-absent, alike-broken, item-alike}
use Rattle.sizes.proofs.Room.{sizes-append, sizes-one, upto-none, upto-added, upto-joined, upto-more}

-- the token at the start of the text from o on, in the mode of f
head_of : Reading → Option ℕ → List ℕ → ℕ → Class
head_of r f s o = (lex_in r (byte_before s o) (mode_of f) (drop o s)).class

pub first-left : (r : Reading) (f : Option ℕ) (s : List ℕ) (o : ℕ) → gap (drop o s) ≡ 0 → (ts : List Tok) × (tokens_at r (mode_of f) s o ≡ tok (lex_in r (byte_before s o) (mode_of f) (drop o s)) o ∷ ts)
unfolding mode_of
first-left r none s o g = let f = first s o g r in_block in (f.0, f.1 ∙ rw (lex-in r (byte_before s o) (drop o s)).0)
first-left r (some a) s o g = let f = first s o g r in_frame in (f.0, f.1 ∙ rw (lex-in r (byte_before s o) (drop o s)).1)

-- the machine at an item
pub left-item : (r : Reading) (c : ℕ) (f : Option ℕ) (s : List ℕ) (o : ℕ) (out : List Rec) → gap (drop o s) ≡ 0 → left r c f s o out ≡ item_run r c f out (item r (tokens_at r (mode_of f) s o))
unfolding left
left-item r c f s o out g =
    let n = first-left r f s o g in
    rw n.1 (item-run r c (tok (lex_in r (byte_before s o) (mode_of f) (drop o s)) o) n.0 f out (rw n.1 at (tokens-ends r (mode_of f) s o)))

-- a cause that an item fails by says what the machine refuses
cause-told : {n d : ℕ} (o : ℕ) → Says n d → told (Err (fault (cause_of n d) o)) ≡ tells (refused n o d)
unfolding told tells
cause-told o y = rw ((cause-says y).0, (cause-says y).1)

-- what is answered in a frame where no item is read: in the first reading the token there must close the frame; in the strict one it is judged as what stands for an item
unfoldable pub closing : Reading → ℕ → List Rec → List Tok → Answer
closing First a out ts = failed_run First (refused 7 0 0) (some a) out ts
closing Strict a out ts = run Strict ts (config (items 0) (some a) out [])

failed-closing : (x : Answer) (a : ℕ) (out : List Rec) (ts : List Tok) → failed_run First x (some a) out ts ≡ closing First a out ts
unfolding closing failed_run fails
failed-closing x a out [] = refl
failed-closing x a out (t ∷ ts) = refl

-- in the first reading what is no item in a frame must close it too
none-closes : (c a : ℕ) (out : List Rec) (t : Tok) → starts_item t.class ≡ false → at_item First c (some a) out t.class t ≡ closes a out t.class t
unfolding starts_item at_item fails closes
none-closes c a out t e = by t.class refl e
  where
    by : (k : Class) → t.class ≡ k → starts_item k ≡ false → at_item First c (some a) out k t ≡ closes a out k t
    by loop q e = absurd (true≢false e)
    by tag q e = absurd (true≢false e)
    by save q e = refl
    by (nothing at_end) q e = refl
    by (nothing reserved_word) q e = rw q
    by (nothing no_start) q e = rw q
    by (nothing open_quote) q e = rw q
    by (nothing open_field) q e = rw q
    by (nothing joined_to) q e = rw q
    by block q e = rw q
    by (value k) q e = rw q
    by over_limit q e = rw q

absent-closing : (r : Reading) (a : ℕ) (out : List Rec) (t : Tok) (ts : List Tok) → starts_item t.class ≡ false → run r (t ∷ ts) (config (items 0) (some a) out []) ≡ closing r a out (t ∷ ts)
unfolding closing failed_run run move config fails follow
absent-closing First a out t ts e = rw (none-closes 0 a out t e)
absent-closing Strict a out t ts e = refl

apart : {A : Type 0} → First ≡ Strict → A
apart e = let z : ◌≡◌ {A = ℕ} 1 2 = ap reading_number e in absurd (omega arith)

-- in the frame that opened at a, from o on no item is read before p; in the strict reading none starts there
pub record DroppedAt (r : Reading) (s : List ℕ) (a o p : ℕ) : Type 0 where
  pub reads : (out : List Rec) → left r 0 (some a) s o out ≡ closing r a out (tokens_at r in_frame s p)
  pub absent : r ≡ Strict → starts_item (lex_in r (byte_before s p) in_frame (drop p s)).class ≡ false
  pub onward : o ≤ p
  pub within : p ≤ length s
  pub bare : gap (drop p s) ≡ 0

unfoldable pub PassedInside : Reading → List ℕ → ℕ → ℕ → Result Inside Fault → Type 0
PassedInside r s a o (Ok (Read p z)) = Passed r s (some a) o (some a) p z 0
PassedInside r s a o (Ok (Dropped p)) = DroppedAt r s a o p
PassedInside r s a o (Err e) = (out : List Rec) → told (Err e) ≡ tells (left r 0 (some a) s o out)

-- an item that is read
taken-passed : {ts us : List Tok} (r : Reading) (s : List ℕ) (f : Option ℕ) (o to d : ℕ) (rs : List Rec) → Spot r s to ts us → o < to → Upto (to - o) (sizes_of rs)
    → ((c : ℕ) (out : List Rec) → left r c f s o out ≡ left r d f s (heading_at ts) (out ++ rs)) → Passed r s f o f (heading_at ts) (sizes_of rs) d
taken-passed r s f o to d rs p l h q =
    record {
      kept = rs;
      sizes = refl;
      reads = q;
      onward = omega (arith, p.onward);
      within = p.within;
      bare = p.bare;
      fits = upto-more (to - o) _ _ h (omega (arith, p.onward));
    }

-- in a frame an item that fails in the first reading, or none
failed-at : {ts us : List Tok} (s : List ℕ) (a o : ℕ) (x : Answer) → Spot First s o ts us → ((out : List Rec) → left First 0 (some a) s o out ≡ failed_run First x (some a) out us) → DroppedAt First s a o (heading_at ts)
failed-at s a o x p q =
    record {
      reads = λ out. q out ∙ failed-closing x a out _ ∙ rw p.in_frame;
      absent = λ e. apart e;
      onward = p.onward;
      within = p.within;
      bare = p.bare;
    }

none-at : (r : Reading) {ts us : List Tok} (s : List ℕ) (a o : ℕ) → Spot r s o ts us → NoneStarts us → ((out : List Rec) → left r 0 (some a) s o out ≡ run r us (config (items 0) (some a) out [])) → DroppedAt r s a o (heading_at ts)
unfolding NoneStarts mode_of tok
none-at r {ts = ts} {us = us} s a o p n q =
    let f = first-left r (some a) s (heading_at ts) p.bare in
    let x = lex_in r (byte_before s (heading_at ts)) in_frame (drop (heading_at ts) s) in
    let n' : NoneStarts (tok x (heading_at ts) ∷ f.0) = rw (p.in_frame, f.1) at n in
    record {
      reads = λ out. q out ∙ rw (p.in_frame, f.1) (absent-closing r a out (tok x (heading_at ts)) f.0 n');
      absent = λ e. n';
      onward = p.onward;
      within = p.within;
      bare = p.bare;
    }

pub left-from : (r : Reading) (d : ℕ) (f : Option ℕ) (s : List ℕ) (p : ℕ) (us : List Tok) (out : List Rec) → us ≡ tokens_at r (mode_of f) s p → run r us (config (items d) f out []) ≡ left r d f s p out
unfolding left
left-from r d f s p us out e = ap (λ (x : List Tok). run r x (config (items d) f out [])) e

-- an item in a frame
inside : {r : Reading} {s : List ℕ} {o : ℕ} {vs ws : List Tok} {x y : Item} (a : ℕ) → AlikeItem r s o vs ws x y → ((c : ℕ) (out : List Rec) → left r c (some a) s o out ≡ item_run r c (some a) out y) → PassedInside r s a o (in_frame_of (item_answer x))
unfolding PassedInside item_answer item_run behind_item in_block_only mode_of
inside {r = r} {s = s} {o = o} a (alike-taken {b = true} {rs = rs} to l b h) q =
    taken-passed r s (some a) o to 0 rs (both-spot b) l h (λ c out. q c out ∙ left-from r 0 (some a) s _ _ (out ++ rs) (both-spot b).in_frame)
inside {r = r} {s = s} {o = o} a (alike-taken {b = false} {rs = rs} to l b h) q =
    taken-passed r s (some a) o to 0 rs (both-spot b) l h (λ c out. q c out ∙ left-from r 0 (some a) s _ _ (out ++ rs) (both-spot b).in_frame)
inside {r = First} {s = s} {o = o} a (alike-failed e y b) q = failed-at s a o _ (both-spot b) (q 0)
inside {r = Strict} a (alike-failed e y b) q = apart (sym e)
inside {r = r} {s = s} {o = o} a (alike-absent m n b) q = none-at r s a o (both-spot b) n (q 0)
inside a (alike-broken {a = e} y) q = λ out. cause-told e y ∙ rw (q 0 out)

pub item-inside : (r : Reading) (s : List ℕ) (a o : ℕ) → o ≤ length s → gap (drop o s) ≡ 0 → PassedInside r s a o (in_frame_of (item_at r s o))
unfolding item_at
item-inside r s a o h g = inside a (item-alike (both r s o h)) (λ c out. unfold mode_of in left-item r c (some a) s o out g)

-- in the block a failed item is the answer
pub failed-stops : {s : List ℕ} {o : ℕ} {ts us : List Tok} → Both First s o ts us → (x : Answer) (out : List Rec) → failed_run First x none out ts ≡ x
unfolding failed_run fails follow
failed-stops (both-last h w e) x out = refl
failed-stops (both-save h a e f) x out = refl
failed-stops (both-more h z b) x out = refl

-- what is neither an item nor a heading, nor the end, fails
none-stops : (r : Reading) (d : ℕ) (f : Option ℕ) (out : List Rec) (t : Tok) (k : Class) → starts_item k ≡ false → is_heading k ≡ false → is_end k ≡ false → at_item r d f out k t ≡ fails r (refused 7 t.at d) f out t
unfolding starts_item is_heading is_end at_item
none-stops r d f out t loop e g h = absurd (true≢false e)
none-stops r d f out t tag e g h = absurd (true≢false e)
none-stops r d f out t save e g h = absurd (true≢false g)
none-stops r d f out t block e g h = absurd (true≢false g)
none-stops r d f out t (nothing at_end) e g h = absurd (true≢false h)
none-stops r d f out t (nothing reserved_word) e g h = refl
none-stops r d f out t (nothing no_start) e g h = refl
none-stops r d f out t (nothing open_quote) e g h = refl
none-stops r d f out t (nothing open_field) e g h = refl
none-stops r d f out t (nothing joined_to) e g h = refl
none-stops r d f out t (value k) e g h = refl
none-stops r d f out t over_limit e g h = refl

-- where bytes stand and neither an item nor a heading: 7, or 15 where no space parts it
pub record NoneHere (r : Reading) (f : Option ℕ) (s : List ℕ) (o : ℕ) : Type 0 where
  pub bare : gap (drop o s) ≡ 0
  pub some_bytes : o < length s
  pub itemless : starts_item (lex_in r (byte_before s o) (mode_of f) (drop o s)).class ≡ false
  pub unheaded : is_heading (lex_in r (byte_before s o) (mode_of f) (drop o s)).class ≡ false

none-token : (r : Reading) (p : ℕ) (f : Option ℕ) (u : List ℕ) → 0 < length u → is_parted r p ≡ true → (is_joined (lex_in r p (mode_of f) u).class ≡ false) × (is_end (lex_in r p (mode_of f) u).class ≡ false)
none-token r p f [] h e = absurd (omega arith)
none-token r p f (b ∷ u) h e = lex-parted r p (mode_of f) b u e

joined-token : (p : ℕ) (f : Option ℕ) (u : List ℕ) → 0 < length u → is_parted Strict p ≡ false → lex_in Strict p (mode_of f) u ≡ lexed (nothing joined_to) 0
joined-token p f [] h e = absurd (omega arith)
joined-token p f (b ∷ u) h e = lex-apart p (mode_of f) b u e

-- in the block, and in the strict reading in a frame, that is the answer
unfoldable pub Counts : Reading → Option ℕ → Type 0
Counts First none = Unit {0}
Counts First (some a) = ⊥
Counts Strict f = Unit {0}

pub none_left : (r : Reading) (d : ℕ) (f : Option ℕ) (s : List ℕ) (o : ℕ) → Counts r f → NoneHere r f s o → (out : List Rec) → left r d f s o out ≡ cond (is_parted r (byte_before s o)) (refused 7 o d) (refused 15 o 0)
unfolding left run move config tok follow fails Counts lexed is_joined at_item
none_left r d f s o k n out =
    let g = first-left r f s o n.bare in
    rw g.1 (by r (is_parted r (byte_before s o)) refl k n.itemless n.unheaded (none-token r (byte_before s o) f (drop o s) (omega (arith, length-drop o s, n.some_bytes))) g.0)
  where
    by : (r : Reading) (b : Bool) → is_parted r (byte_before s o) ≡ b → Counts r f → starts_item (lex_in r (byte_before s o) (mode_of f) (drop o s)).class ≡ false → is_heading (lex_in r (byte_before s o) (mode_of f) (drop o s)).class ≡ false
        → (is_parted r (byte_before s o) ≡ true → (is_joined (lex_in r (byte_before s o) (mode_of f) (drop o s)).class ≡ false) × (is_end (lex_in r (byte_before s o) (mode_of f) (drop o s)).class ≡ false))
        → (ts : List Tok)
        → follow (at_item r d f out (lex_in r (byte_before s o) (mode_of f) (drop o s)).class (tok (lex_in r (byte_before s o) (mode_of f) (drop o s)) o)) (λ c. run r ts c) ≡ cond (is_parted r (byte_before s o)) (refused 7 o d) (refused 15 o 0)
    by First b e k i u p ts = rw (none-stops First d f out (tok (lex_in First (byte_before s o) (mode_of f) (drop o s)) o) _ i u (p refl).1) (here f k)
      where
        here : (f : Option ℕ) → Counts First f → follow (fails First (refused 7 o d) f out (tok (lex_in First (byte_before s o) (mode_of f) (drop o s)) o)) (λ c. run First ts c) ≡ refused 7 o d
        here none k = refl
        here (some a) k = absurd k
    by Strict true e k i u p ts = rw (none-stops Strict d f out (tok (lex_in Strict (byte_before s o) (mode_of f) (drop o s)) o) _ i u (p e).1, e, (p e).0)
    by Strict false e k i u p ts = rw (joined-token (byte_before s o) f (drop o s) (omega (arith, length-drop o s, n.some_bytes)) e, e)

pub absent-told : (r : Reading) (d : ℕ) (f : Option ℕ) (s : List ℕ) (o : ℕ) → Counts r f → NoneHere r f s o → (out : List Rec) → (b : Bool) → is_parted r (byte_before s o) ≡ b → tells (left r d f s o out) ≡ cond b (refusal 7 o d) (refusal 15 o 0)
unfolding tells
absent-told r d f s o k n out true e = rw (none_left r d f s o k n out, e)
absent-told r d f s o k n out false e = rw (none_left r d f s o k n out, e)

-- it is refused so in the block; in a frame of the strict reading too
none-stepped : (r : Reading) (d : ℕ) (s : List ℕ) (o : ℕ) → NoneHere r none s o → Stepped r d s o (Err (absent_of r s d o))
unfolding Counts Stepped told
none-stepped r d s o n = by (is_parted r (byte_before s o)) refl
  where
    counts : (r : Reading) → Counts r none
    counts First = tt
    counts Strict = tt

    by : (b : Bool) → is_parted r (byte_before s o) ≡ b → Stepped r d s o (Err (cond b (fault (NoItem d) o) (fault NotParted o)))
    by true e = λ out. sym (absent-told r d none s o (counts r) n out true e)
    by false e = λ out. sym (absent-told r d none s o (counts r) n out false e)

-- an item in the block; `here` is what is known where none starts
stepped : {r : Reading} {s : List ℕ} {o : ℕ} {vs ws : List Tok} {x y : Item} (d : ℕ) → AlikeItem r s o vs ws x y → ((c : ℕ) (out : List Rec) → left r c none s o out ≡ item_run r c none out x) → (NoneStarts vs → NoneHere r none s o) → heading_at vs ≡ o → Stepped r d s o (in_block_of r s d (item_answer x))
unfolding Stepped item_answer item_run behind_item in_block_only mode_of
stepped {r = r} {s = s} {o = o} d (alike-taken {b = true} {rs = rs} to l b h) q here z =
    taken-passed r s none o to _ rs (both-spot b) l h (λ c out. q c out ∙ left-from r _ none s _ _ (out ++ rs) (both-spot b).in_block)
stepped {r = r} {s = s} {o = o} d (alike-taken {b = false} {rs = rs} to l b h) q here z =
    taken-passed r s none o to 0 rs (both-spot b) l h (λ c out. q c out ∙ left-from r 0 none s _ _ (out ++ rs) (both-spot b).in_block)
stepped {r = First} d (alike-failed {a = e} f y b) q here z = λ out. cause-told e y ∙ rw (q d out, failed-stops b)
stepped {r = Strict} d (alike-failed f y b) q here z = apart (sym f)
stepped {r = r} {s = s} {o = o} d (alike-absent m k b) q here z = rw z (none-stepped r d s o (here m))
stepped d (alike-broken {a = e} y) q here z = λ out. cause-told e y ∙ rw (q d out)

-- where no `save_` stands, nor in the strict reading `data_`, the token is no heading
unheaded : (r : Reading) (s : List ℕ) (o : ℕ) → save_at r s o ≡ false → heads_block r s o ≡ false → is_heading (lex_in r (byte_before s o) in_block (drop o s)).class ≡ false
unfolding save_at data_at
unheaded First s o e d = first-unheaded (byte_before s o) in_block (drop o s) e
unheaded Strict s o e d = lex-unheaded Strict (byte_before s o) in_block (drop o s) e d

pub item-stepped : (r : Reading) (d : ℕ) (s : List ℕ) (o : ℕ) → o < length s → gap (drop o s) ≡ 0 → save_at r s o ≡ false → heads_block r s o ≡ false → Stepped r d s o (in_block_of r s d (item_at r s o))
unfolding item_at mode_of
item-stepped r d s o h g e k =
    let f = first-left r none s o g in
    stepped d (item-alike (both r s o (omega arith))) (λ c out. left-item r c none s o out g)
    (λ n. record { bare = g; some_bytes = h; itemless = unfold NoneStarts tok in rw f.1 at n; unheaded = unheaded r s o e k })
    (unfold heading_at tok in rw f.1)

-- one part after another
pub passed_then : (r : Reading) (s : List ℕ) (f g h : Option ℕ) (o p q : ℕ) (z y : Sizes) (d e : ℕ) → Passed r s f o g p z d → Passed r s g p h q y e → Passed r s f o h q (joined z y) e
passed_then r s f g h o p q z y d e a b =
    record {
      kept = a.kept ++ b.kept;
      sizes = rw (a.sizes, b.sizes) (sym (sizes-append a.kept b.kept));
      reads = λ c out. a.reads c out ∙ b.reads d (out ++ a.kept) ∙ rw append_assoc;
      onward = omega (arith, a.onward, b.onward);
      within = b.within;
      bare = b.bare;
      fits = upto-joined (p - o) (q - p) (q - o) z y a.fits b.fits (omega (arith, a.onward, b.onward));
    }

pub left-gap : (r : Reading) (d : ℕ) (f : Option ℕ) (s : List ℕ) (o : ℕ) (out : List Rec) → left r d f s (gap_end s o) out ≡ left r d f s o out
unfolding left
left-gap r d f s o out = rw (tokens-gap r (mode_of f) s o)

-- what is read does not depend on the detail
pub left-read : (r : Reading) (c d : ℕ) (f : Option ℕ) (s : List ℕ) (o : ℕ) (out rs : List Rec) → left r c f s o out ≡ done rs → left r d f s o out ≡ done rs
unfolding left
left-read r c d f s o out rs e = any-detail r c d f (tokens_at r (mode_of f) s o) out rs e

pub one-fits : (k w n : ℕ) → 0 < w → w ≤ n → Upto n (added no_sizes k w)
one-fits k w n z h = upto-added 0 k w n no_sizes (upto-none 0) (omega arith) (omega arith)

-- A HEADING of kind k whose word stands at o: what is answered from there on is what is answered behind it, if its name may stand
module _ (r : Reading) (s : List ℕ) (f : Option ℕ) (o k : ℕ) (class : Class) (g : Option ℕ) (m : Met r (mode_of f) s o (lexed class (word (drop o s))))
    (reads : (c : ℕ) (out : List Rec) → left r c f s o out ≡ cond (heading_fits r (word (drop o s))) (left r 0 g s (o + word (drop o s)) (out ++ (rec k (tok (lexed class (word (drop o s))) o) ∷ []))) (refused 17 o 0)) where
  heading-onward : heading_fits r (end_of_word s o - o) ≡ true → Passed r s f o g (gap_end s (end_of_word s o)) (added no_sizes k (end_of_word s o - o)) 0
  unfolding lexed tok rec
  heading-onward h =
      let w = word (drop o s) in
      let d : o + w - o ≡ w = omega arith in
      let e : heading_fits r w ≡ true = rw (← word_size s o) h in
      let l : o + w ≤ gap_end s (o + w) = gap_from s (o + w) in
      let t = rec k (tok (lexed class w) o) in
      rw (word_end s o, d)
      (record {
        kept = t ∷ [];
        sizes = sym (sizes-one t);
        reads = λ c out. reads c out ∙ rw e (sym (left-gap r 0 g s (o + w) (out ++ (t ∷ []))));
        onward = omega (arith, m.some_bytes);
        within = gap_within s (o + w) m.within;
        bare = gap-none s (o + w);
        fits = one-fits k w (gap_end s (o + w) - o) m.some_bytes (omega arith);
      })

  heading-refused : heading_fits r (end_of_word s o - o) ≡ false → (c : ℕ) (out : List Rec) → told (Err (fault BadName o)) ≡ tells (left r c f s o out)
  unfolding told tells
  heading-refused h c out = let e : heading_fits r (word (drop o s)) ≡ false = rw (← word_size s o) h in rw (reads c out, e)

-- a frame opens
pub open-reads : (r : Reading) (c : ℕ) (s : List ℕ) (o w : ℕ) (out : List Rec) → Met r in_block s o (lexed save w) → left r c none s o out ≡ cond (heading_fits r w) (left r 0 (some o) s (o + w) (out ++ (rec 2 (tok (lexed save w) o) ∷ []))) (refused 17 o 0)
unfolding left mode_of run move config at_item follow lexed tok after
open-reads r c s o w out m = rw m.next (by (heading_fits r w))
  where
    by : (b : Bool) → follow (cond b (go (config (items 0) (some o) (out ++ (rec 2 (tok (lexed save w) o) ∷ [])) [])) (stop (refused 17 o 0))) (λ c. run r (tokens_at r in_frame s (o + w)) c) ≡ cond b (run r (tokens_at r in_frame s (o + w)) (config (items 0) (some o) (out ++ (rec 2 (tok (lexed save w) o) ∷ [])) [])) (refused 17 o 0)
    by true = refl
    by false = refl

-- a further block begins
pub heads-reads : (c : ℕ) (s : List ℕ) (o w : ℕ) (out : List Rec) → Met Strict in_block s o (lexed block w) → left Strict c none s o out ≡ cond (heading_fits Strict w) (left Strict 0 none s (o + w) (out ++ (rec 1 (tok (lexed block w) o) ∷ []))) (refused 17 o 0)
unfolding left mode_of run move config at_item follow lexed tok after
heads-reads c s o w out m = rw m.next (by (heading_fits Strict w))
  where
    by : (b : Bool) → follow (cond b (go (config (items 0) none (out ++ (rec 1 (tok (lexed block w) o) ∷ [])) [])) (stop (refused 17 o 0))) (λ c. run Strict (tokens_at Strict in_block s (o + w)) c) ≡ cond b (run Strict (tokens_at Strict in_block s (o + w)) (config (items 0) none (out ++ (rec 1 (tok (lexed block w) o) ∷ [])) [])) (refused 17 o 0)
    by true = refl
    by false = refl

module _ (r : Reading) (s : List ℕ) (o : ℕ) (g : gap (drop o s) ≡ 0) (e : save_at r s o ≡ true) where
  pub frame-opens : heading_fits r (end_of_word s o - o) ≡ true → Passed r s none o (some o) (gap_end s (end_of_word s o)) (added no_sizes 2 (end_of_word s o - o)) 0
  unfolding mode_of
  frame-opens = heading-onward r s none o 2 save (some o) (met-open s o g r e) (λ c out. open-reads r c s o (word (drop o s)) out (met-open s o g r e))

  pub frame-misnamed : heading_fits r (end_of_word s o - o) ≡ false → Framed r s o (Err (fault BadName o))
  unfolding Framed Stepped mode_of
  frame-misnamed h = heading-refused r s none o 2 save (some o) (met-open s o g r e) (λ c out. open-reads r c s o (word (drop o s)) out (met-open s o g r e)) h

pub heading-stepped : (s : List ℕ) (o : ℕ) → gap (drop o s) ≡ 0 → data_at Strict s o ≡ true → Framed Strict s o (heading_of Strict s 1 o)
unfolding Framed heading_of mode_of
heading-stepped s o g e = by (heading_fits Strict (end_of_word s o - o)) refl
  where
    reads : (c : ℕ) (out : List Rec) → left Strict c none s o out ≡ cond (heading_fits Strict (word (drop o s))) (left Strict 0 none s (o + word (drop o s)) (out ++ (rec 1 (tok (lexed block (word (drop o s))) o) ∷ []))) (refused 17 o 0)
    reads c out = heads-reads c s o (word (drop o s)) out (met-heading s o g e)

    by : (b : Bool) → heading_fits Strict (end_of_word s o - o) ≡ b → (d : ℕ) → Stepped Strict d s o (cond b (Ok (read (gap_end s (end_of_word s o)) (added no_sizes 1 (end_of_word s o - o)) 0)) (Err (fault BadName o)))
    by true h d = unfold Stepped in heading-onward Strict s none o 1 block none (met-heading s o g e) reads h
    by false h d = unfold Stepped in heading-refused Strict s none o 1 block none (met-heading s o g e) reads h d

-- what a frame's item is, once it is known
pub inside-known :
    (r : Reading) (s : List ℕ) (a o : ℕ) (i : Result Answered Fault) (x : Result Inside Fault)
    → o ≤ length s
    → gap (drop o s) ≡ 0
    → i ≡ item_at r s o
    → x ≡ in_frame_of i
    → PassedInside r s a o x
inside-known r s a o i x h g e f = rw (f, e) (item-inside r s a o h g)

pub inside-read : {r : Reading} {s : List ℕ} {a o p : ℕ} {z : Sizes} {x : Result Inside Fault} → PassedInside r s a o x → x ≡ Ok (Read p z) → Passed r s (some a) o (some a) p z 0
unfolding PassedInside
inside-read h q = rw q at h

pub inside-dropped : {r : Reading} {s : List ℕ} {a o p : ℕ} {x : Result Inside Fault} → PassedInside r s a o x → x ≡ Ok (Dropped p) → DroppedAt r s a o p
unfolding PassedInside
inside-dropped h q = rw q at h

pub inside-refused : (r : Reading) (s : List ℕ) (a o : ℕ) {e : Fault} {x : Result Inside Fault} → PassedInside r s a o x → x ≡ Err e → (out : List Rec) → told (Err e) ≡ tells (left r 0 (some a) s o out)
unfolding PassedInside
inside-refused r s a o h q = rw q at h

-- what a part of the block is, once it is known
pub stepped-read : (r : Reading) (d : ℕ) (s : List ℕ) (o : ℕ) (y : Step) (x : Result Step Fault) → Stepped r d s o x → x ≡ Ok y → Passed r s none o none y.next y.sizes y.reason
unfolding Stepped
stepped-read r d s o y x h q = rw q at h

pub stepped-refused : (r : Reading) (d : ℕ) (s : List ℕ) (o : ℕ) (e : Fault) (x : Result Step Fault) → Stepped r d s o x → x ≡ Err e → (out : List Rec) → told (Err e) ≡ tells (left r d none s o out)
unfolding Stepped
stepped-refused r d s o e x h q = rw q at h

-- a heading as the code reads it
pub heading-fine : (r : Reading) (s : List ℕ) (k o end : ℕ) → end ≡ end_of_word s o → heading_fits r (end - o) ≡ true → (next : ℕ) → next ≡ gap_end s end → (z : Sizes) → z ≡ added no_sizes k (end - o) → Ok (read next z 0) ≡ heading_of r s k o
unfolding heading_of
heading-fine r s k o end e f next n z q = rw (n, q, ← e, f)

pub heading-bad : (r : Reading) (s : List ℕ) (k o end : ℕ) → end ≡ end_of_word s o → heading_fits r (end - o) ≡ false → Err (fault BadName o) ≡ heading_of r s k o
unfolding heading_of
heading-bad r s k o end e f = rw (← e, f)

-- what a heading says: where it is read its name may stand, and it is read there
pub record HeadingRead (r : Reading) (s : List ℕ) (k o : ℕ) (y : Step) : Type 0 where
  pub fits : heading_fits r (end_of_word s o - o) ≡ true
  pub next : y.next ≡ gap_end s (end_of_word s o)
  pub sizes : y.sizes ≡ added no_sizes k (end_of_word s o - o)
  pub reason : y.reason ≡ 0

pub heading-read : (r : Reading) (s : List ℕ) (k o : ℕ) (y : Step) (x : Result Step Fault) → x ≡ heading_of r s k o → x ≡ Ok y → HeadingRead r s k o y
unfolding heading_of
heading-read r s k o y x e q = by (heading_fits r (end_of_word s o - o)) refl (sym q ∙ e)
  where
    by : (b : Bool) → heading_fits r (end_of_word s o - o) ≡ b → Ok y ≡ cond b (Ok (read (gap_end s (end_of_word s o)) (added no_sizes k (end_of_word s o - o)) 0)) (Err (fault BadName o)) → HeadingRead r s k o y
    by true f q =
        let c : y ≡ read (gap_end s (end_of_word s o)) (added no_sizes k (end_of_word s o - o)) 0 = cc in
        rw c (record { fits = f; next = refl; sizes = refl; reason = refl })
    by false f q = let y : ◌≡◌ {A = ℕ} 0 1 = cc in absurd (omega arith)

pub heading-lost : (r : Reading) (s : List ℕ) (k o : ℕ) (e : Fault) (x : Result Step Fault) → x ≡ heading_of r s k o → x ≡ Err e → (heading_fits r (end_of_word s o - o) ≡ false) × (e ≡ fault BadName o)
unfolding heading_of
heading-lost r s k o e x h q = by (heading_fits r (end_of_word s o - o)) refl (sym q ∙ h)
  where
    by : (b : Bool) → heading_fits r (end_of_word s o - o) ≡ b → Err e ≡ cond b (Ok (read (gap_end s (end_of_word s o)) (added no_sizes k (end_of_word s o - o)) 0)) (Err (fault BadName o)) → (heading_fits r (end_of_word s o - o) ≡ false) × (e ≡ fault BadName o)
    by true f q = let y : ◌≡◌ {A = ℕ} 0 1 = cc in absurd (omega arith)
    by false f q = (f, cc)

-- where no item starts lies within the text
pub absent-within : (r : Reading) (s : List ℕ) (o p : ℕ) → o ≤ length s → gap (drop o s) ≡ 0 → item_at r s o ≡ Ok (Absent p) → p ≤ length s
unfolding PassedInside
absent-within r s o p h g e = let d : DroppedAt r s 0 o p = rw e at (item-inside r s 0 o h g) in d.within

-- a further heading, by the reading
pub further-stepped : (r : Reading) (s : List ℕ) (o : ℕ) → gap (drop o s) ≡ 0 → heads_block r s o ≡ true → Framed r s o (heading_of r s 1 o)
further-stepped First s o g e = absurd (false≢true e)
further-stepped Strict s o g e = heading-stepped s o g e
