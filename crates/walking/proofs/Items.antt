-- Writing an item: a loop's head, names, values and end, or a tag and its value. Assumes nothing.
use Prim.Native.Nat.{ℕ, suc, ◌+◌, ◌-◌, ◌*◌, ◌%◌, ◌≤◌, ◌<◌}
use mathlib.Core.Path.{◌≡◌, refl, sym, ap, ◌∙◌}
use mathlib.Core.Bool.{Bool, true, false, cond, false≢true}
use mathlib.Core.List.{List, [], ◌∷◌, ◌++◌}
use mathlib.Core.Logic.{◌⊎◌, inl, inr}
use native.Mathlib.Omega.{arith}
use lib.Dec.{eqb}
use lib.ListN.{length, drop}
use Rattle.columns.specs.Before.{byte_before}
use Rattle.rules.specs.declared.Reading.{Reading}
use Rattle.rules.specs.declared.Reading.TheVariants.{First, Strict}
use Rattle.gaps.specs.Gaps.{gap, gap_end}
use Rattle.places.specs.Places.{place_at}
use Rattle.gaps.proofs.Gaps.{gap-none}
use Rattle.places.proofs.Places.{place-offset}
use Rattle.words.specs.Words.{word, end_of_word}
use Rattle.words.specs.Names.{fits_tag}
use Rattle.words.proofs.Words.{word_end}
use Rattle.values.specs.Values.{Class, block, loop, save, tag, value, over_limit, nothing, lexed}
use Rattle.kinds.specs.Kinds.{kind_of, marks_of, is_value_kind}
use Rattle.kinds.proofs.Marks.{each-value}
use Rattle.found.specs.declared.Found.{Found}
use Rattle.found.specs.declared.Found.TheVariants.{Value, Over, Missing}
use Rattle.grammar.specs.Tokens.{in_block, lex_in, after, Tok, tok, tokens_at, heading_at, head_why, tag_at, loop_at}
use Rattle.grammar.specs.Machine.{Rec, rec, loop_end, lacks_values, last_at}
use Rattle.grammar.specs.Descent.{name_recs, after_names, value_recs, after_values, Item, taken, failed, absent, broken, is_over, head_tag, head_joined, failed_by, rows, loop_by, loop_valued, loop_item, single, tag_valued, tag_item, item_by, item}
use Rattle.sizes.specs.Sizes.{store_size, sizes_of}
use Rattle.std.specs.Prelude.{Ok}
use Rattle.items.specs.declared.Item.TheVariants.{Absent}
use Rattle.items.specs.Answers.{item_answer, item_at}
use Rattle.openings.specs.Openings.{name_end}
use Rattle.openings.proofs.Openings.{loop-bytes}
use Rattle.values.specs.Finding.{found_at}
use Rattle.grammar.proofs.Descent.{IsName, NoName, name-or-not, names_more, names-none}
use Rattle.grammar.proofs.Offsets.{tokens-gap, Met, met-loop, met-tag, first-in, both, both-spot}
use Rattle.items.proofs.Items.{head_at, item-none}
use Rattle.items.proofs.Lists.{met-value}
use Rattle.values.specs.Answers.{wanted}
use Rattle.found.specs.Packing.{number_of_why}
use Rattle.items.proofs.Wanted.{found-wanted}
use Rattle.items.proofs.Passes.{names-alike}
use Rattle.walking.specs.Writing.{tags_of}
use Rattle.walking.specs.Walk.{Wrote, Onward, item_recs, item_rest, is_taken, item_of, ItemHere, WroteItem}
use Rattle.desk.specs.Desk.{Desk, Room, IsToken, rec_at, WroteOne}
use Rattle.walking.proofs.Appends.{area-size-append, store-length-append}
use Rattle.desk.proofs.Lines.{part-token}
use Rattle.walking.specs.Walk.{names_from, behind_names, values_from, behind_values}
use Rattle.walking.proofs.Onward.{onward-here, onward_then, room-onward, wrote-onward, one-onward, onward-wrote}
use Rattle.walking.proofs.SoFar.{room-first}
use Rattle.walking.proofs.Turns.{name-turn, name-none, value-turn, value_none}

-- Counting tags

-- names, each a loop's tag, before anything else
names-count : (r : Reading) (ts : List Tok) (ys : List Rec) → tags_of (name_recs r ts ++ ys) ≡ length (name_recs r ts) + tags_of ys
unfolding name_recs tags_of rec
names-count r [] ys = omega arith
names-count r (t ∷ ts) ys = by (name-or-not r t) (names-count r ts ys)
  where
    by : IsName r t ⊎ NoName r t → tags_of (name_recs r ts ++ ys) ≡ length (name_recs r ts) + tags_of ys → tags_of (name_recs r (t ∷ ts) ++ ys) ≡ length (name_recs r (t ∷ ts)) + tags_of ys
    by (inl e) h = rw (names_more r t ts e).0 (omega (arith, h))
    by (inr e) h = rw (names-none r t ts e).0 (omega arith)

-- values are no tags
tags-value : (k o n : ℕ) (rs : List Rec) → is_value_kind k ≡ true → tags_of (rec_at k o n ∷ rs) ≡ 0
unfolding tags_of
tags-value k o n rs h = each-value (λ k. tags_of (rec_at k o n ∷ rs) ≡ 0) refl refl refl refl refl refl refl refl refl k h

pub values-tags : (r : Reading) (s : List ℕ) (o : ℕ) → tags_of (values_from r s o ++ (loop_end ∷ [])) ≡ 0
values-tags r s o = by (found_at r s (gap_end s o)) refl
  where
    none : values_from r s o ≡ [] → tags_of (values_from r s o ++ (loop_end ∷ [])) ≡ 0
    none e = rw e (unfold tags_of loop_end in refl)

    by : (f : Found) → found_at r s (gap_end s o) ≡ f → tags_of (values_from r s o ++ (loop_end ∷ [])) ≡ 0
    by (Value k n) e = let t = value-turn r s o (gap_end s o) k n refl e in rw t.recs (tags-value k (gap_end s o) n _ t.value)
    by Over e = none (value_none r s o (gap_end s o) refl (λ k n q. let z : ◌≡◌ {A = ℕ} 0 1 = cc in omega arith)).0
    by (Missing w) e = none (value_none r s o (gap_end s o) refl (λ k n q. let z : ◌≡◌ {A = ℕ} 0 1 = cc in omega arith)).0

-- the tokens behind names are those from their first on
pub names-rest : (r : Reading) (s : List ℕ) (o : ℕ) → o ≤ length s → behind_names r s o ≡ tokens_at r in_block s (heading_at (behind_names r s o))
names-rest r s o h = (both-spot (names-alike (both r s o h)).rest).in_block

-- names are few
size-each : (rs : List Rec) → length rs ≤ store_size rs
unfolding store_size
size-each [] = omega arith
size-each (r ∷ rs) = omega (arith, size-each rs)

pub names-few : (r : Reading) (s : List ℕ) (o : ℕ) → o ≤ length s → length s ≤ 16777216 → length (names_from r s o) < 4294967296
unfolding sizes_of
names-few r s o h l =
    let a = names-alike (both r s o h) in
    let p = both-spot a.rest in
    let f : store_size (names_from r s o) ≤ 64 * (a.to - o) = a.fits.store in
    omega (arith, size-each (names_from r s o), p.onward, p.within)

-- one tag more
pub record CountTurn (r : Reading) (s : List ℕ) (o e : ℕ) : Type 0 where
  pub within : e ≤ length s
  pub more : length (names_from r s o) ≡ suc (length (names_from r s (gap_end s e)))

pub count_turn : (r : Reading) (s : List ℕ) (o e : ℕ) → o ≤ length s → gap_end s o ≡ o → e ≡ name_end r s o → o < e → CountTurn r s o e
count_turn r s o e h g q l =
    let n = e - o in
    let u = name-turn r s o o n h (sym g) (rw (← q) l) (ap (λ x. x - o) q) in
    let z : o + n ≡ e = omega arith in
    let w : o + n ≤ length s = u.token.within in
    let x : names_from r s o ≡ rec_at 6 o n ∷ names_from r s (o + n) = u.recs in
    record {
      within = omega arith;
      more = ap length x ∙ ap (λ x. suc (length (names_from r s x))) z ∙ ap (λ x. suc (length (name_recs r x))) (sym (tokens-gap r in_block s e));
    }

pub count_none : (r : Reading) (s : List ℕ) (o : ℕ) → gap_end s o ≡ o → name_end r s o ≤ o → length (names_from r s o) ≡ 0
count_none r s o g t = ap length (name-none r s o o (sym g) t).0

-- An item that fails is none that is read

failed-none : {A : Type 0} (r : Reading) (n o d : ℕ) (rest : List Tok) → is_taken (failed_by r n o d rest) ≡ true → A
unfolding is_taken
failed-none First n o d rest e = absurd (false≢true e)
failed-none Strict n o d rest e = by (head_joined rest) e
  where
    by : {A : Type 0} (b : Bool) → is_taken (cond b (broken 15 (heading_at rest) 0) (broken n o d)) ≡ true → A
    by true e = absurd (false≢true e)
    by false e = absurd (false≢true e)

-- what is read behind a test that would end the reading
past : (b : Bool) (n o d : ℕ) (i : Item) → is_taken (cond b (broken n o d) i) ≡ true → cond b (broken n o d) i ≡ i
unfolding is_taken
past true n o d i e = absurd (false≢true e)
past false n o d i e = refl

-- A loop

-- the loop at t, of these names and values, before these tokens
abbrev loop_read : Tok → List Rec → List Rec → List Tok → Item
loop_read t ns vs us = taken true (rec 5 t ∷ (ns ++ (vs ++ (loop_end ∷ [])))) us

rows-read : (r : Reading) (t : Tok) (ns vs : List Rec) (us : List Tok) → is_taken (rows r t ns vs us) ≡ true → rows r t ns vs us ≡ loop_read t ns vs us
unfolding rows
rows-read r t ns vs us e =
    let p = past (lacks_values r (length vs)) 6 (last_at ns) (number_of_why (head_why us)) _ e in
    p ∙ by (eqb (length vs % length ns) 0) (rw p at e)
  where
    by : (b : Bool) → is_taken (cond b (loop_read t ns vs us) (failed_by r 5 t.at (length vs % length ns) us)) ≡ true
        → cond b (loop_read t ns vs us) (failed_by r 5 t.at (length vs % length ns) us) ≡ loop_read t ns vs us
    by true e = refl
    by false e = failed-none r 5 t.at (length vs % length ns) us e

values-read : (r : Reading) (t : Tok) (ns vs : List Rec) (us : List Tok) → is_taken (loop_by r t ns vs us) ≡ true → loop_by r t ns vs us ≡ loop_read t ns vs us
unfolding loop_by
values-read r t ns vs [] e = unfold is_taken in absurd (false≢true e)
values-read r t ns vs (u ∷ us) e =
    let p = past (is_over u.class) 9 u.at 0 (rows r t ns vs (u ∷ us)) e in
    p ∙ rows-read r t ns vs (u ∷ us) (rw p at e)

valued_read : (r : Reading) (t : Tok) (ns : List Rec) (us : List Tok) → is_taken (loop_valued r t ns us) ≡ true → loop_valued r t ns us ≡ loop_read t ns (value_recs us) (after_values us)
unfolding loop_valued
valued_read r t [] us e = unfold is_taken in absurd (false≢true e)
valued_read r t (n ∷ ns) us e = values-read r t (n ∷ ns) (value_recs us) (after_values us) e

names-read : (r : Reading) (t : Tok) (ns : List Rec) (us : List Tok) → is_taken (loop_item r t ns us) ≡ true → loop_item r t ns us ≡ loop_read t ns (value_recs us) (after_values us)
unfolding loop_item
names-read r t ns us e =
    let p = past (head_tag us) 17 (heading_at us) 0 (loop_valued r t ns us) e in
    p ∙ valued_read r t ns us (rw p at e)

-- the parts of a loop that is read: p is where its values start
pub record LoopParts (r : Reading) (s : List ℕ) (o p : ℕ) : Type 0 where
  pub token : IsToken s 5 o 5
  pub recs : item_recs (item_of r s o) ≡ rec_at 5 o 5 ∷ (names_from r s (o + 5) ++ (values_from r s p ++ (loop_end ∷ [])))
  pub rest : item_rest (item_of r s o) ≡ behind_values r s p

pub loop-parts : (r : Reading) (s : List ℕ) (o : ℕ) → o ≤ length s → gap (drop o s) ≡ 0 → loop_at r s o ≡ true → is_taken (item_of r s o) ≡ true → LoopParts r s o (heading_at (behind_names r s (o + 5)))
unfolding item item_by item_recs item_rest lexed tok after rec kind_of marks_of
loop-parts r s o h g e t =
    let m = met-loop s o g r e in
    let k = tok (lexed loop 5) o in
    let ts = tokens_at r in_block s (o + 5) in
    let i : item_of r s o ≡ loop_item r k (name_recs r ts) (after_names r ts) = rw m.next in
    let p : after_names r ts ≡ tokens_at r in_block s (heading_at (after_names r ts)) = names-rest r s (o + 5) m.within in
    let q : item_of r s o ≡ loop_read k (name_recs r ts) (value_recs (after_names r ts)) (after_values (after_names r ts)) = i ∙ names-read r k (name_recs r ts) (after_names r ts) (rw i at t) in
    record {
      token = part-token s 5 o 5 h (omega arith) (loop-bytes r s o e) (omega arith);
      recs = ap item_recs q ∙ ap (λ (x : List Tok). rec 5 k ∷ (name_recs r ts ++ (value_recs x ++ (loop_end ∷ [])))) p;
      rest = ap item_rest q ∙ ap after_values p;
    }

-- room for two lists is room for the first
pub room-prefix : (full : Bool) (xs ys : List Rec) (d : Desk) → Room full (xs ++ ys) d → Room full xs d
room-prefix full xs ys d r =
    record { store = omega (arith, r.store, store-length-append full xs ys); area = λ t. omega (arith, r.area t, area-size-append xs ys) }

-- part of an item is written, and there is room for what is left
pub record Partly (full : Bool) (s : List ℕ) (rs : List Rec) (d : Desk) (left : List Rec) (e : Desk) : Type 0 where
  pub onward : Onward full s rs d left e
  pub room : Room full left e

module _ (full : Bool) (s : List ℕ) (rs : List Rec) (d : Desk) where
  partly_here : (ls : List Rec) → rs ≡ ls → Room full rs d → Partly full s rs d ls d
  partly_here ls e r = record { onward = rw (← e) (onward-here full s rs d); room = rw (← e) r }

  partly-one : (e f : Desk) (r : Rec) (ls : List Rec) (n o : ℕ) → Partly full s rs d (r ∷ ls) e → n ≡ tags_of ls → WroteOne full s n r o e f → Partly full s rs d ls f
  partly-one e f r ls n o p q w =
      let one : Onward full s (r ∷ ls) e ls f = one-onward full s r ls o e f p.room (rw q at w) in
      record { onward = onward_then full s rs (r ∷ ls) ls d e f p.onward one; room = room-onward full s (r ∷ ls) ls e f p.room one }

  partly-many : (e f : Desk) (xs ys : List Rec) (o : ℕ) → Partly full s rs d (xs ++ ys) e → tags_of ys ≡ 0 → Wrote full s xs o e f → Partly full s rs d ys f
  partly-many e f xs ys o p q w =
      let many : Onward full s (xs ++ ys) e ys f = wrote-onward full s xs ys o e f q p.room w in
      record { onward = onward_then full s rs (xs ++ ys) ys d e f p.onward many; room = room-onward full s (xs ++ ys) ys e f p.room many }

-- the steps of a loop
module _ (r : Reading) (full : Bool) (s : List ℕ) (d : Desk) (h : ItemHere r full s d) (l : loop_at r s d.cursor.place.offset ≡ true) where
  abbrev o : ℕ
  o = d.cursor.place.offset

  -- where its values start
  abbrev p : ℕ
  p = heading_at (behind_names r s (o + 5))

  abbrev recs : List Rec
  recs = item_recs (item_of r s o)

  abbrev ends : List Rec
  ends = values_from r s p ++ (loop_end ∷ [])

  parts : LoopParts r s o p
  parts = loop-parts r s o h.going.place.within h.bare l h.read

  pub loop_token : IsToken s 5 o 5
  loop_token = parts.token

  pub loop-begun : Partly full s recs d (rec_at 5 o 5 ∷ (names_from r s (o + 5) ++ ends)) d
  loop-begun = partly_here full s recs d _ parts.recs h.room

  -- its head, with the number of names
  pub loop-opened : (e : Desk) (n : ℕ) → n ≡ length (names_from r s (o + 5)) → WroteOne full s n (rec_at 5 o 5) (o + 5) d e → Partly full s recs d (names_from r s (o + 5) ++ ends) e
  loop-opened e n q w =
      let z : length (names_from r s (o + 5)) + tags_of ends ≡ tags_of (names_from r s (o + 5) ++ ends) = sym (names-count r (tokens_at r in_block s (o + 5)) ends) in
      partly-one full s recs d d e (rec_at 5 o 5) (names_from r s (o + 5) ++ ends) n (o + 5) loop-begun (omega (arith, values-tags r s p)) w

  -- its names
  pub loop-named : (e f : Desk) → Partly full s recs d (names_from r s (o + 5) ++ ends) e → e.cursor.place.offset ≡ o + 5
      → Wrote full s (names_from r s e.cursor.place.offset) (heading_at (behind_names r s e.cursor.place.offset)) e f → Partly full s recs d ends f × (f.cursor.place.offset ≡ p)
  loop-named e f b q w =
      let x : names_from r s e.cursor.place.offset ≡ names_from r s (o + 5) = ap (names_from r s) q in (
        partly-many full s recs d e f (names_from r s (o + 5)) ends _ b (values-tags r s p) (rw x at w),
        place-offset s f.cursor.place _ w.place ∙ ap (λ x. heading_at (behind_names r s x)) q,
      )

  pub loop-names-room : (e : Desk) → Partly full s recs d (names_from r s (o + 5) ++ ends) e → e.cursor.place.offset ≡ o + 5 → Room full (names_from r s e.cursor.place.offset) e
  loop-names-room e b q =
      let x : names_from r s e.cursor.place.offset ≡ names_from r s (o + 5) = ap (names_from r s) q in
      rw x (room-prefix full (names_from r s (o + 5)) ends e b.room)

  pub loop-values-room : (e : Desk) → Partly full s recs d ends e → e.cursor.place.offset ≡ p → Room full (values_from r s e.cursor.place.offset) e
  loop-values-room e b q =
      let x : values_from r s e.cursor.place.offset ≡ values_from r s p = ap (values_from r s) q in
      rw x (room-prefix full (values_from r s p) (loop_end ∷ []) e b.room)

  -- its values
  pub loop-valued : (e f : Desk) → Partly full s recs d ends e → e.cursor.place.offset ≡ p
      → Wrote full s (values_from r s e.cursor.place.offset) (heading_at (behind_values r s e.cursor.place.offset)) e f → Partly full s recs d (loop_end ∷ []) f × (f.cursor.place.offset ≡ heading_at (item_rest (item_of r s o)))
  loop-valued e f b q w =
      let x : values_from r s e.cursor.place.offset ≡ values_from r s p = ap (values_from r s) q in (
        partly-many full s recs d e f (values_from r s p) (loop_end ∷ []) _ b (unfold tags_of loop_end in refl) (rw x at w),
        place-offset s f.cursor.place _ w.place ∙ ap (λ x. heading_at (behind_values r s x)) q ∙ ap heading_at (sym parts.rest),
      )

  -- its end
  pub loop_ended : (e f : Desk) → Partly full s recs d (loop_end ∷ []) e → e.cursor.place.offset ≡ heading_at (item_rest (item_of r s o)) → WroteOne full s 0 loop_end e.cursor.place.offset e f → Onward full s recs d [] f × WroteItem r full s d f
  loop_ended e f b q w =
      let done = partly-one full s recs d e f loop_end [] 0 e.cursor.place.offset b (unfold tags_of in refl) w in
      (done.onward, onward-wrote full s recs (heading_at (item_rest (item_of r s o))) d f done.onward w.going (w.place ∙ ap (place_at s) q))

-- A tag and its value

single-read : (r : Reading) (t : Tok) (c : Class) (u : Tok) (us : List Tok) → is_taken (single r t c u us) ≡ true → (k : ℕ) × (c ≡ value k)
unfolding single
single-read r t (value k) u us e = (k, refl)
single-read r t over_limit u us e = unfold is_taken in absurd (false≢true e)
single-read r t tag u us e = failed-none r _ _ _ _ e
single-read r t block u us e = failed-none r _ _ _ _ e
single-read r t loop u us e = failed-none r _ _ _ _ e
single-read r t save u us e = failed-none r _ _ _ _ e
single-read r t (nothing w) u us e = failed-none r _ _ _ _ e

tag_fits : (r : Reading) (t : Tok) (ts : List Tok) → is_taken (tag_item r t ts) ≡ true → tag_item r t ts ≡ tag_valued r t ts
unfolding tag_item
tag_fits r t ts e = by (fits_tag r t.size) e
  where
    by : (b : Bool) → is_taken (cond b (tag_valued r t ts) (broken 17 t.at 0)) ≡ true → cond b (tag_valued r t ts) (broken 17 t.at 0) ≡ tag_valued r t ts
    by true e = refl
    by false e = unfold is_taken in absurd (false≢true e)

wanted-value : (c : Class) (k n : ℕ) → c ≡ value k → wanted c n ≡ Value k n
unfolding wanted
wanted-value c k n e = rw e

-- the value at j, behind the tag of w bytes at o
pub record TagParts (r : Reading) (s : List ℕ) (o w j : ℕ) : Type 0 where
  pub token : IsToken s 4 o w
  pub kind : ℕ
  pub size : ℕ
  pub found : found_at r s j ≡ Value kind size
  pub recs : item_recs (item_of r s o) ≡ rec_at 4 o w ∷ (rec_at kind j size ∷ [])
  pub rest : heading_at (item_rest (item_of r s o)) ≡ gap_end s (j + size)

-- a tag that is read
tag_read : (r : Reading) (s : List ℕ) (o w : ℕ) → Met r in_block s o (lexed tag w) → is_taken (item_of r s o) ≡ true → item_of r s o ≡ tag_valued r (tok (lexed tag w) o) (tokens_at r in_block s (o + w))
unfolding item item_by lexed tok after
tag_read r s o w m e =
    let i : item_of r s o ≡ tag_item r (tok (lexed tag w) o) (tokens_at r in_block s (o + w)) = rw m.next in
    i ∙ tag_fits r (tok (lexed tag w) o) (tokens_at r in_block s (o + w)) (rw i at e)

-- has a value behind it
tag-found : (r : Reading) (s : List ℕ) (o w j : ℕ) → Met r in_block s o (lexed tag w) → j ≡ gap_end s (o + w) → is_taken (item_of r s o) ≡ true → (k : ℕ) × (n : ℕ) × (found_at r s j ≡ Value k n)
unfolding tag_valued tok
tag-found r s o w j m z e =
    let b : gap (drop j s) ≡ 0 = rw z (gap-none s (o + w)) in
    let f = first-in s j b r in
    let y = lex_in r (byte_before s j) in_block (drop j s) in
    let u : tokens_at r in_block s (o + w) ≡ tok y j ∷ f.0 = sym (tokens-gap r in_block s (o + w)) ∙ rw (← z) f.1 in
    let i : item_of r s o ≡ single r (tok (lexed tag w) o) y.class (tok y j) f.0 = tag_read r s o w m e ∙ rw u in
    let k = single-read r (tok (lexed tag w) o) y.class (tok y j) f.0 (rw i at e) in
    (k.0, y.size, found-wanted r in_block s j ∙ wanted-value y.class k.0 y.size k.1)

tag-with : (r : Reading) (s : List ℕ) (o w j k n : ℕ) → o ≤ length s → Met r in_block s o (lexed tag w) → is_taken (item_of r s o) ≡ true → w ≤ word (drop o s) → j ≡ gap_end s (o + w) → found_at r s j ≡ Value k n → TagParts r s o w j
unfolding tag_valued single item_recs item_rest lexed tok after rec kind_of marks_of
tag-with r s o w j k n h m e l z v =
    let b : gap (drop j s) ≡ 0 = rw z (gap-none s (o + w)) in
    let a : tokens_at r in_block s (o + w) ≡ tok (lexed (value k) n) j ∷ tokens_at r in_block s (j + n) = sym (tokens-gap r in_block s (o + w)) ∙ rw (← z) (met-value r s j k n b v).next in
    let c : item_of r s o ≡ taken false (rec 4 (tok (lexed tag w) o) ∷ (rec k (tok (lexed (value k) n) j) ∷ [])) (tokens_at r in_block s (j + n)) = tag_read r s o w m e ∙ rw a in
    record {
      token = part-token s 4 o w h m.some_bytes l m.some_bytes;
      kind = k;
      size = n;
      found = v;
      recs = ap item_recs c;
      rest = ap (λ x. heading_at (item_rest x)) c ∙ head_at r in_block s (j + n);
    }

pub tag-parts : (r : Reading) (s : List ℕ) (o w j : ℕ) → o ≤ length s → gap (drop o s) ≡ 0 → tag_at r s o ≡ true → is_taken (item_of r s o) ≡ true → w ≡ end_of_word s o - o → j ≡ gap_end s (o + w) → TagParts r s o w j
tag-parts r s o w j h g e t q z =
    let x : w ≡ word (drop o s) = omega (arith, word_end s o) in
    let m : Met r in_block s o (lexed tag w) = rw x (met-tag s o g r e) in
    let f = tag-found r s o w j m z t in
    tag-with r s o w j f.0 f.1 h m t (omega arith) z f.2

-- the steps of a tag and its value
module _ (r : Reading) (full : Bool) (s : List ℕ) (d : Desk) (h : ItemHere r full s d) (t : tag_at r s d.cursor.place.offset ≡ true) (w : ℕ) (q : w ≡ end_of_word s d.cursor.place.offset - d.cursor.place.offset) where
  abbrev from : ℕ
  from = d.cursor.place.offset

  abbrev records : List Rec
  records = item_recs (item_of r s from)

  pair : TagParts r s from w (gap_end s (from + w))
  pair = tag-parts r s from w (gap_end s (from + w)) h.going.place.within h.bare t h.read q refl

  pub tag-token : IsToken s 4 from w
  tag-token = pair.token

  tag-begun : Partly full s records d (rec_at 4 from w ∷ (rec_at pair.kind (gap_end s (from + w)) pair.size ∷ [])) d
  tag-begun = partly_here full s records d _ pair.recs h.room

  pub tag-room : Room full (rec_at 4 from w ∷ []) d
  tag-room = room-first full _ _ d tag-begun.room

  -- the tag is written
  tag-written : (e : Desk) → WroteOne full s 0 (rec_at 4 from w) (from + w) d e → Partly full s records d (rec_at pair.kind (gap_end s (from + w)) pair.size ∷ []) e
  tag-written e x =
      let v = value-turn r s (from + w) (gap_end s (from + w)) pair.kind pair.size refl pair.found in
      partly-one full s records d d e (rec_at 4 from w) _ 0 (from + w) tag-begun (sym (tags-value pair.kind (gap_end s (from + w)) pair.size [] v.value)) x

  -- its value is the only one there
  tag-values : (values_from r s (from + w) ≡ rec_at pair.kind (gap_end s (from + w)) pair.size ∷ []) × (heading_at (behind_values r s (from + w)) ≡ heading_at (item_rest (item_of r s from)))
  tag-values =
      let j = gap_end s (from + w) in
      let p = j + pair.size in
      let v = value-turn r s (from + w) j pair.kind pair.size refl pair.found in
      let n = value_none r s p (gap_end s p) refl (rw pair.rest at h.alone) in
      (v.recs ∙ ap (λ (x : List Rec). rec_at pair.kind j pair.size ∷ x) n.0, ap heading_at (v.rest ∙ n.1) ∙ head_at r in_block s p ∙ sym pair.rest)

  module _ (e : Desk) (x : WroteOne full s 0 (rec_at 4 from w) (from + w) d e) where
    behind : e.cursor.place.offset ≡ from + w
    behind = place-offset s e.cursor.place (from + w) x.place

    abbrev value-recs : List Rec
    value-recs = rec_at pair.kind (gap_end s (from + w)) pair.size ∷ []

    its-values : values_from r s e.cursor.place.offset ≡ value-recs
    its-values = ap (values_from r s) behind ∙ tag-values.0

    pub tag-value-room : Room full (values_from r s e.cursor.place.offset) e
    tag-value-room = rw its-values (tag-written e x).room

    pub tag-done : (f : Desk) → Wrote full s (values_from r s e.cursor.place.offset) (heading_at (behind_values r s e.cursor.place.offset)) e f → Onward full s records d [] f × WroteItem r full s d f
    tag-done f o =
        let ends : heading_at (behind_values r s e.cursor.place.offset) ≡ heading_at (item_rest (item_of r s from)) = ap (λ x. heading_at (behind_values r s x)) behind ∙ tag-values.1 in
        let b : Wrote full s value-recs (heading_at (item_rest (item_of r s from))) e f = rw (its-values, ends) at o in
        let all = partly-many full s records d e f value-recs [] _ (tag-written e x) (unfold tags_of in refl) b in
        (all.onward, onward-wrote full s records _ d f all.onward b.going b.place)

-- an item that is read is a loop, or a tag and its value
no_other : (r : Reading) (s : List ℕ) (o : ℕ) → gap (drop o s) ≡ 0 → loop_at r s o ≡ false → tag_at r s o ≡ false → is_taken (item_of r s o) ≡ true → ⊥
no_other r s o g e t x = read (item_of r s o) x (unfold item_at in item-none r s o g e t)
  where
    read : (i : Item) → is_taken i ≡ true → item_answer i ≡ Ok (Absent o) → ⊥
    read (taken true rs rest) x e = let z : ◌≡◌ {A = ℕ} 0 1 = unfold item_answer in cc in omega arith
    read (taken false rs rest) x e = let z : ◌≡◌ {A = ℕ} 0 1 = unfold item_answer in cc in omega arith
    read (failed n a d rest) x e = unfold is_taken in absurd (false≢true x)
    read (absent rest) x e = unfold is_taken in absurd (false≢true x)
    read (broken n a d) x e = unfold is_taken in absurd (false≢true x)

module _ (r : Reading) (s : List ℕ) (o : ℕ) (g : gap (drop o s) ≡ 0) where
  pub tag-here : loop_at r s o ≡ false → is_taken (item_of r s o) ≡ true → tag_at r s o ≡ true
  tag-here e x = by (tag_at r s o) refl
    where
      by : (t : Bool) → tag_at r s o ≡ t → t ≡ true
      by true t = refl
      by false t = absurd (no_other r s o g e t x)

  pub loop-here : tag_at r s o ≡ false → is_taken (item_of r s o) ≡ true → loop_at r s o ≡ true
  loop-here e x = by (loop_at r s o) refl
    where
      by : (t : Bool) → loop_at r s o ≡ t → t ≡ true
      by true t = refl
      by false t = absurd (no_other r s o g t e x)
