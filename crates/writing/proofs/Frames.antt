-- Writing items, frames and the block: the cursor moves on, and what is left stays the same. Assumes nothing.
use Prim.Native.Nat.{ℕ, ◌+◌, ◌-◌, ◌≤◌, ◌<◌}
use mathlib.Core.Path.{◌≡◌, refl, sym, ap, ◌∙◌}
use mathlib.Core.Bool.{Bool, true, false}
use mathlib.Core.List.{List, [], ◌∷◌, ◌++◌, append_assoc, append-nil}
use mathlib.Core.Option.{Option, none, some}
use native.Mathlib.Omega.{arith}
use lib.Dec.{eqb}
use lib.ListN.{length, drop}
use Rattle.rules.specs.declared.Reading.{Reading}
use Rattle.gaps.specs.Gaps.{gap, gap_end}
use Rattle.places.specs.Places.{place_at, Whole}
use Rattle.gaps.proofs.Gaps.{gap_from, gap-none}
use Rattle.places.proofs.Places.{place-offset, place-own}
use Rattle.gaps.proofs.Gaps.{gap-whole}
use Rattle.gaps.proofs.Bare.{gap-bare}
use Rattle.places.specs.declared.Place.{Place}
use Rattle.words.specs.Words.{end_of_word}
use Rattle.kinds.specs.Kinds.{kind_of, shape_of, is_value_kind}
use Rattle.kinds.specs.declared.Shape.TheVariants.{Content}
use Rattle.kinds.proofs.Marks.{each-value}
use Rattle.grammar.specs.Machine.{Rec, loop_end}
use Rattle.sizes.specs.Sizes.{content_size, area_size}
use Rattle.grammar.specs.Tokens.{heading_at, loop_at, save_at}
use Rattle.items.specs.Answers.{item_at}
use Rattle.decisions.specs.Onward.{left, heads_block}
use Rattle.desk.specs.declared.Cursor.{Cursor}
use Rattle.std.specs.Prelude.{Some, None}
use Rattle.walking.specs.Writing.{tags_of, store_of}
use Rattle.desk.specs.Desk.{Desk, desk, Going, Room, rec_at, TextAhead, WroteOne}
use Rattle.walking.specs.Walk.{Wrote, Onward, behind_gap, item_recs, item_rest, is_taken, item_of, ItemHere, WroteItem, names_from, behind_names, values_from}
use Rattle.writing.specs.Block.{recs_left, is_done, Ahead, Moved, WroteBeyond, WroteHeading, Closing, stop_of}
use Rattle.walking.proofs.Appends.{store-append, area-size-append}
use Rattle.walking.proofs.Items.{loop-parts, tag-parts, tag-here, room-prefix}
use Rattle.walking.proofs.Lists.{value-free}
use Rattle.walking.proofs.Onward.{onward-here, onward_then, room-onward, wrote-before, one-onward, onward-wrote}
use Rattle.writing.proofs.Rest.{Steps, Heads, item-passes, frame-item-steps, block-item-steps, open-heads, block-heads, close-steps, next-item, next-stop, end_none, no-value-left}
use Rattle.walking.proofs.SoFar.{is_count, bytes-free, any-count, room-first}
use Rattle.walking.proofs.Turns.{value-turn}
use Rattle.walking.proofs.Values.{trim-at, trim-area, trim-offset, trim-going}

-- records whose last is neither a loop nor a loop's tag: what follows does not change their bytes
record Shut (xs : List Rec) : Type 0 where
  init : List Rec
  last : Rec
  same : xs ≡ init ++ (last ∷ [])
  tag : eqb last.kind 6 ≡ false
  count : is_count (shape_of (kind_of last.kind)) ≡ false

last_then : (full : Bool) (s : List ℕ) (b : ℕ) (r : Rec) (ys : List Rec) → is_count (shape_of (kind_of r.kind)) ≡ false → store_of full s b (r ∷ ys) ≡ store_of full s b (r ∷ []) ++ store_of full s (b + area_size (r ∷ [])) ys
unfolding store_of area_size tags_of
last_then full s b r ys c =
    let z : content_size r.kind r.size + 0 ≡ content_size r.kind r.size = omega arith in
    rw (bytes-free full s b (tags_of ys) 0 r c, append-nil, z)

no-tag : (r : Rec) (qs : List Rec) → eqb r.kind 6 ≡ false → tags_of (r ∷ qs) ≡ 0
unfolding tags_of
no-tag r qs t = rw t

shut-append : (full : Bool) (s : List ℕ) (a : ℕ) (zs : List Rec) (r : Rec) (ys : List Rec) → eqb r.kind 6 ≡ false → is_count (shape_of (kind_of r.kind)) ≡ false
    → store_of full s a ((zs ++ (r ∷ [])) ++ ys) ≡ store_of full s a (zs ++ (r ∷ [])) ++ store_of full s (a + area_size (zs ++ (r ∷ []))) ys
shut-append full s a zs r ys t c =
    let z : a + area_size zs + area_size (r ∷ []) ≡ a + area_size (zs ++ (r ∷ [])) = omega (arith, area-size-append zs (r ∷ [])) in
    rw append_assoc
    (store-append full s a zs (r ∷ ys) (no-tag r ys t) ∙ ap (λ (x : List ℕ). store_of full s a zs ++ x) (last_then full s (a + area_size zs) r ys c)
    ∙ rw (store-append full s a zs (r ∷ []) (no-tag r [] t), append_assoc, z))

shut-store : (full : Bool) (s : List ℕ) (a : ℕ) (xs ys : List Rec) → Shut xs → store_of full s a (xs ++ ys) ≡ store_of full s a xs ++ store_of full s (a + area_size xs) ys
shut-store full s a xs ys h = rw h.same (shut-append full s a h.init h.last ys h.tag h.count)

-- an item's records are such
value-no-tag : (k : ℕ) → is_value_kind k ≡ true → eqb k 6 ≡ false
value-no-tag = each-value (λ k. eqb k 6 ≡ false) refl refl refl refl refl refl refl refl refl

item-shut : (r : Reading) (s : List ℕ) (o : ℕ) → o ≤ length s → gap (drop o s) ≡ 0 → is_taken (item_of r s o) ≡ true → Shut (item_recs (item_of r s o))
item-shut r s o h g t = by (loop_at r s o) refl
  where
    by : (b : Bool) → loop_at r s o ≡ b → Shut (item_recs (item_of r s o))
    by true e =
        let p = loop-parts r s o h g e t in
        let ns = names_from r s (o + 5) in
        let vs = values_from r s (heading_at (behind_names r s (o + 5))) in
        record {
          init = rec_at 5 o 5 ∷ (ns ++ vs);
          last = loop_end;
          same = p.recs ∙ ap (λ (x : List Rec). rec_at 5 o 5 ∷ x) (sym (append_assoc ns vs (loop_end ∷ [])));
          tag = unfold loop_end in refl;
          count = unfold loop_end is_count kind_of shape_of in refl;
        }
    by false e =
        let w = end_of_word s o - o in
        let p = tag-parts r s o w (gap_end s (o + w)) h g (tag-here r s o g e t) t refl refl in
        let v = value-turn r s (o + w) (gap_end s (o + w)) p.kind p.size refl p.found in
        record { init = rec_at 4 o w ∷ []; last = rec_at p.kind (gap_end s (o + w)) p.size; same = p.recs; tag = value-no-tag p.kind v.value; count = value-free p.kind v.value }

-- the cursor behind space and comments writes on as before
pub onward-trim : (full : Bool) (s : List ℕ) (rs ls : List Rec) (d : Desk) (c h : Cursor) (l a : List ℕ) → h ≡ behind_gap s c → Onward full s rs d ls (desk c l a) → Onward full s rs d ls (desk h l a)
onward-trim full s rs ls d c h l a q o =
    record {
      at = rw (trim-at s c h q) o.at;
      behind = rw (trim-area s c h q) o.behind;
      filled = o.filled;
      store_length = o.store_length;
      area-length = o.area-length;
      store = rw (trim-at s c h q, trim-area s c h q) o.store;
      area = rw (trim-area s c h q) o.area;
    }

-- one record, and the space behind it
one-moved : (r : Reading) (full : Bool) (s : List ℕ) (f g : Option ℕ) (d e : Desk) (h : Cursor) (x : Rec) (q : ℕ) → Ahead r full s f d → d.cursor.place.offset < q → Steps r s f d.cursor.place.offset g (gap_end s q) (x ∷ [])
    → is_count (shape_of (kind_of x.kind)) ≡ false → WroteOne full s 0 x q d e → h ≡ behind_gap s e.cursor → Moved r full s f d g (desk h e.store e.area)
one-moved r full s f g d e h x q a l t c w z =
    let o = d.cursor.place.offset in
    let ls = recs_left r g s (gap_end s q) in
    let v : e.cursor.place.offset ≡ q = place-offset s e.cursor.place q w.place in
    let y : h.place.offset ≡ gap_end s q = trim-offset s e.cursor h z ∙ ap (gap_end s) v in
    let room : Room full (x ∷ ls) d = rw t.recs at a.room in
    let one : Onward full s (x ∷ ls) d ls e = one-onward full s x ls q d e room (any-count full s 0 (tags_of ls) x q d e c w) in
    let all : Onward full s (recs_left r f s o) d ls (desk h e.store e.area) = rw t.recs (onward-trim full s (x ∷ ls) ls d e.cursor h e.store e.area z one) in
    let same : recs_left r g s h.place.offset ≡ ls = ap (recs_left r g s) y in
    record {
      ahead =
          record {
            going = trim-going s e.cursor h z w.going;
            bare = rw y (gap-none s q);
            reads = ap (λ (p : ℕ). is_done (left r 0 g s p [])) y ∙ t.reads;
            room = rw same (room-onward full s (recs_left r f s o) ls d (desk h e.store e.area) a.room all);
          };
      onward = rw same all;
      further = omega (arith, gap_from s q);
    }

-- an item
item-moved : (r : Reading) (full : Bool) (s : List ℕ) (f : Option ℕ) (d e : Desk) → Ahead r full s f d → is_taken (item_of r s d.cursor.place.offset) ≡ true
    → Steps r s f d.cursor.place.offset f (heading_at (item_rest (item_of r s d.cursor.place.offset))) (item_recs (item_of r s d.cursor.place.offset)) → WroteItem r full s d e → Moved r full s f d f e
item-moved r full s f d e a x t w =
    let o = d.cursor.place.offset in
    let p = heading_at (item_rest (item_of r s o)) in
    let xs = item_recs (item_of r s o) in
    let ls = recs_left r f s p in
    let i = item-passes r s o a.going.place.within x in
    let y : e.cursor.place.offset ≡ p = place-offset s e.cursor.place p w.place in
    let all : Onward full s (recs_left r f s o) d ls e =
    rw t.recs (wrote-before full s xs ls p d e (shut-store full s d.cursor.area xs ls (item-shut r s o a.going.place.within a.bare x)) (rw t.recs at a.room) w) in
    let same : recs_left r f s e.cursor.place.offset ≡ ls = ap (recs_left r f s) y in
    record {
      ahead =
          record {
            going = w.going;
            bare = rw y i.bare;
            reads = ap (λ (q : ℕ). is_done (left r 0 f s q [])) y ∙ t.reads;
            room = rw same (room-onward full s (recs_left r f s o) ls d e a.room all);
          };
      onward = rw same all;
      further = omega (arith, i.onward);
    }

-- one record and the space behind it, as the code writes them
beyond-moved : (r : Reading) (full : Bool) (s : List ℕ) (f g : Option ℕ) (d e : Desk) (k o n : ℕ) → Ahead r full s f d → d.cursor.place.offset < o + n → Steps r s f d.cursor.place.offset g (gap_end s (o + n)) (rec_at k o n ∷ [])
    → is_count (shape_of (kind_of k)) ≡ false → WroteBeyond full s k o n d e → Moved r full s f d g e
beyond-moved r full s f g d e k o n a l t c w = rw w.trim (one-moved r full s f g d w.behind _ (rec_at k o n) (o + n) a l t c w.wrote refl)

-- so where the code writes the record and goes over the space
pub written : (full : Bool) (s : List ℕ) (k o n : ℕ) (d : Desk) (b h : Cursor) (l a : List ℕ) → WroteOne full s 0 (rec_at k o n) (o + n) d (desk b l a) → h ≡ behind_gap s b → WroteBeyond full s k o n d (desk h l a)
written full s k o n d b h l a w q = record { behind = desk b l a; wrote = w; trim = ap (λ (x : Cursor). desk x l a) q }

-- A heading in the block

content-free : (k : ℕ) → shape_of (kind_of k) ≡ Content → is_count (shape_of (kind_of k)) ≡ false
unfolding is_count
content-free k e = rw e

module _ (r : Reading) (full : Bool) (s : List ℕ) (d : Desk) (a : Ahead r full s none d) (g : Option ℕ) (k w : ℕ) (h : Heads r s d.cursor.place.offset g k w) where
  heading-ahead : TextAhead full s k w d
  heading-ahead =
      record {
        going = a.going;
        token = h.token;
        content = h.content;
        room = room-first full (rec_at k d.cursor.place.offset w) (recs_left r g s (gap_end s (d.cursor.place.offset + w))) d (rw h.steps.recs at a.room);
      }

  heading-moved : (e : Desk) → WroteHeading full s k w d e → Moved r full s none d g e
  heading-moved e x = beyond-moved r full s none g d e k d.cursor.place.offset w a (omega (arith, h.token.some)) h.steps (content-free k h.content) x

-- of a frame, of a further block
module _ (r : Reading) (full : Bool) (s : List ℕ) (d : Desk) (a : Ahead r full s none d) (w : ℕ) (q : w ≡ end_of_word s d.cursor.place.offset - d.cursor.place.offset) where
  abbrev opening : ℕ
  opening = d.cursor.place.offset

  module _ (k : save_at r s opening ≡ true) where
    pub frame-ahead : TextAhead full s 2 w d
    frame-ahead = heading-ahead r full s d a (some opening) 2 w (open-heads r s opening w a.going.place.within a.bare q a.reads k)

    pub frame-moved : (e : Desk) → WroteHeading full s 2 w d e → Moved r full s none d (some opening) e
    frame-moved e x = heading-moved r full s d a (some opening) 2 w (open-heads r s opening w a.going.place.within a.bare q a.reads k) e x

  module _ (k : heads_block r s opening ≡ true) where
    pub further-ahead : TextAhead full s 1 w d
    further-ahead = heading-ahead r full s d a none 1 w (block-heads r s opening w a.going.place.within a.bare q a.reads k)

    pub further-moved : (e : Desk) → WroteHeading full s 1 w d e → Moved r full s none d none e
    further-moved e x = heading-moved r full s d a none 1 w (block-heads r s opening w a.going.place.within a.bare q a.reads k) e x

-- A frame's items

module _ (r : Reading) (full : Bool) (s : List ℕ) (b : ℕ) (d : Desk) (a : Ahead r full s (some b) d) where
  abbrev here : ℕ
  here = d.cursor.place.offset

  pub frame-item-here : stop_of (item_at r s here) ≡ None → ItemHere r full s d
  frame-item-here e =
      let x : is_taken (item_of r s here) ≡ true = next-item (item_of r s here) (unfold item_at in e) in
      let t = frame-item-steps r s b here a.going.place.within a.bare a.reads x in
      record { going = a.going; bare = a.bare; read = x; alone = no-value-left r (some b) s _ (item-passes r s here a.going.place.within x).bare t.reads; room = room-prefix full _ _ d (rw t.recs at a.room) }

  pub frame-item-moved : (e : Desk) → stop_of (item_at r s here) ≡ None → WroteItem r full s d e → Moved r full s (some b) d (some b) e
  frame-item-moved e n w =
      let x : is_taken (item_of r s here) ≡ true = next-item (item_of r s here) (unfold item_at in n) in
      item-moved r full s (some b) d e a x (frame-item-steps r s b here a.going.place.within a.bare a.reads x) w

  -- Its end

  pub frame-closing : (p : ℕ) → stop_of (item_at r s here) ≡ Some p → Closing s here p × Room full (rec_at 3 p 5 ∷ []) d
  frame-closing p n =
      let h = next-stop r s b here p a.going.place.within a.bare a.reads n in
      let c = close-steps r s b here p h a.reads in (
        record { onward = h.onward; bare = h.bare; token = c.0 },
        room-first full (rec_at 3 p 5) (recs_left r none s (gap_end s (p + 5))) d (rw c.1.recs at a.room),
      )

  pub frame_closed : (e : Desk) (p : ℕ) → stop_of (item_at r s here) ≡ Some p → WroteBeyond full s 3 p 5 d e → Moved r full s (some b) d none e
  unfolding is_count kind_of shape_of
  frame_closed e p n w =
      let h = next-stop r s b here p a.going.place.within a.bare a.reads n in
      let c = close-steps r s b here p h a.reads in
      beyond-moved r full s (some b) none d e 3 p 5 a (omega (arith, h.onward)) c.1 refl w

-- In a frame that opened at b: from its heading, at the desk d₁, on
pub record Inside (r : Reading) (full : Bool) (s : List ℕ) (b : ℕ) (d₁ d : Desk) : Type 0 where
  pub ahead : Ahead r full s (some b) d
  pub onward : Onward full s (recs_left r (some b) s d₁.cursor.place.offset) d₁ (recs_left r (some b) s d.cursor.place.offset) d
  pub further : d₁.cursor.place.offset ≤ d.cursor.place.offset

pub inside-start : (r : Reading) (full : Bool) (s : List ℕ) (b : ℕ) (d : Desk) → Ahead r full s (some b) d → Inside r full s b d d
inside-start r full s b d a = record { ahead = a; onward = onward-here full s _ d; further = omega arith }

pub inside-next : (r : Reading) (full : Bool) (s : List ℕ) (b : ℕ) (d₁ d e : Desk) → Inside r full s b d₁ d → Moved r full s (some b) d (some b) e → Inside r full s b d₁ e
inside-next r full s b d₁ d e i m = record { ahead = m.ahead; onward = onward_then full s _ _ _ d₁ d e i.onward m.onward; further = omega (arith, i.further, m.further) }

pub frame-all : (r : Reading) (full : Bool) (s : List ℕ) (b : ℕ) (d₀ d₁ d e : Desk) → Moved r full s none d₀ (some b) d₁ → Inside r full s b d₁ d → Moved r full s (some b) d none e → Moved r full s none d₀ none e
frame-all r full s b d₀ d₁ d e h i m =
    record {
      ahead = m.ahead;
      onward = onward_then full s _ _ _ d₀ d₁ e h.onward (onward_then full s _ _ _ d₁ d e i.onward m.onward);
      further = omega (arith, h.further, i.further, m.further);
    }

-- Items of the block

module _ (r : Reading) (full : Bool) (s : List ℕ) (d : Desk) (a : Ahead r full s none d) (l : d.cursor.place.offset < length s) (k : save_at r s d.cursor.place.offset ≡ false) (j : heads_block r s d.cursor.place.offset ≡ false) where
  block-steps : (is_taken (item_of r s d.cursor.place.offset) ≡ true) × Steps r s none d.cursor.place.offset none (heading_at (item_rest (item_of r s d.cursor.place.offset))) (item_recs (item_of r s d.cursor.place.offset))
  block-steps = block-item-steps r s d.cursor.place.offset l a.bare k j a.reads

  pub block-item-here : ItemHere r full s d
  block-item-here =
      let i = item-passes r s d.cursor.place.offset a.going.place.within block-steps.0 in
      record { going = a.going; bare = a.bare; read = block-steps.0; alone = no-value-left r none s _ i.bare block-steps.1.reads; room = room-prefix full _ _ d (rw block-steps.1.recs at a.room) }

  pub block-item-moved : (e : Desk) → WroteItem r full s d e → Moved r full s none d none e
  block-item-moved e w = item-moved r full s none d e a block-steps.0 block-steps.1 w

-- From the desk d₀ on
pub record InBlock (r : Reading) (full : Bool) (s : List ℕ) (d₀ d : Desk) : Type 0 where
  pub ahead : Ahead r full s none d
  pub onward : Onward full s (recs_left r none s d₀.cursor.place.offset) d₀ (recs_left r none s d.cursor.place.offset) d

pub block_start : (r : Reading) (full : Bool) (s : List ℕ) (d : Desk) → Ahead r full s none d → InBlock r full s d d
block_start r full s d a = record { ahead = a; onward = onward-here full s _ d }

pub block-next : (r : Reading) (full : Bool) (s : List ℕ) (d₀ d e : Desk) → InBlock r full s d₀ d → Moved r full s none d none e → InBlock r full s d₀ e
block-next r full s d₀ d e i m = record { ahead = m.ahead; onward = onward_then full s _ _ _ d₀ d e i.onward m.onward }

-- The end of the text
pub block-ended : (r : Reading) (full : Bool) (s : List ℕ) (rs : List Rec) (d₀ d : Desk) → Ahead r full s none d → length s ≤ d.cursor.place.offset → Onward full s rs d₀ (recs_left r none s d.cursor.place.offset) d → Wrote full s rs (length s) d₀ d
block-ended r full s rs d₀ d a l o =
    let e : d.cursor.place.offset ≡ length s = omega (arith, a.going.place.within) in
    onward-wrote full s rs (length s) d₀ d (rw (end_none r s d.cursor.place.offset l) at o) a.going (a.going.place.at ∙ ap (place_at s) e)

-- The code's steps at a frame's end

-- where no space stands no line end is parted
whole-bare : (s : List ℕ) (o : ℕ) → gap (drop o s) ≡ 0 → Whole s o
whole-bare s o e =
    let z : gap_end s o ≡ o = gap-bare s o e in
    rw z at (gap-whole s o)

-- the cursor is moved to where the items stopped
pub closing-place : (s : List ℕ) (c : Cursor) (stop : ℕ) (p : Place) → Going s c → Closing s c.place.offset stop → p ≡ place_at s stop → Going s (record { place = p; at = c.at; area = c.area }) × (p.offset ≡ stop)
closing-place s c stop p g k e =
    let o : p.offset ≡ stop = place-offset s p stop e in (
      record {
        place = record { at = place-own s p stop e; whole = rw o (whole-bare s stop k.bare); within = rw o (omega (arith, k.token.within)) };
        short = g.short;
        behind = omega (arith, g.behind, k.onward);
      },
      o,
    )

pub closed : (full : Bool) (s : List ℕ) (stop : ℕ) (c h b r : Cursor) (l m a : List ℕ) → h.place.offset ≡ stop → h.at ≡ c.at → h.area ≡ c.area
    → WroteOne full s 0 (rec_at 3 h.place.offset 5) (h.place.offset + 5) (desk h l a) (desk b m a) → r ≡ behind_gap s b → WroteBeyond full s 3 stop 5 (desk c l a) (desk r m a)
closed full s stop c h b r l m a o t u w q = written full s 3 stop 5 (desk c l a) b r m a (rw o at from) q
  where
    from : WroteOne full s 0 (rec_at 3 h.place.offset 5) (h.place.offset + 5) (desk c l a) (desk b m a)
    from =
        record {
          going = w.going;
          place = w.place;
          at = rw t at w.at;
          behind = rw u at w.behind;
          filled = w.filled;
          store = rw (t, u) at w.store;
          area = rw u at w.area;
        }
