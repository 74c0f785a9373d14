-- The loops over names and values, turn by turn. Assumes nothing.
use Prim.Native.Nat.{ℕ, ◌+◌, ◌-◌, ◌≤◌, ◌<◌}
use mathlib.Core.Path.{◌≡◌, refl, sym, ap, ◌∙◌}
use mathlib.Core.Bool.{Bool, true, false}
use mathlib.Core.List.{List, [], ◌∷◌}
use native.Mathlib.Omega.{arith}
use lib.ListN.{length, drop}
use Rattle.rules.specs.declared.Reading.{Reading}
use Rattle.gaps.specs.Gaps.{gap, gap_end}
use Rattle.gaps.proofs.Gaps.{gap-none}
use Rattle.gaps.proofs.Bare.{gap-bare, gap-twice}
use Rattle.places.proofs.Places.{place-offset}
use Rattle.kinds.specs.Kinds.{kind_of, shape_of, is_value_kind}
use Rattle.kinds.proofs.Marks.{each-value}
use Rattle.found.specs.declared.Found.TheVariants.{Value}
use Rattle.grammar.specs.Tokens.{in_block, heading_at}
use Rattle.grammar.specs.Descent.{name_recs, after_names, value_recs, after_values}
use Rattle.values.specs.Finding.{found_at}
use Rattle.openings.specs.Openings.{name_end}
use Rattle.items.proofs.Items.{head_at}
use Rattle.grammar.proofs.Offsets.{tokens-gap}
use Rattle.desk.specs.declared.Cursor.{Cursor}
use Rattle.desk.specs.Desk.{Desk, desk, Room, IsToken, rec_at, WroteOne, ValueHere}
use Rattle.walking.specs.Walk.{Wrote, behind_gap, names_from, behind_names, values_from, behind_values}
use Rattle.walking.proofs.SoFar.{is_count, room-first, SoFar, next, over-gap, all}
use Rattle.walking.proofs.Turns.{name-turn, name-none, here-turn, value_none}
use Rattle.walking.proofs.Values.{trim-offset}

-- values count nothing
pub value-free : (k : ℕ) → is_value_kind k ≡ true → is_count (shape_of (kind_of k)) ≡ false
unfolding is_count kind_of shape_of
value-free = each-value (λ k. is_count (shape_of (kind_of k)) ≡ false) refl refl refl refl refl refl refl refl refl

module _ (r : Reading) (full : Bool) (s : List ℕ) (d₀ : Desk) where
  -- there is room for the value that stands next
  pub value_room : (d : Desk) (k n : ℕ) → SoFar full s (values_from r s) (behind_values r s) d₀ d → ValueHere r s d.cursor.place.offset k n → Room full (rec_at k d.cursor.place.offset n ∷ []) d
  value_room d k n h v = room-first full _ _ d (rw (here-turn r s d.cursor.place.offset k n v).recs at h.room)

  -- a turn
  pub value-next : (d e : Desk) (k n : ℕ) → SoFar full s (values_from r s) (behind_values r s) d₀ d → ValueHere r s d.cursor.place.offset k n
      → WroteOne full s 0 (rec_at k d.cursor.place.offset n) (d.cursor.place.offset + n) d e
      → SoFar full s (values_from r s) (behind_values r s) d₀ e × (d.cursor.place.offset < e.cursor.place.offset) × (e.cursor.place.offset ≤ length s)
  value-next d e k n h v w =
      let o = d.cursor.place.offset in
      let t = here-turn r s o k n v in
      let z = place-offset s e.cursor.place (o + n) w.place in (
        next full s (values_from r s) (behind_values r s) d₀ d e (rec_at k o n) (o + n) h t.recs t.rest (value-free k t.value) w,
        omega (arith, t.token.some),
        omega (arith, t.token.within),
      )

  pub value-gap : (c e : Cursor) (l a : List ℕ) → SoFar full s (values_from r s) (behind_values r s) d₀ (desk c l a) → e ≡ behind_gap s c → SoFar full s (values_from r s) (behind_values r s) d₀ (desk e l a)
  value-gap c e l a h q =
      let o = c.place.offset in
      over-gap full s (values_from r s) (behind_values r s) d₀ c e l a h q (ap value_recs (tokens-gap r in_block s o)) (ap after_values (tokens-gap r in_block s o))

  -- the end
  pub value-last : (d : Desk) → SoFar full s (values_from r s) (behind_values r s) d₀ d → gap (drop d.cursor.place.offset s) ≡ 0 → ((k n : ℕ) → found_at r s d.cursor.place.offset ≡ Value k n → ⊥)
      → Wrote full s (values_from r s d₀.cursor.place.offset) (heading_at (behind_values r s d₀.cursor.place.offset)) d₀ d
  value-last d h g v =
      let o = d.cursor.place.offset in
      let e : gap_end s o ≡ o = gap-bare s o g in
      let n = value_none r s o o (sym e) v in
      all full s (values_from r s) (behind_values r s) d₀ d _ h n.0 (ap heading_at (h.same ∙ n.1) ∙ head_at r in_block s o ∙ e)

  -- names: there is room for the tag that stands next
  pub name-room : (d : Desk) (n : ℕ) → SoFar full s (names_from r s) (behind_names r s) d₀ d → gap_end s d.cursor.place.offset ≡ d.cursor.place.offset → d.cursor.place.offset < name_end r s d.cursor.place.offset → n ≡ name_end r s d.cursor.place.offset - d.cursor.place.offset
      → IsToken s 6 d.cursor.place.offset n × Room full (rec_at 6 d.cursor.place.offset n ∷ []) d
  name-room d n h g t e =
      let o = d.cursor.place.offset in
      let u = name-turn r s o o n h.going.place.within (sym g) t e in
      (u.token, room-first full _ _ d (rw u.recs at h.room))

  pub name-next : (d e : Desk) (n : ℕ) → SoFar full s (names_from r s) (behind_names r s) d₀ d → gap_end s d.cursor.place.offset ≡ d.cursor.place.offset → d.cursor.place.offset < name_end r s d.cursor.place.offset → n ≡ name_end r s d.cursor.place.offset - d.cursor.place.offset
      → WroteOne full s 0 (rec_at 6 d.cursor.place.offset n) (d.cursor.place.offset + n) d e
      → SoFar full s (names_from r s) (behind_names r s) d₀ e × (d.cursor.place.offset < e.cursor.place.offset) × (e.cursor.place.offset ≤ length s)
  unfolding is_count kind_of shape_of
  name-next d e n h g t q w =
      let o = d.cursor.place.offset in
      let u = name-turn r s o o n h.going.place.within (sym g) t q in
      let z = place-offset s e.cursor.place (o + n) w.place in (
        next full s (names_from r s) (behind_names r s) d₀ d e (rec_at 6 o n) (o + n) h u.recs u.rest refl w,
        omega (arith, u.token.some),
        omega (arith, u.token.within),
      )

  pub name-gap : (c e : Cursor) (l a : List ℕ) → SoFar full s (names_from r s) (behind_names r s) d₀ (desk c l a) → e ≡ behind_gap s c → SoFar full s (names_from r s) (behind_names r s) d₀ (desk e l a)
  name-gap c e l a h q =
      let o = c.place.offset in
      over-gap full s (names_from r s) (behind_names r s) d₀ c e l a h q (ap (name_recs r) (tokens-gap r in_block s o)) (ap (after_names r) (tokens-gap r in_block s o))

  pub name-last : (d : Desk) → SoFar full s (names_from r s) (behind_names r s) d₀ d → gap_end s d.cursor.place.offset ≡ d.cursor.place.offset → name_end r s d.cursor.place.offset ≤ d.cursor.place.offset
      → Wrote full s (names_from r s d₀.cursor.place.offset) (heading_at (behind_names r s d₀.cursor.place.offset)) d₀ d
  name-last d h g t =
      let o = d.cursor.place.offset in
      let n = name-none r s o o (sym g) t in
      all full s (names_from r s) (behind_names r s) d₀ d _ h n.0 (ap heading_at (h.same ∙ n.1) ∙ head_at r in_block s o ∙ g)

-- behind space and comments stand none
pub gap-again : (s : List ℕ) (c e : Cursor) → e ≡ behind_gap s c → gap_end s e.place.offset ≡ e.place.offset
gap-again s c e q = rw (trim-offset s c e q) (gap-twice s c.place.offset)

pub trim-bare : (s : List ℕ) (c h : Cursor) → h ≡ behind_gap s c → gap (drop h.place.offset s) ≡ 0
trim-bare s c h q = rw (trim-offset s c h q) (gap-none s c.place.offset)
