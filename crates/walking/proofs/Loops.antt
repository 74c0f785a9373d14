-- A loop item, step by step: what stands ahead of the names, of the values and of the end, and that all of it is written. Assumes nothing.
use Prim.Native.Nat.{ℕ, ◌+◌}
use mathlib.Core.Path.{◌≡◌}
use mathlib.Core.Bool.{true}
use mathlib.Core.List.{List, [], ◌∷◌, ◌++◌}
use lib.ListN.{length}
use Rattle.places.proofs.Places.{place-offset}
use Rattle.grammar.specs.Tokens.{loop_at, heading_at}
use Rattle.grammar.specs.Machine.{Rec, loop_end}
use Rattle.desk.specs.declared.Cursor.{Cursor}
use Rattle.desk.specs.declared.Writer.{Writer}
use Rattle.desk.specs.Desk.{Desk, StoreRoom, LoopAhead, rec_at, WroteOne, WroteLoop, WroteEnd}
use Rattle.desk.specs.Writer.{desk_of, Same}
use Rattle.walking.specs.Walk.{item_recs, item_rest, item_of, names_from, behind_names, values_from, NamesAhead, ValuesAhead, WroteNames, WroteValues, ItemHere, WroteItem}
use Rattle.walking.proofs.SoFar.{room-first}
use Rattle.walking.proofs.Items.{Partly, names-few, loop-names-room, loop-values-room, loop_token, loop-begun, loop-opened, loop-named, loop-valued, loop_ended}
use Rattle.walking.proofs.Trims.{same-then}

module _ (w : Writer) (c : Cursor) (h : ItemHere w.reading w.full w.text.now (desk_of w c)) (l : loop_at w.reading w.text.now c.place.offset ≡ true)
    (n : ℕ) (q : n ≡ length (names_from w.reading w.text.now (c.place.offset + 5))) where
  abbrev o : ℕ
  o = c.place.offset

  abbrev values_at : ℕ
  values_at = heading_at (behind_names w.reading w.text.now (o + 5))

  abbrev ends : List Rec
  ends = values_from w.reading w.text.now values_at ++ (loop_end ∷ [])

  abbrev Left : List Rec → Desk → Type 0
  Left rs e = Partly w.full w.text.now (item_recs (item_of w.reading w.text.now o)) (desk_of w c) rs e

  pub head-ahead : LoopAhead w.full w.text.now n c w.store.now
  head-ahead =
      let t = loop_token w.reading w.full w.text.now (desk_of w c) h l in
      record {
        going = h.going;
        token = t;
        few = rw q (names-few w.reading w.text.now (c.place.offset + 5) t.within h.going.short);
        room = (room-first w.full _ _ (desk_of w c) (loop-begun w.reading w.full w.text.now (desk_of w c) h l).room).store;
      }

  module _ (u : Writer) (at_u : Cursor) (m : Same w u) (a : u.area.now ≡ w.area.now) (x : WroteLoop w.full w.text.now n c w.store.now at_u u.store.now) where
    begun : WroteOne w.full w.text.now n (rec_at 5 c.place.offset 5) (c.place.offset + 5) (desk_of w c) (desk_of u at_u)
    begun = rw a (x w.area.now)

    opened : Left (names_from w.reading w.text.now (o + 5) ++ ends) (desk_of u at_u)
    opened = loop-opened w.reading w.full w.text.now (desk_of w c) h l (desk_of u at_u) n q begun

    behind : at_u.place.offset ≡ o + 5
    behind = place-offset w.text.now at_u.place _ begun.place

    pub names-ahead : NamesAhead u.reading u.full u.text.now (desk_of u at_u)
    names-ahead = rw (m.reading, m.full, m.text) (record { going = begun.going; room = loop-names-room w.reading w.full w.text.now (desk_of w c) h l (desk_of u at_u) opened behind })

    module _ (v : Writer) (at_v : Cursor) (m′ : Same u v) (y : WroteNames u.reading u.full u.text.now (desk_of u at_u) (desk_of v at_v)) where
      kept : Same w v
      kept = same-then w u v m m′

      named-here : WroteNames w.reading w.full w.text.now (desk_of u at_u) (desk_of v at_v)
      named-here = rw (m.reading, m.full, m.text) at y

      named : Left ends (desk_of v at_v) × (at_v.place.offset ≡ values_at)
      named = loop-named w.reading w.full w.text.now (desk_of w c) h l (desk_of u at_u) (desk_of v at_v) opened behind named-here

      pub values-ahead : ValuesAhead v.reading v.full v.text.now (desk_of v at_v)
      values-ahead = rw (kept.reading, kept.full, kept.text) (record { going = named-here.going; room = loop-values-room w.reading w.full w.text.now (desk_of w c) h l (desk_of v at_v) named.0 named.1 })

      module _ (z : Writer) (at_z : Cursor) (m″ : Same v z) (y′ : WroteValues v.reading v.full v.text.now (desk_of v at_v) (desk_of z at_z)) where
        valued-here : WroteValues w.reading w.full w.text.now (desk_of v at_v) (desk_of z at_z)
        valued-here = rw (kept.reading, kept.full, kept.text) at y′

        valued : Left (loop_end ∷ []) (desk_of z at_z) × (at_z.place.offset ≡ heading_at (item_rest (item_of w.reading w.text.now o)))
        valued = loop-valued w.reading w.full w.text.now (desk_of w c) h l (desk_of v at_v) (desk_of z at_z) named.0 named.1 valued-here

        pub end-room : StoreRoom z.full loop_end at_z z.store.now
        end-room = rw (same-then w v z kept m″).full valued.0.room.store

        pub loop-written : (e : Writer) (at_e : Cursor) → e.area.now ≡ z.area.now → WroteEnd z.full at_z z.store.now at_e e.store.now → WroteItem w.reading w.full w.text.now (desk_of w c) (desk_of e at_e)
        loop-written e at_e b x′ =
            let last : WroteOne w.full w.text.now 0 loop_end at_z.place.offset (desk_of z at_z) (desk_of e at_e) =
            rw b ((rw (same-then w v z kept m″).full at x′) w.text.now z.area.now valued-here.going) in
            (loop_ended w.reading w.full w.text.now (desk_of w c) h l (desk_of z at_z) (desk_of e at_e) valued.0 valued.1 last).1
