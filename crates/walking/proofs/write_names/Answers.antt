-- `walking::write_names`: what is written so far and the names from the cursor on are the names from the start on. Assumes nothing.
use Prim.Native.Nat.{◌-◌}
use mathlib.Core.Path.{refl, ap}
use native.Mathlib.Omega.{arith}
use Rattle.kinds.specs.Kinds.{kind_of, shape_of}
use Rattle.desk.specs.Writer.{desk_of}
use Rattle.desk.proofs.Ones.{loop-tag-marked}
use Rattle.walking.specs.Walk.{names_from, behind_names}
use Rattle.walking.proofs.SoFar.{start}
use Rattle.walking.proofs.Lists.{name-room, name-next, name-last}
use Rattle.walking.proofs.Trims.{same-then, same-own, name-gone, gone-again, gone-further}
use Rattle.walking.proofs.write_names.Goals as goal

pub loop-here-init : goal.loop-here-init
loop-here-init c =
    let w = c.args.writer.now in
    record { same = same-own w; so_far = start w.full w.text.now (names_from w.reading w.text.now) (behind_names w.reading w.text.now) (desk_of w c.args.c) c.requires.going c.requires.room }

pub trimmed-here-requires : goal.trimmed-here-requires
trimmed-here-requires c =
    let i = c.loop-here.invariant in
    rw i.same.text i.so_far.going.place

pub name_end-end-requires : goal.name_end-end-requires
name_end-end-requires c =
    let w = c.args.writer.now in
    let i = c.loop-here.invariant in
    let g = name-gone w _ i.same _ c.trimmed-here.result c.trimmed-here.ensures c.args.c i.so_far in
    rw i.same.text g.going.place.within

pub returns-then-end-offset-clause-wrote : goal.returns-then-end-offset-clause-wrote
returns-then-end-offset-clause-wrote c =
    let w = c.args.writer.now in
    let l = c.loop-here in
    let h = c.trimmed-here.result in
    let i = l.invariant in
    let t = i.same in
    let g = name-gone w _ t _ h c.trimmed-here.ensures c.args.c i.so_far in
    let b = gone-again w _ t _ h c.trimmed-here.ensures in
    let e = rw (t.reading, t.text) at c.name_end-end.ensures in
    name-last w.reading w.full w.text.now (desk_of w c.args.c) (desk_of l.writer h) g b (rw (← e) c.if-end-offset.true)

pub write_tag-last-requires : goal.write_tag-last-requires
write_tag-last-requires c =
    let w = c.args.writer.now in
    let l = c.loop-here in
    let h = c.trimmed-here.result in
    let i = l.invariant in
    let t = i.same in
    let g = name-gone w _ t _ h c.trimmed-here.ensures c.args.c i.so_far in
    let b = gone-again w _ t _ h c.trimmed-here.ensures in
    let e = rw (t.reading, t.text) at c.name_end-end.ensures in
    let room = name-room w.reading w.full w.text.now (desk_of w c.args.c) (desk_of l.writer h) _ g b (rw (← e) c.if-end-offset.false) (ap (λ x. x - h.place.offset) e) in
    (rw (t.text, t.full) (record { going = g.going; token = room.0; content = unfold kind_of shape_of in refl; room = room.1 }), loop-tag-marked)

pub loop-here-smaller : goal.loop-here-smaller
loop-here-smaller c =
    let w = c.args.writer.now in
    let l = c.loop-here in
    let h = c.trimmed-here.result in
    let i = l.invariant in
    let t = i.same in
    let g = name-gone w _ t _ h c.trimmed-here.ensures c.args.c i.so_far in
    let b = gone-again w _ t _ h c.trimmed-here.ensures in
    let e = rw (t.reading, t.text) at c.name_end-end.ensures in
    let n = name-next w.reading w.full w.text.now (desk_of w c.args.c) (desk_of l.writer h) (desk_of c.write_tag-last.new.writer c.write_tag-last.result) _ g b (rw (← e) c.if-end-offset.false) (ap (λ x. x - h.place.offset) e) (rw (t.text, t.full) at c.write_tag-last.ensures.wrote) in
    omega (arith, n.1, n.2, gone-further w _ t _ h c.trimmed-here.ensures)

pub loop-here-preserved : goal.loop-here-preserved
loop-here-preserved c =
    let w = c.args.writer.now in
    let l = c.loop-here in
    let h = c.trimmed-here.result in
    let i = l.invariant in
    let t = i.same in
    let g = name-gone w _ t _ h c.trimmed-here.ensures c.args.c i.so_far in
    let b = gone-again w _ t _ h c.trimmed-here.ensures in
    let e = rw (t.reading, t.text) at c.name_end-end.ensures in
    record {
      same = same-then w l.writer c.write_tag-last.new.writer t c.write_tag-last.ensures.same;
      so_far = (name-next w.reading w.full w.text.now (desk_of w c.args.c) (desk_of l.writer h) (desk_of c.write_tag-last.new.writer c.write_tag-last.result) _ g b (rw (← e) c.if-end-offset.false) (ap (λ x. x - h.place.offset) e) (rw (t.text, t.full) at c.write_tag-last.ensures.wrote)).0;
    }
