-- `writing::write_frame`: at each turn what is left to read from the cursor on is what was left, less what is written. Assumes nothing.
use Prim.Native.Nat.{◌-◌}
use mathlib.Core.Path.{sym, ap, ◌∙◌}
use native.Mathlib.Omega.{arith}
use Rattle.words.proofs.Words.{word-from}
use Rattle.text.specs.Limits.{limit}
use Rattle.desk.specs.Writer.{desk_of}
use Rattle.desk.proofs.Ones.{frame-marked}
use Rattle.walking.proofs.Trims.{same-then}
use Rattle.writing.proofs.Frames.{inside-start, inside-next, frame-all, frame-ahead, frame-moved, frame-item-here, frame-item-moved, frame-closing, frame_closed}
use Rattle.writing.proofs.write_frame.Goals as goal

pub overflow_sub-end : goal.overflow_sub-end
overflow_sub-end c =
    let w = c.args.writer.now in
    omega (arith, c.parse_identifier-end.ensures, word-from w.text.now c.args.c.place.offset)

pub write_heading-here-requires : goal.write_heading-here-requires
write_heading-here-requires c =
    let a = c.args in
    let w = a.writer.now in
    let p = c.requires in
    let q = ap (λ x. x - c.args.c.place.offset) c.parse_identifier-end.ensures in
    (frame-ahead w.reading w.full w.text.now (desk_of w c.args.c) p.0 _ q p.1, frame-marked)

pub loop-stop-init : goal.loop-stop-init
loop-stop-init c =
    let a = c.args in
    let w = a.writer.now in
    let p = c.requires in
    let q = ap (λ x. x - c.args.c.place.offset) c.parse_identifier-end.ensures in
    let x = c.write_heading-here.ensures in
    record { same = x.same; inside = inside-start w.reading w.full w.text.now _ _ (frame-moved w.reading w.full w.text.now (desk_of w c.args.c) p.0 _ q p.1 _ x.wrote).ahead }

pub stop_in_frame-requires : goal.stop_in_frame-requires
stop_in_frame-requires c =
    let i = c.loop-stop.invariant in
    let h = i.inside.ahead in
    rw i.same.text (unfold limit in record { within = h.going.place.within; small = h.going.short; none = h.bare })

pub close_frame-requires : goal.close_frame-requires
close_frame-requires c =
    let w = c.args.writer.now in
    let b = c.args.c.place.offset in
    let d = desk_of c.loop-stop.writer c.loop-stop.here in
    let i = c.loop-stop.invariant in
    let k = i.same in
    let e = rw (k.reading, k.text) at c.stop_in_frame.ensures in
    let m = frame-closing w.reading w.full w.text.now b d i.inside.ahead _ (sym e ∙ c.in-Some.is) in
    rw (k.text, k.full) (record { going = i.inside.ahead.going; closing = m.0; room = m.1.store })

pub returns-in-Some-clause-moved : goal.returns-in-Some-clause-moved
returns-in-Some-clause-moved c =
    let w = c.args.writer.now in
    let b = c.args.c.place.offset in
    let d = desk_of c.loop-stop.writer c.loop-stop.here in
    let i = c.loop-stop.invariant in
    let k = i.same in
    let e = rw (k.reading, k.text) at c.stop_in_frame.ensures in
    let p = c.requires in
    let q = ap (λ x. x - b) c.parse_identifier-end.ensures in
    let m = frame-moved w.reading w.full w.text.now (desk_of w c.args.c) p.0 _ q p.1 _ c.write_heading-here.ensures.wrote in
    let z = c.close_frame.ensures in
    let f = frame_closed w.reading w.full w.text.now b d i.inside.ahead (desk_of c.close_frame.new.writer c.close_frame.result) _ (sym e ∙ c.in-Some.is) (rw z.area ((rw (k.text, k.full) at z.wrote) d.area)) in
    frame-all w.reading w.full w.text.now b (desk_of w c.args.c) _ d _ m i.inside f

pub write_item-here-requires : goal.write_item-here-requires
write_item-here-requires c =
    let w = c.args.writer.now in
    let b = c.args.c.place.offset in
    let d = desk_of c.loop-stop.writer c.loop-stop.here in
    let i = c.loop-stop.invariant in
    let k = i.same in
    let e = rw (k.reading, k.text) at c.stop_in_frame.ensures in
    rw (k.reading, k.text, k.full) (frame-item-here w.reading w.full w.text.now b d i.inside.ahead (sym e ∙ c.in_default.is))

pub loop-stop-smaller : goal.loop-stop-smaller
loop-stop-smaller c =
    let w = c.args.writer.now in
    let b = c.args.c.place.offset in
    let d = desk_of c.loop-stop.writer c.loop-stop.here in
    let i = c.loop-stop.invariant in
    let k = i.same in
    let e = rw (k.reading, k.text) at c.stop_in_frame.ensures in
    let m = frame-item-moved w.reading w.full w.text.now b d i.inside.ahead (desk_of c.write_item-here.new.writer c.write_item-here.result) (sym e ∙ c.in_default.is) (rw (k.reading, k.text, k.full) at c.write_item-here.ensures.wrote) in
    omega (arith, m.further, m.ahead.going.place.within)

pub loop-stop-preserved : goal.loop-stop-preserved
loop-stop-preserved c =
    let w = c.args.writer.now in
    let b = c.args.c.place.offset in
    let d = desk_of c.loop-stop.writer c.loop-stop.here in
    let i = c.loop-stop.invariant in
    let k = i.same in
    let e = rw (k.reading, k.text) at c.stop_in_frame.ensures in
    let m = frame-item-moved w.reading w.full w.text.now b d i.inside.ahead (desk_of c.write_item-here.new.writer c.write_item-here.result) (sym e ∙ c.in_default.is) (rw (k.reading, k.text, k.full) at c.write_item-here.ensures.wrote) in
    record { same = same-then w _ _ k c.write_item-here.ensures.same; inside = inside-next w.reading w.full w.text.now b _ d _ i.inside m }
