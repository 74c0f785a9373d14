-- `deciding::parse_save_frame`: up to here records of these sizes are kept, and nothing else is changed of what is still answered. Assumes nothing.
use Prim.Native.Nat.{◌*◌}
use mathlib.Core.Path.{ap, ◌∙◌}
use native.Mathlib.Omega.{arith}
use mathlib.Core.Option.{none, some}
use Rattle.std.specs.Prelude.{Ok}
use Rattle.std.proofs.lemmas.Result.{err_from_is_err_and}
use Rattle.text.specs.Limits.{limit}
use Rattle.decisions.proofs.Onward.{heading-read, heading-lost, frame-opens, frame-misnamed, inside-known, inside-read, inside-dropped, inside-refused, passed_then}
use Rattle.closing.proofs.Closing.{frame-ends, frame_refused}
use Rattle.sizes.proofs.Room.{upto-more}
use Rattle.deciding.proofs.parse_save_frame.Goals as goal

pub returns-in_err-heading : goal.returns-in_err-heading
returns-in_err-heading c =
    let p = c.requires in
    let a = c.args in
    let e = err_from_is_err_and c.from_residual.result c.from_residual.ensures.1 in
    let h = heading-lost a.reading a.s.now 2 a.start _ _ c.parse_heading.ensures c.in_err-heading.was in
    rw (e.1, e.2, h.1) (frame-misnamed _ _ _ p.0.none p.1 h.0)

pub loop-next-init : goal.loop-next-init
loop-next-init c =
    let p = c.requires in
    let a = c.args in
    let h = heading-read a.reading a.s.now 2 a.start _ _ c.parse_heading.ensures c.in_ok-heading.was in
    rw (h.next, h.sizes) (frame-opens _ _ _ p.0.none p.1 h.fits)

pub returns-in_err-next : goal.returns-in_err-next
returns-in_err-next c =
    let l = c.loop-next in
    let known = inside-known _ _ c.args.start l.at _ _ l.invariant.within l.invariant.bare c.parse_data_item.ensures c.in_frame.ensures in
    let e = err_from_is_err_and c.from_residual-in_err-next.result c.from_residual-in_err-next.ensures.1 in
    rw (e.1, e.2) (frame_refused _ _ _ l.at l.sizes _ l.invariant (inside-refused _ _ _ l.at known c.in_err-next.was))

pub add_assign-requires : goal.add_assign-requires
unfolding limit
add_assign-requires c =
    let l = c.loop-next in
    let known = inside-known _ _ c.args.start l.at _ _ l.invariant.within l.invariant.bare c.parse_data_item.ensures c.in_frame.ensures in
    let small = c.requires.0.small in
    let r = inside-read known (c.in_ok-next.was ∙ ap Ok c.in-Read.is) in
    (upto-more _ (limit * limit) _ l.invariant.fits (omega (arith, l.invariant.within, small)), upto-more _ (limit * limit) _ r.fits (omega (arith, r.within, small)))

pub loop-next-smaller : goal.loop-next-smaller
loop-next-smaller c =
    let l = c.loop-next in
    let known = inside-known _ _ c.args.start l.at _ _ l.invariant.within l.invariant.bare c.parse_data_item.ensures c.in_frame.ensures in
    let r = inside-read known (c.in_ok-next.was ∙ ap Ok c.in-Read.is) in
    omega (arith, r.onward, r.within)

pub loop-next-preserved : goal.loop-next-preserved
loop-next-preserved c =
    let l = c.loop-next in
    let known = inside-known _ _ c.args.start l.at _ _ l.invariant.within l.invariant.bare c.parse_data_item.ensures c.in_frame.ensures in
    let r = inside-read known (c.in_ok-next.was ∙ ap Ok c.in-Read.is) in
    rw c.add_assign.ensures.after (passed_then _ _ none (some _) (some _) _ l.at _ _ _ 0 0 l.invariant r)

pub close_frame-requires : goal.close_frame-requires
unfolding limit
close_frame-requires c =
    let l = c.loop-next in
    let known = inside-known _ _ c.args.start l.at _ _ l.invariant.within l.invariant.bare c.parse_data_item.ensures c.in_frame.ensures in
    let small = c.requires.0.small in
    let d = inside-dropped known (c.in_ok-next.was ∙ ap Ok c.in-Dropped.is) in
    (record { within = d.within; small = small }, upto-more _ limit _ l.invariant.fits (omega (arith, l.invariant.within, small)))

pub returns-in-Dropped : goal.returns-in-Dropped
returns-in-Dropped c =
    let l = c.loop-next in
    let known = inside-known _ _ c.args.start l.at _ _ l.invariant.within l.invariant.bare c.parse_data_item.ensures c.in_frame.ensures in
    rw c.close_frame.ensures (frame-ends _ _ _ l.at _ l.sizes l.invariant (inside-dropped known (c.in_ok-next.was ∙ ap Ok c.in-Dropped.is)))
