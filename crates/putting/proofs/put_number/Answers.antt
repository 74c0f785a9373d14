-- `putting::put_number`: a number that is found keeps the limits, so that it has a meaning. Assumes nothing.
use Prim.Native.Nat.{◌+◌, ◌-◌}
use mathlib.Core.Bool.{true, false}
use mathlib.Core.Path.{◌≡◌, ap}
use native.Mathlib.Omega.{arith}
use lib.ListN.{length}
use Rattle.records.proofs.Forms.{length-place}
use Rattle.records.proofs.Putting.{part-put}
use Rattle.desk.specs.Desk.{rec_at}
use Rattle.desk.proofs.Copy.{rest-room}
use Rattle.desk.proofs.Ones.{place-small, one-length, number_read, number-outlined}
use Rattle.desk.proofs.Numbers.{number-token, decimal-here}
use Rattle.putting.proofs.put_number.Goals as goal

pub token_at-token-requires : goal.token_at-token-requires
token_at-token-requires c =
    let a = c.args in
    let w = a.writer.now in
    let p = c.requires in
    let t = number-token p.reading w.text.now a.c.place.offset a.kind a.size p.here p.least p.most in
    place-small w.text.now a.c.place a.size p.going.place p.going.short (omega (arith, t.token.within))

pub write_place-requires : goal.write_place-requires
write_place-requires c =
    let a = c.args in
    let w = a.writer.now in
    let p = c.requires in
    let t = number-token p.reading w.text.now a.c.place.offset a.kind a.size p.here p.least p.most in
    let e = c.if-not-writer.true in
    let b = number-outlined w.text.now a.c.place a.size a.c.area 0 a.kind _ p.going.place p.least p.most c.token_at-token.ensures in
    rest-room a.c.at 17 w.store.now (omega (arith, rw e at p.room, length-place a.kind c.token_at-token.result, ap length b, one-length false w.text.now a.c.area 0 (rec_at a.kind a.c.place.offset a.size)))

pub returns-then-not-writer : goal.returns-then-not-writer
returns-then-not-writer c =
    let a = c.args in
    let w = a.writer.now in
    let p = c.requires in
    let t = number-token p.reading w.text.now a.c.place.offset a.kind a.size p.here p.least p.most in
    let e = c.if-not-writer.true in
    let b = number-outlined w.text.now a.c.place a.size a.c.area 0 a.kind _ p.going.place p.least p.most c.token_at-token.ensures in
    ap (λ x. record w { store = record w.store { now = x } }) (rw (e, ← b) (part-put a.c.at _ w.store.now _ c.write_place.ensures))

pub overflow_add-start : goal.overflow_add-start
overflow_add-start c =
    let a = c.args in
    let w = a.writer.now in
    let p = c.requires in
    let t = number-token p.reading w.text.now a.c.place.offset a.kind a.size p.here p.least p.most in
    omega (arith, t.token.within, p.going.short)

pub slice_bounds-decimal_of-end : goal.slice_bounds-decimal_of-end
slice_bounds-decimal_of-end c =
    let a = c.args in
    let w = a.writer.now in
    let p = c.requires in
    let t = number-token p.reading w.text.now a.c.place.offset a.kind a.size p.here p.least p.most in
    omega (arith, t.token.within)

pub decimal_of-decimal-requires : goal.decimal_of-decimal-requires
decimal_of-decimal-requires c =
    let a = c.args in
    let w = a.writer.now in
    let p = c.requires in
    let t = number-token p.reading w.text.now a.c.place.offset a.kind a.size p.here p.least p.most in
    let z : a.c.place.offset + a.size - a.c.place.offset ≡ a.size = omega arith in
    rw z t.limits

pub put_decimal-requires : goal.put_decimal-requires
put_decimal-requires c =
    let a = c.args in
    let w = a.writer.now in
    let p = c.requires in
    let t = number-token p.reading w.text.now a.c.place.offset a.kind a.size p.here p.least p.most in
    let e = c.if-not-writer.false in
    let d = decimal-here w.text.now a.c.place.offset a.kind a.size c.decimal_of-decimal.result c.decimal_of-decimal.ensures in
    let b = number_read w.text.now a.c.place a.size a.c.area 0 a.kind _ _ p.going.place t.kind c.token_at-token.ensures d in
    (omega (arith, rw e at p.room, ap length b, one-length true w.text.now a.c.area 0 (rec_at a.kind a.c.place.offset a.size)), rw d t.places)

pub returns : goal.returns
returns c =
    let a = c.args in
    let w = a.writer.now in
    let p = c.requires in
    let t = number-token p.reading w.text.now a.c.place.offset a.kind a.size p.here p.least p.most in
    let e = c.if-not-writer.false in
    let d = decimal-here w.text.now a.c.place.offset a.kind a.size c.decimal_of-decimal.result c.decimal_of-decimal.ensures in
    let b = number_read w.text.now a.c.place a.size a.c.area 0 a.kind _ _ p.going.place t.kind c.token_at-token.ensures d in
    ap (λ x. record w { store = record w.store { now = x } }) (rw (e, ← b) c.put_decimal.ensures)
