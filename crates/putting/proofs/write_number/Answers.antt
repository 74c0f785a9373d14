-- `putting::write_number`: one record, and the place behind its token. Assumes nothing.
use Prim.Native.Nat.{◌+◌, ◌≤◌}
use lib.ListN.{length}
use Rattle.records.proofs.Putting.{length-put}
use mathlib.Core.Path.{refl, ap}
use native.Mathlib.Omega.{arith}
use Rattle.desk.specs.Desk.{rec_at, record_here}
use Rattle.desk.proofs.Ones.{kind-length, one-length, number-plain, plain-wrote}
use Rattle.desk.proofs.Numbers.{number-token}
use Rattle.putting.proofs.write_number.Goals as goal

pub pass-requires-clause-token : goal.pass-requires-clause-token
pass-requires-clause-token c =
    let a = c.args in
    let w = a.writer.now in
    let p = c.requires in
    let t = number-token p.reading w.text.now a.c.place.offset a.kind a.size p.here p.least p.most in
    rw c.put_number.ensures t.token

pub pass-requires-clause-room : goal.pass-requires-clause-room
pass-requires-clause-room c =
    let a = c.args in
    let w = a.writer.now in
    let p = c.requires in
    let u = c.put_number.ensures in
    let n = rw u at c.number_length-stored.ensures in
    let f : a.c.at + c.number_length-stored.result ≤ length w.store.now = omega (arith, p.room, n, kind-length w.full (rec_at a.kind a.c.place.offset a.size)) in
    let b = one-length w.full w.text.now a.c.area 0 (rec_at a.kind a.c.place.offset a.size) in
    rw u (omega (arith, f, length-put a.c.at (record_here w.full w.text.now a.c a.kind a.size) w.store.now (omega (arith, p.room, b))), omega arith)

pub returns-clause-wrote : goal.returns-clause-wrote
returns-clause-wrote c =
    let a = c.args in
    let w = a.writer.now in
    let p = c.requires in
    let t = number-token p.reading w.text.now a.c.place.offset a.kind a.size p.here p.least p.most in
    let u = c.put_number.ensures in
    let n = rw u at c.number_length-stored.ensures in
    λ l. rw (c.pass.ensures, u) (plain-wrote w.full w.text.now a.kind a.size 0 a.c _ w.store.now _ l (number-plain a.kind a.size p.least p.most)
    p.going t.token refl (ap (λ x. a.c.at + x) n) (omega arith) refl)
