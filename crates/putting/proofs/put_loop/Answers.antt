-- `putting::put_loop`: the record at the front of the rest of the store. Assumes nothing.
use native.Mathlib.Omega.{arith}
use Rattle.records.proofs.Putting.{part-put}
use Rattle.desk.proofs.Copy.{rest-room}
use Rattle.desk.proofs.Forms.{loop-full, loop-outline}
use Rattle.putting.proofs.put_loop.Goals as goal

pub write_loop-requires : goal.write_loop-requires
write_loop-requires c =
    let a = c.args in
    rest-room a.at 21 a.store.now (omega (arith, (loop-full a.full a.token a.tags c.if-full.true).size))

pub returns-then-full : goal.returns-then-full
returns-then-full c =
    let a = c.args in
    rw (loop-full a.full a.token a.tags c.if-full.true).same (part-put a.at _ a.store.now _ c.write_loop.ensures)

pub write_place-requires : goal.write_place-requires
write_place-requires c =
    let a = c.args in
    rest-room a.at 17 a.store.now (omega (arith, (loop-outline a.full a.token a.tags c.if-full.false).size))

pub returns : goal.returns
returns c =
    let a = c.args in
    rw (loop-outline a.full a.token a.tags c.if-full.false).same (part-put a.at _ a.store.now _ c.write_place.ensures)
