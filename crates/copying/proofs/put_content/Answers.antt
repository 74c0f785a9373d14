-- `copying::put_content`: the record at the front of the rest of the store. Assumes nothing.
use native.Mathlib.Omega.{arith}
use Rattle.records.proofs.Putting.{part-put}
use Rattle.desk.proofs.Copy.{rest-room}
use Rattle.desk.proofs.Forms.{content-full, content-outline}
use Rattle.copying.proofs.put_content.Goals as goal

pub write_content-requires : goal.write_content-requires
write_content-requires c =
    let a = c.args in
    rest-room a.at 21 a.store.now (omega (arith, (content-full a.full a.kind a.token a.area c.if-full.true).size))

pub returns-then-full : goal.returns-then-full
returns-then-full c =
    let a = c.args in
    rw (content-full a.full a.kind a.token a.area c.if-full.true).same (part-put a.at _ a.store.now _ c.write_content.ensures)

pub write_place-requires : goal.write_place-requires
write_place-requires c =
    let a = c.args in
    rest-room a.at 17 a.store.now (omega (arith, (content-outline a.full a.kind a.token a.area c.if-full.false).size))

pub returns : goal.returns
returns c =
    let a = c.args in
    rw (content-outline a.full a.kind a.token a.area c.if-full.false).same (part-put a.at _ a.store.now _ c.write_place.ensures)
