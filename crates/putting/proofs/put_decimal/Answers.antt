-- `putting::put_decimal`: the record at the front of the rest of the store, with or without uncertainty. Assumes nothing.
use native.Mathlib.Omega.{arith}
use Rattle.records.proofs.Putting.{part-put}
use Rattle.desk.proofs.Copy.{rest-room}
use Rattle.desk.proofs.Forms.{uncertain-bytes, certain-bytes}
use Rattle.putting.proofs.put_decimal.Goals as goal

pub write_uncertain-requires : goal.write_uncertain-requires
write_uncertain-requires c =
    let a = c.args in
    (rest-room a.at 39 a.store.now (omega (arith, (uncertain-bytes a.token a.decimal c.if-uncertain.true).size)), c.requires.1)

pub returns-then-uncertain : goal.returns-then-uncertain
returns-then-uncertain c =
    let a = c.args in
    rw (uncertain-bytes a.token a.decimal c.if-uncertain.true).same (part-put a.at _ a.store.now _ c.write_uncertain.ensures)

pub write_number-requires : goal.write_number-requires
write_number-requires c =
    let a = c.args in
    (rest-room a.at 35 a.store.now (omega (arith, (certain-bytes a.token a.decimal c.if-uncertain.false).size)), c.requires.1)

pub returns : goal.returns
returns c =
    let a = c.args in
    rw (certain-bytes a.token a.decimal c.if-uncertain.false).same (part-put a.at _ a.store.now _ c.write_number.ensures)
