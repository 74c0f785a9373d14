-- `items::rows`: no values, a remainder, or whole rows whose lengths are added up. Assumes nothing.
use Prim.Native.Nat.{◌*◌}
use mathlib.Core.Path.{sym, ◌∙◌}
use native.Mathlib.Omega.{arith}
use Rattle.text.specs.Limits.{limit}
use Rattle.sizes.specs.Sizes.{no_sizes, Upto}
use Rattle.items.proofs.Items.{rows_none, rows-ragged, rows_whole}
use Rattle.sizes.proofs.Room.{default-none, upto-none, upto-added, upto-joined, upto-more}
use Rattle.items.proofs.rows.Goals as goal

pub returns-then-lacks_values : goal.returns-then-lacks_values
returns-then-lacks_values c =
    let a = c.args in
    rw (c.at.ensures, c.number-reason.ensures) (rows_none a.reading a.at a.names a.values (sym c.lacks_values.ensures ∙ c.if-lacks_values.true))

pub returns-then-remainder-ne0 : goal.returns-then-remainder-ne0
returns-then-remainder-ne0 c =
    let a = c.args in
    c.failed.ensures ∙ rw c.at-then-remainder-ne0.ensures (rows-ragged a.reading a.at a.names a.values (sym c.lacks_values.ensures ∙ c.if-lacks_values.false) c.if-remainder-ne0.true)

pub with-heading-requires : goal.with-heading-requires
unfolding limit
with-heading-requires c = (rw (default-none c.default.ensures) (upto-none (limit * limit)), omega arith)

pub add-requires : goal.add-requires
unfolding limit
add-requires c =
    let room : Upto 5 c.with-heading.result = rw (c.with-heading.ensures, default-none c.default.ensures) (upto-added 0 5 5 5 no_sizes (upto-none 0) (omega arith) (omega arith)) in
    (upto-more 5 (limit * limit) _ room (omega arith), upto-more limit (limit * limit) _ c.requires.1 (omega arith))

pub add-requires-2 : goal.add-requires-2
unfolding limit
add-requires-2 c =
    let room : Upto 5 c.with-heading.result = rw (c.with-heading.ensures, default-none c.default.ensures) (upto-added 0 5 5 5 no_sizes (upto-none 0) (omega arith) (omega arith)) in
    let pre = c.requires in
    (rw c.add.ensures (upto-joined 5 limit (limit * limit) _ _ room pre.1 (omega arith)), upto-more limit (limit * limit) _ pre.2 (omega arith))

pub with-requires : goal.with-requires
unfolding limit
with-requires c =
    let room : Upto 5 c.with-heading.result = rw (c.with-heading.ensures, default-none c.default.ensures) (upto-added 0 5 5 5 no_sizes (upto-none 0) (omega arith) (omega arith)) in
    let pre = c.requires in
    let named : Upto (limit * 2) c.add.result = rw c.add.ensures (upto-joined 5 limit (limit * 2) _ _ room pre.1 (omega arith)) in
    (rw c.add-2.ensures (upto-joined (limit * 2) limit (limit * limit) _ _ named pre.2 (omega arith)), omega arith)

pub returns : goal.returns
returns c =
    let a = c.args in
    rw (c.with.ensures, c.add-2.ensures, c.add.ensures, c.with-heading.ensures, default-none c.default.ensures)
    (rows_whole a.reading a.at a.names a.values (sym c.lacks_values.ensures ∙ c.if-lacks_values.false)
    c.if-remainder-ne0.false)
