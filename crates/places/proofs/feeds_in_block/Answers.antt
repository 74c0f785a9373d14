-- `places::feeds_in_block`: whether a CR was met among the bytes seen, and how many of them are LF. Assumes nothing.
use Rattle.std.proofs.Common.{◌≡◌, ◌+◌, false, true, get_or, sym, ◌∙◌, arith}
use borrow.Author.Tests.{not-true, not-false}
use Rattle.places.specs.Lines.{no_carriage}
use Rattle.text.specs.Runs.{runs}
use Rattle.text.proofs.Runs.{runs_none, runs-met}
use Rattle.places.proofs.Feeds.{feed-le, feeds-le, feeds-none, feeds-count, feeds-or, feeds-other, carriage-byte}
use Rattle.places.proofs.feeds_in_block.Goals as goal

pub loop-b-init : goal.loop-b-init
loop-b-init c = (rw (runs_none no_carriage _ _), sym (feeds-none _ _))

pub overflow_add-count : goal.overflow_add-count
overflow_add-count c =
    let l = c.loop-b in
    let a = c.args in
    omega (arith, l.invariant.1, feeds-le l.b-index a.block.now 0, c.feed-count.ensures, feed-le (get_or a.block.now l.b-index 0))

pub loop-b-preserved : goal.loop-b-preserved
loop-b-preserved c =
    let l = c.loop-b in
    let a = c.args in
    let z : 0 + l.b-index ≡ l.b-index = omega arith in (
      rw l.invariant.0 (runs-met no_carriage a.block.now 0 l.b-index _ (omega arith) (rw z (carriage-byte (get_or a.block.now l.b-index 0)))),
      feeds-count l.b-index a.block.now 0 _ _ l.invariant.1 (rw z c.feed-count.ensures),
    )

pub returns-then-carriage : goal.returns-then-carriage
returns-then-carriage c =
    let l = c.loop-b in
    let a = c.args in
    let all : l.b-index ≡ 32 = omega arith in
    let met : runs no_carriage 32 a.block.now 0 ≡ false = not-true _ (sym (rw all at l.invariant.0) ∙ c.if-carriage.true) in
    feeds-other 255 32 _ _ met

pub returns-else-carriage : goal.returns-else-carriage
returns-else-carriage c =
    let l = c.loop-b in
    let a = c.args in
    let all : l.b-index ≡ 32 = omega arith in
    let none : runs no_carriage 32 a.block.now 0 ≡ true = not-false _ (sym (rw all at l.invariant.0) ∙ c.if-carriage.false) in
    rw all at l.invariant.1 ∙ feeds-or 255 32 _ _ none
