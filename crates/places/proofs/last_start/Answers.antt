-- `places::last_start`: backwards, byte by byte. Assumes nothing.
use Rattle.std.proofs.Common.{◌≡◌, ◌+◌, ◌-◌, sym, ◌∙◌, arith}
use Rattle.places.proofs.Feeds.{last_none, last-here, last-before}
use Rattle.places.proofs.last_start.Goals as goal

pub returns-then-s-i-eq10 : goal.returns-then-s-i-eq10
returns-then-s-i-eq10 c =
    let e : c.loop-i.i - 1 + 1 ≡ c.loop-i.i = omega arith in
    rw e (sym (c.loop-i.invariant.1 ∙ last-here _ _ _ c.loop-i-test.true c.if-s-i-eq10.true))

pub loop-i-preserved : goal.loop-i-preserved
loop-i-preserved c = (omega arith, c.loop-i.invariant.1 ∙ last-before _ _ _ c.loop-i-test.true c.if-s-i-eq10.false)

pub returns : goal.returns
returns c =
    let e : c.loop-i.i ≡ c.args.from = omega arith in
    sym (c.loop-i.invariant.1 ∙ rw e (last_none _ _))
