-- `windows::compare`: the windows up to here are other than all behind them. Assumes nothing.
use Rattle.std.proofs.Common.{arith}
use Rattle.windows.proofs.Windows.{comparing-first, compared, compared-here, comparing-next}
use Rattle.windows.proofs.compare.Goals as goal

pub loop-here-init : goal.loop-here-init
loop-here-init c = comparing-first _ _ c.requires

pub window-requires : goal.window-requires
window-requires c = (c.loop-here.invariant.walked.reached, c.loop-here.invariant.walked.within)

pub returns-then-last-own : goal.returns-then-last-own
returns-then-last-own c = compared _ _ _ _ _ c.loop-here.invariant c.window.ensures c.if-last-own.true

pub returns-then-own-here : goal.returns-then-own-here
returns-then-own-here c = compared-here _ _ _ _ c.loop-here.invariant

pub loop-here-smaller : goal.loop-here-smaller
loop-here-smaller c =
    let reached = c.window.ensures in
    omega (arith, reached.own.within, reached.walked.within, c.loop-here.invariant.within, c.if-own-here.false)

pub loop-here-preserved : goal.loop-here-preserved
loop-here-preserved c = comparing-next _ _ _ _ _ c.loop-here.invariant c.window.ensures
