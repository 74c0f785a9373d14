-- `windows::compare`: the windows up to here are other than all behind them. Assumes nothing.
use Rattle.std.proofs.Common.{◌-◌}
use Rattle.windows.proofs.Windows.{Comparing}
use Rattle.windows.proofs.compare.Given as goal

abbrev pub invariant-loop-here : goal.invariant-loop-here
invariant-loop-here l = Comparing l.scope l.initial.here l.stop l.here

abbrev pub decreases-loop-here : goal.decreases-loop-here
decreases-loop-here l = l.scope.end - l.here.count
