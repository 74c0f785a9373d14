-- `naming::first_repeat`: the earliest repeat from where the walk began is that from here on. Assumes nothing.
use Rattle.std.proofs.Common.{length}
use Rattle.naming.proofs.Repeats.{Searching}
use Rattle.naming.proofs.first_repeat.Given as goal

abbrev pub invariant-loop-met : goal.invariant-loop-met
invariant-loop-met g l = Searching (g.W.Walk.rest l.store l.area) g.W.Walk.ready g.W.Walk.passed l.fn.start l.initial.here l.here

abbrev pub decreases-loop-met : goal.decreases-loop-met
decreases-loop-met g l = length (g.W.Walk.rest l.store l.area l.here)
