-- `naming::first_same`: the first among all so many names is the first among those that are left. Assumes nothing.
use Rattle.names.specs.Parts.{name_of}
use Rattle.naming.proofs.Repeats.{Seeking}
use Rattle.naming.proofs.first_same.Given as goal

abbrev pub invariant-loop-passed : goal.invariant-loop-passed
invariant-loop-passed g l = Seeking (g.W.Walk.rest l.store l.area) g.W.Walk.ready g.W.Walk.passed (name_of l.x) l.count l.fn.start l.here l._passed
