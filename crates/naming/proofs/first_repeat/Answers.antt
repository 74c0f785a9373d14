-- `naming::first_repeat`: the earliest repeat from where the walk began is that from here on. Assumes nothing.
use Rattle.naming.proofs.Repeats.{search-first, search-end, search-hit, search-miss, meets-less}
use Rattle.naming.proofs.first_repeat.Goals as goal

pub loop-met-init : goal.loop-met-init
loop-met-init g c = search-first _ _ _ _ _ c.requires

pub next-requires : goal.next-requires
next-requires g c = c.loop-met.invariant.follows.come

pub first_same-requires : goal.first_same-requires
first_same-requires g c = c.requires.begun

pub returns-in-Some-first_same : goal.returns-in-Some-first_same
returns-in-Some-first_same g c = search-hit _ _ _ _ _ _ c.in-Some.met _ c.loop-met.invariant c.in-Some.ensures (rw (← c.passed.ensures) c.in-Some-first_same.ensures)

pub loop-met-smaller : goal.loop-met-smaller
loop-met-smaller g c = meets-less (g.W.Walk.rest c.args.store.now c.args.area.now) g.W.Walk.ready g.W.Walk.passed _ c.in-Some.met c.in-Some.ensures

pub loop-met-preserved : goal.loop-met-preserved
loop-met-preserved g c = search-miss _ _ _ _ _ _ c.in-Some.met c.loop-met.invariant c.in-Some.ensures (rw (← c.passed.ensures) c.in_default-first_same.ensures)

pub returns : goal.returns
returns g c = search-end _ _ _ _ _ _ c.loop-met.invariant c.in_default.ensures
