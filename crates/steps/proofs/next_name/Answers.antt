-- `steps::next_name`: the names from where the walk began are those from here on. Assumes nothing.
use Rattle.std.proofs.Common.{sym, ◌∙◌, arith}
use Rattle.steps.specs.Steps.{Counted}
use Rattle.steps.proofs.Steps.{walking-first, walking-end, walking-name, walking-other, onwards}
use Rattle.steps.proofs.next_name.Goals as goal

pub loop-entry-init : goal.loop-entry-init
loop-entry-init c = walking-first _ _ _ c.requires

pub behind-after-requires : goal.behind-after-requires
unfolding Counted
behind-after-requires c =
    let here = c.loop-entry.invariant in
    omega (arith, here.counted.1, onwards _ _ _ _ _ here (sym c.in-Some.ensures))

pub overflow_add-result : goal.overflow_add-result
unfolding Counted
overflow_add-result c =
    let here = c.loop-entry.invariant in
    omega (arith, here.counted.0, here.counted.1, onwards _ _ _ _ _ here (sym c.in-Some.ensures))

pub returns-then-is_name : goal.returns-then-is_name
returns-then-is_name c = walking-name _ _ _ _ _ c.loop-entry.invariant (sym c.in-Some.ensures) _ _ c.name_in.ensures c.behind-after.ensures (rw (← c.number.ensures) (sym c.is_name.ensures ∙ c.if-is_name.true))

pub loop-entry-smaller : goal.loop-entry-smaller
loop-entry-smaller c = rw c.behind-after.ensures (omega (arith, onwards _ _ _ _ _ c.loop-entry.invariant (sym c.in-Some.ensures)))

pub loop-entry-preserved : goal.loop-entry-preserved
loop-entry-preserved c =
    rw c.behind-after.ensures (walking-other _ _ _ _ _ c.loop-entry.invariant (sym c.in-Some.ensures) (rw (← c.number.ensures) (sym c.is_name.ensures ∙ c.if-is_name.false)))

pub returns : goal.returns
returns c = walking-end _ _ _ _ c.loop-entry.invariant (sym c.in_default.ensures)
