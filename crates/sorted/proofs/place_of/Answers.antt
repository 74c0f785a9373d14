-- `sorted::place_of`: the steps that are left lead to the same place. Assumes nothing.
use Rattle.std.proofs.Common.{◌≡◌, ◌+◌, ◌-◌, suc, refl, sym, ◌∙◌, arith}
use Rattle.sorted.specs.Found.{place_of}
use Rattle.sorted.proofs.Found.{pass-within, place-go, place-done}
use Rattle.sorted.proofs.place_of.Goals as goal

pub loop-step-init : goal.loop-step-init
unfolding place_of
loop-step-init c = (omega arith, omega arith, refl)

pub loop-step-preserved : goal.loop-step-preserved
loop-step-preserved c =
    let here = c.loop-step in
    let more : 14 - here._step ≡ suc (14 - (here._step + 1)) = omega arith in
    (rw c.pass-at.ensures (pass-within _ _ _ _ _ _ here.invariant.0), omega (arith, here.invariant.1), here.invariant.2 ∙ place-go _ _ _ _ _ _ _ _ more ∙ rw c.pass-at.ensures)

pub returns : goal.returns
returns c =
    let none : 14 - c.loop-step._step ≡ 0 = omega arith in
    sym (c.loop-step.invariant.2 ∙ place-done _ _ _ _ _ _ _ none)
