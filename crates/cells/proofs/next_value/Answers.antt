-- `cells::next_value`: the values from where the walk began are those from here on. Assumes nothing.
use mathlib.Core.Path.{◌≡◌, sym, ◌∙◌}
use mathlib.Core.Bool.{true, false}
use native.Mathlib.Omega.{arith}
use Rattle.kinds.specs.Kinds.{number_of, is_value_kind}
use Rattle.cells.proofs.Cells.{come-over, come-none, come-onwards, come-value, come-other, leapt, leapt-none, after-leap}
use Rattle.cells.proofs.next_value.Goals as goal

pub returns-in_err-kind : goal.returns-in_err-kind
returns-in_err-kind c =
    let here = c.loop-at in
    rw c.from_residual.ensures (come-none _ _ _ here.at here.invariant c.loop-at-test.true (leapt-none _ (sym c.leap_from.ensures ∙ c.in_err-kind.was)))

pub returns-then-is_value : goal.returns-then-is_value
returns-then-is_value c =
    let here = c.loop-at in
    let l = leapt _ _ (sym c.leap_from.ensures ∙ c.in_ok-kind.was) in
    let q : is_value_kind (number_of c.in_ok-kind.field-0.kind) ≡ true = rw (← c.number.ensures) (sym c.is_value.ensures ∙ c.if-is_value.true) in
    come-value _ _ _ here.at here.invariant _ _ _ c.loop-at-test.true l.is q _ c.value_at.ensures _ c.tag_behind.ensures

pub loop-at-smaller : goal.loop-at-smaller
loop-at-smaller c =
    let here = c.loop-at in
    let l = leapt _ _ (sym c.leap_from.ensures ∙ c.in_ok-kind.was) in
    omega (arith, come-onwards _ _ _ here.at here.invariant _ _ _ c.loop-at-test.true l.is)

pub loop-at-preserved : goal.loop-at-preserved
loop-at-preserved c =
    let here = c.loop-at in
    let l = leapt _ _ (sym c.leap_from.ensures ∙ c.in_ok-kind.was) in
    let q : is_value_kind (number_of c.in_ok-kind.field-0.kind) ≡ false = rw (← c.number.ensures) (sym c.is_value.ensures ∙ c.if-is_value.false) in
    rw (c.behind-spot.ensures, c.tags_at.ensures, after-leap _ _ l here.spot) (come-other _ _ _ here.at here.invariant _ _ _ c.loop-at-test.true l.is q)

pub returns : goal.returns
returns c = come-over _ _ _ _ c.loop-at.invariant c.loop-at-test.false
