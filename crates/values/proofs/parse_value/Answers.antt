-- `values::parse_value`: what is found, and what a number there means. Assumes nothing.
use Prim.Native.Nat.{◌+◌, ◌-◌}
use mathlib.Core.Path.{◌≡◌, sym, ◌∙◌}
use native.Mathlib.Omega.{arith}
use Rattle.values.specs.Finding.{found_at}
use Rattle.values.proofs.Laws.{found_within, found_number, found-kind, value-token, value-quoted, value-number, value-over, value-missing}
use Rattle.values.proofs.Packs.{found-packed}
use Rattle.values.proofs.parse_value.Goals as goal
use Rattle.values.proofs.parse_value.Goals.{then-kind-lt-NUMBER-via-then-kind-lt-NUMBER, then-kind-lt-NUMBER-via-else-kind-lt-NUMBER+then-kind-eq-QUOTED, After-of}

-- what is found is what the packed number says
found : (c : After-of) → found_at c.args.reading c.args.s.now c.args.at ≡ c.of.result
found c = sym (found-packed _ _ _ _ _ c.pack_value.ensures c.of.ensures)

pub returns-then-kind-lt-NUMBER : goal.returns-then-kind-lt-NUMBER
returns-then-kind-lt-NUMBER c =
    let f = found (goal.at.returns-then-kind-lt-NUMBER c).After-of ∙ c.in-Value.is in
    elim c.then-kind-lt-NUMBER.branch [
      | then-kind-lt-NUMBER-via-then-kind-lt-NUMBER w ↦ value-token _ _ _ _ _ f w.if-kind-lt-NUMBER.true
      | then-kind-lt-NUMBER-via-else-kind-lt-NUMBER+then-kind-eq-QUOTED w ↦ value-quoted _ _ _ _ _ f w.if-kind-eq-QUOTED.true
    ]

pub overflow_add-end : goal.overflow_add-end
overflow_add-end c = omega (arith, found_within _ _ _ _ _ (found (goal.at.overflow_add-end c).After-of ∙ c.in-Value.is), c.requires)

pub slice_bounds-decimal_of-end : goal.slice_bounds-decimal_of-end
slice_bounds-decimal_of-end c = found_within _ _ _ _ _ (found (goal.at.slice_bounds-decimal_of-end c).After-of ∙ c.in-Value.is)

pub decimal_of-requires : goal.decimal_of-requires
decimal_of-requires c =
    let a = c.args in
    let n = c.in-Value.size in
    let z : a.at + n - a.at ≡ n = omega arith in
    let f = found (goal.at.decimal_of-requires c).After-of ∙ c.in-Value.is in
    rw z (found_number _ _ _ _ _ f c.if-kind-lt-NUMBER.false (found-kind _ _ _ _ _ f c.if-kind-eq-QUOTED.false)).kept

pub returns-else-kind-eq-QUOTED : goal.returns-else-kind-eq-QUOTED
returns-else-kind-eq-QUOTED c =
    value-number _ _ _ _ _ _ (found (goal.at.returns-else-kind-eq-QUOTED c).After-of ∙ c.in-Value.is) c.if-kind-lt-NUMBER.false c.if-kind-eq-QUOTED.false c.decimal_of.ensures

pub returns-in-Over : goal.returns-in-Over
returns-in-Over c = value-over _ _ _ _ (found (goal.at.returns-in-Over c).After-of) c.in-Over.is

pub returns-in-Missing : goal.returns-in-Missing
returns-in-Missing c = value-missing _ _ _ _ (found (goal.at.returns-in-Missing c).After-of ∙ c.in-Missing.is)
