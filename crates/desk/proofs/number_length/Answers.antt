-- `desk::number_length`: by whether the kind has an uncertainty. Assumes nothing.
use mathlib.Core.Path.{◌≡◌, ◌∙◌}
use native.Mathlib.Omega.{arith}
use Rattle.desk.proofs.Ones.{number-length, uncertain-length}
use Rattle.desk.proofs.number_length.Goals as goal

pub returns-then-kind-eq-UNCERTAIN : goal.returns-then-kind-eq-UNCERTAIN
returns-then-kind-eq-UNCERTAIN c =
    let a = c.args in
    c.record_length.ensures ∙ uncertain-length a.full a.kind c.if-kind-eq-UNCERTAIN.true

pub returns : goal.returns
returns c =
    let a = c.args in
    let p = c.requires in
    let k : a.kind ≡ 14 = omega (arith, p.0, p.1, c.if-kind-eq-UNCERTAIN.false) in
    c.record_length-2.ensures ∙ number-length a.full a.kind k
