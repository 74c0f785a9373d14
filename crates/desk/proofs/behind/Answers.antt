-- `desk::behind`: over a token without line ends the column grows by its length. Assumes nothing.
use borrow.Author.Tests.{ne_eqb}
use mathlib.Core.Path.{◌≡◌}
use native.Mathlib.Omega.{arith}
use Rattle.places.proofs.Places.{place-column}
use Rattle.desk.proofs.Places.{behind-line}
use Rattle.desk.proofs.behind.Goals as goal

pub overflow_add-result : goal.overflow_add-result
overflow_add-result c =
    let a = c.args in
    omega (arith, place-column _ _ c.requires.0.at, c.requires.1.within)

pub returns : goal.returns
returns c =
    let a = c.args in
    let p = c.requires in
    behind-line _ a.p a.kind a.size p.0 p.1 (ne_eqb a.kind 13 (λ (e : a.kind ≡ 13). omega arith))
