-- The step of `steps::next_name` is one of a walk. Assumes nothing.
use Rattle.naming.proofs.Repeats.{spot-some, spot-none}
use Rattle.naming.proofs.SpotWalk.next.Goals as goal

pub returns-in_err-met : goal.returns-in_err-met
returns-in_err-met c = rw c.from_residual.ensures (spot-none _ _ _ c.in_err-met.ensures)

pub returns : goal.returns
returns c = spot-some _ _ _ c.in_ok-met.met c.in_ok-met.ensures
