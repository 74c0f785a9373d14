-- `names::is_before`: of names as long as each other, what is left to compare decides. Assumes nothing.
use Rattle.std.proofs.Common.{◌≡◌}
use Rattle.names.specs.Order.{less_name}
use Rattle.names.proofs.Order.{less_left}
use Rattle.names.proofs.is_before.Given as goal

abbrev pub invariant-loop-i : goal.invariant-loop-i
invariant-loop-i l = less_name l.u l.v ≡ less_left l.u l.v (l.i)
