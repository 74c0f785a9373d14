-- `keywords::start_with`: letter by letter. Assumes nothing.
use Rattle.std.proofs.Common.{◌≡◌}
use Rattle.keywords.specs.Keywords.{starts_at}
use Rattle.keywords.proofs.Keywords.{rest as left}
use Rattle.keywords.proofs.start_with.Given as goal

abbrev pub invariant-loop-i : goal.invariant-loop-i
invariant-loop-i l = starts_at l.key l.s l.at ≡ left l.key l.rest l.i
