-- `readable_strict::is_inside`: byte by byte, and whether the mark stands before. Assumes nothing.
use mathlib.Core.Path.{◌≡◌}
use mathlib.Core.Bool.{false}
use lib.ListN.{drop}
use Rattle.quotes.specs.Content.{strict_plain}
use Rattle.readable_strict.proofs.is_inside.Given as goal

-- what is asked of the whole is asked of what is left, the mark before it or not
abbrev pub invariant-loop-b : goal.invariant-loop-b
invariant-loop-b l = strict_plain false l.mark l.inside ≡ strict_plain l.closes l.mark (drop l.b-index l.inside)
