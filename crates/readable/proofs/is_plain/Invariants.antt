-- `readable::is_plain`: the whole is plain just where what is left is. Assumes nothing.
use mathlib.Core.Path.{◌≡◌}
use lib.ListN.{drop}
use Rattle.quotes.specs.Content.{plain}
use Rattle.readable.proofs.is_plain.Given as goal

abbrev pub invariant-loop-b : goal.invariant-loop-b
invariant-loop-b l = plain l.mark l.content ≡ plain l.mark (drop l.b-index l.content)
