-- `rules::Reading::of`: each arm goes by its number, and the last by none of them. Assumes nothing.
use mathlib.Core.Path.{sym, ap}
use borrow.Author.Tests.{ne_eqb}
use Rattle.rules.specs.Rules.{named}
use Rattle.rules.proofs.Reading.of.Goals as goal

pub returns-in-1 : goal.returns-in-1
unfolding named
returns-in-1 c = sym (ap named c.in-1.is)

pub returns-in-2 : goal.returns-in-2
unfolding named
returns-in-2 c = sym (ap named c.in-2.is)

pub returns-in_default : goal.returns-in_default
unfolding named
returns-in_default c = rw (ne_eqb _ _ c.in_default.in_default-own.rest.0.1, ne_eqb _ _ c.in_default.in_default-own.rest.1)
