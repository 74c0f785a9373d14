-- `closing::leaves_open`: the text's end, a named `save_`, or `data_`. Assumes nothing.
use mathlib.Core.Path.{sym, ◌∙◌}
use native.Mathlib.Omega.{arith}
use borrow.Author.Tests.{le-leb, lt-leb, leb-false}
use Rattle.closing.specs.Closing.{leaves_open}
use Rattle.closing.proofs.leaves_open.Goals as goal
use Rattle.closing.proofs.leaves_open.Goals.{then-s-at, else-s-at}

pub returns-then-at_save : goal.returns-then-at_save
unfolding leaves_open
returns-then-at_save c = elim c.if-s-at.branch [
  | then-s-at w ↦ c.if-at_save.true ∙ rw (le-leb _ _ w.if-s-at.true)
  | else-s-at w ↦ c.if-at_save.true ∙ rw (lt-leb _ _ w.if-s-at.false, sym w.at_save.ensures ∙ sym w.value-is ∙ c.if-at_save.true)
]

pub returns-else-at_save : goal.returns-else-at_save
unfolding leaves_open
returns-else-at_save c = elim c.if-s-at.branch [
  | then-s-at w ↦ absurd (omega (arith, leb-false _ _ (sym w.value-is ∙ c.if-at_save.false)))
  | else-s-at w ↦ c.at_data.ensures ∙ rw (lt-leb _ _ w.if-s-at.false, sym w.at_save.ensures ∙ sym w.value-is ∙ c.if-at_save.false)
]
