-- `cases::is_number`. Assumes nothing.
use mathlib.Core.Logic.{inl, inr}
use Rattle.kinds.specs.declared.Kind.TheVariants.{Number, Uncertain}
use Rattle.cells.proofs.Cells.{other-number}
use Rattle.cases.specs.Cases.{is_number}
use Rattle.cases.proofs.is_number.Goals as goal

pub returns-in-Number : goal.returns-in-Number
unfolding is_number
returns-in-Number c = elim c.in-Number.is [ inl e ↦ rw e | inr e ↦ rw e ]

pub returns-in_default : goal.returns-in_default
unfolding is_number
returns-in_default c =
    let k = c.in_default in
    rw (other-number _ Number k.not-Number, other-number _ Uncertain k.not-Uncertain)
