-- `cases::is_text`. Assumes nothing.
use mathlib.Core.Logic.{inl, inr}
use Rattle.cases.specs.Cases.{is_text}
use Rattle.cases.proofs.Cases.{other-text}
use Rattle.cases.proofs.is_text.Goals as goal

pub returns-in-Bare : goal.returns-in-Bare
unfolding is_text
returns-in-Bare c = elim c.in-Bare.is [ inl e ↦ rw e | inr r ↦ elim r [ inl e ↦ rw e | inr r ↦ elim r [ inl e ↦ rw e | inr r ↦ elim r [ inl e ↦ rw e | inr e ↦ rw e ] ] ] ]

pub returns-in_default : goal.returns-in_default
returns-in_default c =
    let k = c.in_default in
    other-text _ k.not-Bare k.not-SingleQuoted k.not-DoubleQuoted k.not-Multiline k.not-Quoted
