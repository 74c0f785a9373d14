-- `entries::fields_at`: where a number stands behind P. Assumes nothing.
use mathlib.Core.Path.{◌∙◌}
use mathlib.Core.Logic.{inl, inr}
use lib.Seq.{drop-drop}
use Rattle.entries.specs.Entries.{fields_of}
use Rattle.entries.proofs.fields_at.Goals as goal

pub returns-in-Content : goal.returns-in-Content
unfolding fields_of
returns-in-Content c =
    let got = c.plain_fields-in-Content.ensures ∙ rw (c.u32_at.ensures, drop-drop) in
    elim c.in-Content.is [ inl e ↦ rw e got | inr e ↦ rw e got ]

pub returns-in-PartsUncertain : goal.returns-in-PartsUncertain
unfolding fields_of
returns-in-PartsUncertain c = rw (c.parts_fields-in-PartsUncertain.ensures, c.u32_at-in-PartsUncertain.ensures, c.in-PartsUncertain.is, drop-drop)
