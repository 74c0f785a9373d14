-- `chuntarek_record_at`: the walk's answer in numbers; 24 where no reading is named. Assumes nothing.
use mathlib.Core.Path.{◌∙◌, ap}
use Rattle.exports.specs.Exports.{exported_record}
use Rattle.answers.proofs.Readings.{record-at-known, record-at-unknown}
use Rattle.chuntarek.proofs.chuntarek_record_at.Goals as goal

pub returns-in_default : goal.returns-in_default
returns-in_default c =
    c.no_record.ensures ∙ (record-at-unknown _ _ _ _ c.of.ensures c.in_default.is)

pub returns : goal.returns
returns c =
    c.record_of.ensures ∙ (ap exported_record c.record_at.ensures ∙ (record-at-known _ _ _ _ _ c.of.ensures c.in-Some.is))
