-- `chuntarek_content`: the service's answer in numbers; 24 where no reading is named. Assumes nothing.
use mathlib.Core.Path.{◌∙◌, ap}
use Rattle.stores.specs.Content.{content_report}
use Rattle.exports.specs.Exports.{exported}
use Rattle.answers.proofs.Readings.{content-known, content-unknown}
use Rattle.chuntarek.proofs.chuntarek_content.Goals as goal

pub returns-in_default : goal.returns-in_default
returns-in_default c =
    c.no_reading.ensures ∙ (content-unknown _ _ _ _ c.of.ensures c.in_default.is)

pub returns : goal.returns
returns c =
    c.numbers_of.ensures ∙ (ap exported (c.report.ensures ∙ ap content_report c.find_content.ensures) ∙ (content-known _ _ _ _ _ c.of.ensures c.in-Some.is))
