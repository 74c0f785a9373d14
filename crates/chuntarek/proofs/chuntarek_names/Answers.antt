-- `chuntarek_names`: the service's answer in numbers; 24 where no reading is named. Assumes nothing.
use mathlib.Core.Path.{◌∙◌, ap}
use Rattle.naming.specs.Names.{naming_report}
use Rattle.exports.specs.Exports.{exported}
use Rattle.answers.proofs.Readings.{names-known, names-unknown}
use Rattle.chuntarek.proofs.chuntarek_names.Goals as goal

pub returns-in_default : goal.returns-in_default
returns-in_default c =
    c.no_reading.ensures ∙ (names-unknown _ _ _ c.of.ensures c.in_default.is)

pub returns : goal.returns
returns c =
    c.numbers_of.ensures ∙ (ap exported (c.report.ensures ∙ ap naming_report c.check_names.ensures) ∙ (names-known _ _ _ _ c.of.ensures c.in-Some.is))
