-- `chuntarek_content_part`: the service's answer as a part of the area; 24 where no reading is named. Assumes nothing.
use mathlib.Core.Path.{◌∙◌, ap}
use Rattle.exports.specs.Exports.{exported_part}
use Rattle.answers.proofs.Readings.{part-known, part-unknown}
use Rattle.chuntarek.proofs.chuntarek_content_part.Goals as goal

pub returns-in_default : goal.returns-in_default
returns-in_default c =
    c.no_part.ensures ∙ (part-unknown _ _ _ _ c.of.ensures c.in_default.is)

pub returns : goal.returns
returns c =
    c.part_of.ensures ∙ (ap exported_part c.find_content.ensures ∙ (part-known _ _ _ _ _ c.of.ensures c.in-Some.is))
