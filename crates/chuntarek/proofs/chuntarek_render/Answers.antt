-- `chuntarek_render`: the service's answer in numbers, and the buffer as it leaves it; 24 where no reading is named. Assumes nothing.
use mathlib.Core.Path.{◌∙◌, ap}
use Rattle.exports.specs.Exports.{exported}
use Rattle.answers.proofs.Readings.{render-known, render-unknown, rendered-known, rendered-unknown}
use Rattle.chuntarek.proofs.chuntarek_render.Goals as goal

pub returns-in_default : goal.returns-in_default
returns-in_default c = record {
  answers = c.no_reading.ensures ∙ (render-unknown _ _ _ _ c.of.ensures c.in_default.is);
  writes = (rendered-unknown _ _ _ _ c.of.ensures c.in_default.is);
}

pub returns : goal.returns
returns c = record {
  answers = c.numbers_of.ensures ∙ (ap exported (c.report.ensures ∙ c.render.ensures.0) ∙ (render-known _ _ _ _ _ c.of.ensures c.in-Some.is));
  writes = c.render.ensures.1 ∙ (rendered-known _ _ _ _ _ c.of.ensures c.in-Some.is);
}
