-- `chuntarek_outline`: the service's answer in numbers, and the store as it leaves it; 24 where no reading is named. Assumes nothing.
use mathlib.Core.Path.{◌∙◌, ap}
use Rattle.exports.specs.Exports.{exported}
use Rattle.answers.proofs.Readings.{outline-known, outline-unknown, outlined-known, outlined-unknown}
use Rattle.chuntarek.proofs.chuntarek_outline.Goals as goal

pub returns-in_default : goal.returns-in_default
returns-in_default c = record {
  answers = c.no_reading.ensures ∙ (outline-unknown _ _ _ c.of.ensures c.in_default.is);
  writes = (outlined-unknown _ _ _ c.of.ensures c.in_default.is);
}

pub returns : goal.returns
returns c = record {
  answers = c.numbers_of.ensures ∙ (ap exported (c.report.ensures ∙ c.outline.ensures.answers) ∙ (outline-known _ _ _ _ c.of.ensures c.in-Some.is));
  writes = c.outline.ensures.writes ∙ (outlined-known _ _ _ _ c.of.ensures c.in-Some.is);
}
