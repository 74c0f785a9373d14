-- `chuntarek_compare`: the service's answer in numbers, and the list as it leaves it; 24 where no reading is named. Assumes nothing.
use mathlib.Core.Path.{◌∙◌, ap}
use Rattle.exports.specs.Exports.{exported}
use Rattle.answers.proofs.Readings.{compare-known, compare-unknown, compared-known, compared-unknown}
use Rattle.chuntarek.proofs.chuntarek_compare.Goals as goal

pub returns-in_default : goal.returns-in_default
returns-in_default c = record {
  answers = c.no_reading.ensures ∙ (compare-unknown _ _ _ _ _ _ c.of.ensures c.in_default.is);
  writes = (compared-unknown _ _ _ _ _ _ c.of.ensures c.in_default.is);
}

pub returns : goal.returns
returns c = record {
  answers = c.numbers_of.ensures ∙ (ap exported c.report.ensures ∙ (compare-known _ _ _ _ _ _ _ _ _ c.of.ensures c.in-Some.is c.compare.ensures));
  writes = (compared-known _ _ _ _ _ _ _ _ _ c.of.ensures c.in-Some.is c.compare.ensures);
}
