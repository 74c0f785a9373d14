-- `chuntarek_read`: the service's answer in numbers, and the buffers as it leaves them; 24 where no reading is named. Assumes nothing.
use mathlib.Core.Path.{◌∙◌, ap}
use Rattle.exports.specs.Exports.{exported}
use Rattle.answers.proofs.Readings.{read_known, read-unknown, store-known, store-unknown, area-known, area-unknown}
use Rattle.chuntarek.proofs.chuntarek_read.Goals as goal

pub returns-in_default : goal.returns-in_default
returns-in_default c = record {
  answers = c.no_reading.ensures ∙ (read-unknown _ _ _ _ c.of.ensures c.in_default.is);
  stored = store-unknown _ _ _ _ c.of.ensures c.in_default.is;
  copied = area-unknown _ _ _ _ c.of.ensures c.in_default.is;
}

pub returns : goal.returns
returns c = record {
  answers = c.numbers_of.ensures ∙ (ap exported (c.report.ensures ∙ c.read.ensures.answers) ∙ (read_known _ _ _ _ _ c.of.ensures c.in-Some.is));
  stored = c.read.ensures.stored ∙ (store-known _ _ _ _ _ c.of.ensures c.in-Some.is);
  copied = c.read.ensures.copied ∙ (area-known _ _ _ _ _ c.of.ensures c.in-Some.is);
}
