-- Proved, by computing: each reading answers each sample as specs/Samples says. Assumes nothing.
use mathlib.Core.Path.{refl}
use Rattle.quotes.specs.Quotes.{ends_here, strict_quoted}
use Rattle.keywords.specs.Keywords.{is_word}
use Rattle.numbers.specs.Parts.{written, is_numeric}
use Rattle.values.specs.Values.{alone_or}
use Rattle.lines.specs.Lines.{is_control, column, is_long, screen_from, screened}
use Rattle.grammar.specs.Machine.{is_joined, last_at}
use Rattle.grammar.specs.Reading.{screens}
use Rattle.readings.specs.Readings.{bytes}
use Rattle.readings.specs.Samples.{row, end, given-bytes, ask, letters, samples, given, wanted, SamplesHold}
use Rattle.readings.proofs.Readings.{opened}

pub samples-hold : SamplesHold
unfolding opened bytes ends_here strict_quoted is_word written is_numeric alone_or is_control column is_long screen_from screened is_joined last_at screens row end given-bytes ask letters samples given wanted SamplesHold
samples-hold = refl
