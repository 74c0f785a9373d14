-- `words::parse_identifier`: the run of a word's bytes. Assumes nothing.
use Rattle.std.proofs.Common.{sym, ◌∙◌, rules}
use Rattle.text.specs.Runs.{Tells}
use Rattle.words.specs.Words.{in_word}
use Rattle.words.proofs.Words.{word-run}
use Rattle.words.proofs.parse_identifier.Goals as goal

pub returns : goal.returns
unfolding Tells
returns c = c.run_end.ensures in_word (λ b r h. search rules) ∙ sym (word-run _ _)
