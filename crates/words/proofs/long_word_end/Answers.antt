-- `words::long_word_end`: by blocks of bytes above space. Assumes nothing.
use Rattle.std.proofs.Common.{sym, ◌∙◌, rules}
use Rattle.text.specs.Runs.{Tells}
use Rattle.text.specs.Blocks.{clear}
use Rattle.words.specs.Words.{in_word}
use Rattle.words.proofs.Words.{word-run, clear-in-word}
use Rattle.words.proofs.long_word_end.Goals as goal

pub returns : goal.returns
unfolding Tells
returns c = c.long_run_end.ensures (clear 33 0) in_word (λ b r h. search rules) (λ b r h. search rules) (clear-in-word 0) ∙ sym (word-run _ _)
