-- `words::in_word`: a byte of a word is one that ends none. Assumes nothing.
use Rattle.words.specs.Words.{in_word}
use Rattle.words.proofs.in_word.Goals as goal

pub returns : goal.returns
unfolding in_word
returns c = rw c.ends_word.ensures
