-- `keywords::is_word`: the keyword stands there, and its word ends behind it. Assumes nothing.
use Rattle.words.proofs.Words.{word-from, word_size}
use Rattle.keywords.specs.Keywords.{is_word}
use Rattle.keywords.proofs.Starts.{starts-at}
use Rattle.keywords.proofs.is_word.Goals as goal

pub overflow_sub-result : goal.overflow_sub-result
overflow_sub-result c = rw c.parse_identifier.ensures (word-from _ _)

pub returns-then-start_with : goal.returns-then-start_with
unfolding is_word
returns-then-start_with c = rw (← starts-at, ← c.start_with.ensures, c.if-start_with.true, c.parse_identifier.ensures, word_size)

pub returns-else-start_with : goal.returns-else-start_with
unfolding is_word
returns-else-start_with c = rw (← starts-at, ← c.start_with.ensures, c.if-start_with.false)
