-- `readable::is_name`: the word takes it all. Assumes nothing.
use native.Mathlib.Nat.{zero-add}
use Rattle.words.proofs.Words.{word_end}
use Rattle.readable.specs.Readable.{is_name}
use Rattle.readable.proofs.is_name.Goals as goal

pub returns : goal.returns
unfolding is_name
returns c = rw (c.parse_identifier.ensures, word_end, zero-add)
