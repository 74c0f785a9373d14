-- `readable::is_first`: where the definition asks the whole token, and no kind of the first reading. Assumes nothing.
use mathlib.Core.Path.{sym, ◌∙◌}
use Rattle.readable.specs.Readable.{readable_by}
use Rattle.values.proofs.Alone.{alone-single, alone-double}
use Rattle.readable.proofs.Readable.{first-no-quoted}
use Rattle.readable.proofs.is_first.Goals as goal

pub returns-in-SingleQuoted : goal.returns-in-SingleQuoted
unfolding readable_by
returns-in-SingleQuoted c = rw c.in-SingleQuoted.is (c.is_plain.ensures ∙ alone-single _)

pub returns-in-DoubleQuoted : goal.returns-in-DoubleQuoted
unfolding readable_by
returns-in-DoubleQuoted c = rw c.in-DoubleQuoted.is (c.is_plain-in-DoubleQuoted.ensures ∙ alone-double _)

pub returns-in-Quoted : goal.returns-in-Quoted
returns-in-Quoted c = rw c.in-Quoted.is (sym (first-no-quoted _))
