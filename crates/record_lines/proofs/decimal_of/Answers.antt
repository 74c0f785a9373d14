-- `record_lines::decimal_of` meets its contract. Assumes nothing.
use Rattle.record_lines.specs.Lines.{decimal_of}
use Rattle.entries.specs.Entries.{exponent_size}
use Rattle.record_lines.proofs.decimal_of.Goals as goal

pub returns : goal.returns
unfolding decimal_of exponent_size
returns c = rw c.exponent_size.ensures
