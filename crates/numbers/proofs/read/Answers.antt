-- `numbers::read`: each value is that of a run of digits within its limit. Assumes nothing.
use Rattle.numbers.specs.Meaning.{meaning}
use Rattle.numbers.specs.Pieces.{part_of, parts_of}
use Rattle.cuts.proofs.DigitRuns.{piece-length}
use Rattle.numbers.proofs.Limits.{limits}
use Rattle.numbers.proofs.read.Goals as goal

pub small_value-integer-requires : goal.small_value-integer-requires
small_value-integer-requires c =
    let p = c.requires in
    (p.0.integer, (limits _ _ p.0 p.1).integer)

pub digits_value-fraction-requires : goal.digits_value-fraction-requires
digits_value-fraction-requires c =
    let p = c.requires in
    (p.0.fraction, (limits _ _ p.0 p.1).fraction)

pub small_value-size-requires : goal.small_value-size-requires
small_value-size-requires c =
    let p = c.requires in
    (p.0.exponent, (limits _ _ p.0 p.1).exponent)

pub small_value-uncertainty-requires : goal.small_value-uncertainty-requires
small_value-uncertainty-requires c =
    let p = c.requires in
    (p.0.uncertainty, (limits _ _ p.0 p.1).uncertainty)

pub returns : goal.returns
unfolding meaning parts_of part_of
returns c = rw (piece-length _ _ _ c.requires.0.fraction.to, c.small_value-uncertainty.ensures, c.is_lowering-lowers.ensures, c.small_value-size.ensures, c.digits_value-fraction.ensures, c.small_value-integer.ensures, c.is_minus-minus.ensures)
