-- `numbers::parse_numeric`: the word's parts are the pieces between its cuts. Assumes nothing.
use mathlib.Core.Path.{sym, ◌∙◌, ap}
use Rattle.numbers.specs.Meaning.{judged, number_of}
use Rattle.numbers.specs.Pieces.{starts_number}
use Rattle.cuts.proofs.Bounds.{cuts-sound}
use Rattle.numbers.proofs.Bridge.{parts_cuts}
use Rattle.numbers.proofs.Facts.{not-number, no-number-by-first-byte}
use Rattle.numbers.proofs.parse_numeric.Goals as goal

pub returns-then-not-starts_number : goal.returns-then-not-starts_number
returns-then-not-starts_number c =
    sym
    (not-number _ _
    (no-number-by-first-byte _
    (ap starts_number (sym c.byte_at.ensures) ∙ sym c.starts_number.ensures ∙ c.if-not-starts_number.true)))

pub counts_as-requires : goal.counts_as-requires
counts_as-requires c = rw c.cut-k.ensures (cuts-sound _)

pub returns-then-not-counts_as : goal.returns-then-not-counts_as
unfolding number_of judged
returns-then-not-counts_as c = rw (parts_cuts, ← c.cut-k.ensures, ← c.counts_as.ensures, c.if-not-counts_as.true)

pub in_limits-requires : goal.in_limits-requires
in_limits-requires c = rw c.cut-k.ensures (cuts-sound _)

pub returns-then-not-in_limits : goal.returns-then-not-in_limits
unfolding number_of judged
returns-then-not-in_limits c = rw (parts_cuts, ← c.cut-k.ensures, ← c.counts_as.ensures, c.if-not-counts_as.false, ← c.in_limits.ensures, c.if-not-in_limits.true)

pub read-requires : goal.read-requires
read-requires c = (rw c.cut-k.ensures (cuts-sound _), sym c.in_limits.ensures ∙ c.if-not-in_limits.false)

pub returns : goal.returns
unfolding number_of judged
returns c = rw (parts_cuts, ← c.cut-k.ensures, ← c.counts_as.ensures, c.if-not-counts_as.false, ← c.in_limits.ensures, c.if-not-in_limits.false, c.read.ensures)
