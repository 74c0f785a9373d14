-- `record_lines::put_first` meets its contract: there is a byte, or none. Assumes nothing.
use mathlib.Core.Path.{sym}
use Rattle.numerals.proofs.Wrote.{wrote_none, wrote_as, room_as}
use Rattle.record_lines.proofs.Lines.{mark-empty, mark-part}
use Rattle.record_lines.proofs.put_first.Goals as goal

pub returns-then-size-eq0 : goal.returns-then-size-eq0
returns-then-size-eq0 c =
    wrote_as (sym (mark-empty c.args.source.now c.args.from c.args.size c.if-size-eq0.true)) (wrote_none _ _)

pub put_byte-requires : goal.put_byte-requires
put_byte-requires c =
    room_as _ _ (mark-part c.args.source.now c.args.from c.args.size c.requires.1 c.if-size-eq0.false) c.requires.0

pub returns : goal.returns
returns c =
    wrote_as (sym (mark-part c.args.source.now c.args.from c.args.size c.requires.1 c.if-size-eq0.false)) c.put_byte.ensures
