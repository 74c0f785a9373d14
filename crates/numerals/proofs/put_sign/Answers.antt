-- `numerals::put_sign` meets its contract. Assumes nothing.
use mathlib.Core.Path.{sym}
use Rattle.numerals.proofs.Wrote.{wrote_none, wrote_as, room_as}
use Rattle.numbers.proofs.Rendered.{sign-minus, sign-plus}
use Rattle.numerals.proofs.put_sign.Goals as goal

pub put_byte-requires : goal.put_byte-requires
put_byte-requires c = room_as _ _ (sign-minus _ c.if-minus.true) c.requires

pub returns-then-minus : goal.returns-then-minus
returns-then-minus c = wrote_as (sym (sign-minus _ c.if-minus.true)) c.put_byte.ensures

pub returns : goal.returns
returns c = wrote_as (sym (sign-plus _ c.if-minus.false)) (wrote_none _ _)
