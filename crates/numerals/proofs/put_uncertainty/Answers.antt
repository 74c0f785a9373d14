-- `numerals::put_uncertainty` meets its contract. Assumes nothing.
use mathlib.Core.Path.{sym}
use mathlib.Core.List.{[], ◌∷◌, ◌++◌}
use native.Mathlib.Omega.{arith}
use Rattle.numbers.specs.Spelling.{plain}
use Rattle.numerals.proofs.Wrote.{wrote_none, wrote_as, wrote_then, wrote-room, room_as, room-first}
use Rattle.numbers.proofs.Rendered.{uncertainty-none, uncertainty-some}
use Rattle.numerals.proofs.put_uncertainty.Goals as goal

pub returns-then-not-uncertain : goal.returns-then-not-uncertain
returns-then-not-uncertain c = wrote_as (sym (uncertainty-none _ _ (c.if-not-uncertain.true))) (wrote_none _ _)

pub put_byte-digits-requires : goal.put_byte-digits-requires
put_byte-digits-requires c =
    room-first _ _ (40 ∷ []) (plain c.args.uncertainty ++ (41 ∷ [])) (room_as _ _ (uncertainty-some _ _ (c.if-not-uncertain.false)) c.requires.1)

pub put_plain-end-requires : goal.put_plain-end-requires
put_plain-end-requires c =
    let digits = plain c.args.uncertainty in
    (c.requires.0, room-first _ _ digits (41 ∷ []) (wrote-room (digits ++ (41 ∷ [])) (room_as _ _ (uncertainty-some _ _ (c.if-not-uncertain.false)) c.requires.1) c.put_byte-digits.ensures))

pub put_byte-requires : goal.put_byte-requires
put_byte-requires c =
    let digits = plain c.args.uncertainty in
    wrote-room (41 ∷ []) (wrote-room (digits ++ (41 ∷ [])) (room_as _ _ (uncertainty-some _ _ (c.if-not-uncertain.false)) c.requires.1) c.put_byte-digits.ensures) c.put_plain-end.ensures

pub returns : goal.returns
returns c =
    let digits = plain c.args.uncertainty in
    let room = wrote-room (digits ++ (41 ∷ [])) (room_as _ _ (uncertainty-some _ _ (c.if-not-uncertain.false)) c.requires.1) c.put_byte-digits.ensures in
    wrote_as (sym (uncertainty-some _ _ (c.if-not-uncertain.false)))
    (wrote_then (omega arith) c.put_byte-digits.ensures
    (wrote_then (omega arith) c.put_plain-end.ensures c.put_byte.ensures))
