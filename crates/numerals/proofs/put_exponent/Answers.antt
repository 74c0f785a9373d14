-- `numerals::put_exponent` meets its contract. Assumes nothing.
use mathlib.Core.Path.{sym}
use mathlib.Core.List.{[], ◌∷◌, ◌++◌}
use native.Mathlib.Omega.{arith}
use Rattle.numbers.specs.Spelling.{plain, sign_bytes}
use Rattle.numerals.proofs.Wrote.{wrote_none, wrote_as, wrote_then, wrote-room, room_as, room-first}
use Rattle.numbers.proofs.Rendered.{exponent-none, exponent-some}
use Rattle.numerals.proofs.put_exponent.Goals as goal

pub returns-then-exponent-eq0 : goal.returns-then-exponent-eq0
returns-then-exponent-eq0 c = wrote_as (sym (exponent-none _ _ c.if-exponent-eq0.true)) (wrote_none _ _)

pub put_byte-sign-requires : goal.put_byte-sign-requires
put_byte-sign-requires c =
    room-first _ _ (101 ∷ []) (sign_bytes c.args.lowers ++ plain c.args.exponent) (room_as _ _ (exponent-some _ _ c.if-exponent-eq0.false) c.requires.1)

pub put_sign-digits-requires : goal.put_sign-digits-requires
put_sign-digits-requires c =
    let sign = sign_bytes c.args.lowers in
    let digits = plain c.args.exponent in
    room-first _ _ sign digits (wrote-room (sign ++ digits) (room_as _ _ (exponent-some _ _ c.if-exponent-eq0.false) c.requires.1) c.put_byte-sign.ensures)

pub put_plain-requires : goal.put_plain-requires
put_plain-requires c =
    let sign = sign_bytes c.args.lowers in
    let digits = plain c.args.exponent in
    (c.requires.0, wrote-room digits (wrote-room (sign ++ digits) (room_as _ _ (exponent-some _ _ c.if-exponent-eq0.false) c.requires.1) c.put_byte-sign.ensures) c.put_sign-digits.ensures)

pub returns : goal.returns
returns c =
    let sign = sign_bytes c.args.lowers in
    let digits = plain c.args.exponent in
    let room = wrote-room (sign ++ digits) (room_as _ _ (exponent-some _ _ c.if-exponent-eq0.false) c.requires.1) c.put_byte-sign.ensures in
    wrote_as (sym (exponent-some _ _ c.if-exponent-eq0.false))
    (wrote_then (omega arith) c.put_byte-sign.ensures
    (wrote_then (omega arith) c.put_sign-digits.ensures c.put_plain.ensures))
