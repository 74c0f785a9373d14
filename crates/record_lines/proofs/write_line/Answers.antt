-- `record_lines::write_line` meets its contract: the token, behind a space or not. Assumes nothing.
use mathlib.Core.Path.{sym, ◌∙◌}
use mathlib.Core.List.{[], ◌∷◌}
use native.Mathlib.Omega.{arith}
use Rattle.record_lines.specs.Lines.{plain_line}
use Rattle.numerals.proofs.Wrote.{wrote_as, wrote_then, wrote-room, room_as, room-first}
use Rattle.record_lines.proofs.Lines.{line-led, line_plain, rule-writable}
use Rattle.record_lines.proofs.write_line.Goals as goal

pub put_byte-token-requires : goal.put_byte-token-requires
put_byte-token-requires c =
    let line = line-led c.args.reading c.args.area.now c.args.kind c.args.fields (sym c.is_led.ensures ∙ c.if-is_led.true) in
    let room = room_as _ _ line c.requires.1 in
    room-first _ _ (32 ∷ []) (plain_line c.args.area.now c.args.kind c.args.fields) room

pub put_token-requires : goal.put_token-requires
put_token-requires c =
    let line = line-led c.args.reading c.args.area.now c.args.kind c.args.fields (sym c.is_led.ensures ∙ c.if-is_led.true) in
    let room = room_as _ _ line c.requires.1 in
    (rule-writable c.args.reading c.args.area.now c.args.kind c.args.fields c.requires.0, wrote-room (plain_line c.args.area.now c.args.kind c.args.fields) room c.put_byte-token.ensures)

pub returns-then-is_led : goal.returns-then-is_led
returns-then-is_led c =
    let line = line-led c.args.reading c.args.area.now c.args.kind c.args.fields (sym c.is_led.ensures ∙ c.if-is_led.true) in
    let room = room_as _ _ line c.requires.1 in
    wrote_as (sym line) (wrote_then (omega arith) c.put_byte-token.ensures c.put_token.ensures)

pub put_token-requires-2 : goal.put_token-requires-2
put_token-requires-2 c =
    let line = line_plain c.args.reading c.args.area.now c.args.kind c.args.fields (sym c.is_led.ensures ∙ c.if-is_led.false) in
    let room = room_as _ _ line c.requires.1 in
    (rule-writable c.args.reading c.args.area.now c.args.kind c.args.fields c.requires.0, room)

pub returns : goal.returns
returns c =
    let line = line_plain c.args.reading c.args.area.now c.args.kind c.args.fields (sym c.is_led.ensures ∙ c.if-is_led.false) in
    wrote_as (sym line) c.put_token-2.ensures
