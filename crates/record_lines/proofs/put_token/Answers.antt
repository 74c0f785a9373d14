-- `record_lines::put_token` meets its contract: each piece is written behind the one before. Assumes nothing.
use mathlib.Core.Path.{sym, ◌∙◌}
use mathlib.Core.List.{◌++◌}
use native.Mathlib.Omega.{arith}
use Rattle.contents.specs.Contents.{content_bytes}
use Rattle.record_lines.specs.Writing.{opening_text, body_text, closing_text}
use Rattle.numerals.proofs.Wrote.{wrote_none, wrote_as, wrote_then, wrote-room, room_as, room-first}
use Rattle.record_lines.proofs.Lines.{line-pieces, line-none}
use Rattle.record_lines.proofs.put_token.Goals as goal

pub returns-then-is_end : goal.returns-then-is_end
returns-then-is_end c = wrote_as (sym (line-none _ _ c.args.fields (sym c.is_end.ensures ∙ c.if-is_end.true))) (wrote_none _ _)

pub put_opening-body-requires : goal.put_opening-body-requires
put_opening-body-requires c =
    let line = line-pieces c.args.area.now c.args.kind c.args.fields (sym c.is_end.ensures ∙ c.if-is_end.false) in
    let body = body_text c.args.area.now c.args.kind c.args.fields in
    let end = closing_text c.args.kind (content_bytes c.args.area.now c.args.kind c.args.fields) in
    let room = room_as _ _ line c.requires.1 in
    room-first _ _ (opening_text c.args.kind) (body ++ end) room

pub put_body-closing-requires : goal.put_body-closing-requires
put_body-closing-requires c =
    let line = line-pieces c.args.area.now c.args.kind c.args.fields (sym c.is_end.ensures ∙ c.if-is_end.false) in
    let body = body_text c.args.area.now c.args.kind c.args.fields in
    let end = closing_text c.args.kind (content_bytes c.args.area.now c.args.kind c.args.fields) in
    let room = room_as _ _ line c.requires.1 in
    (c.requires.0, room-first _ _ body end (wrote-room (body ++ end) room c.put_opening-body.ensures))

pub put_closing-requires : goal.put_closing-requires
put_closing-requires c =
    let line = line-pieces c.args.area.now c.args.kind c.args.fields (sym c.is_end.ensures ∙ c.if-is_end.false) in
    let body = body_text c.args.area.now c.args.kind c.args.fields in
    let end = closing_text c.args.kind (content_bytes c.args.area.now c.args.kind c.args.fields) in
    let room = room_as _ _ line c.requires.1 in
    (c.requires.0, wrote-room end (wrote-room (body ++ end) room c.put_opening-body.ensures) c.put_body-closing.ensures)

pub returns : goal.returns
returns c =
    let line = line-pieces c.args.area.now c.args.kind c.args.fields (sym c.is_end.ensures ∙ c.if-is_end.false) in
    let body = body_text c.args.area.now c.args.kind c.args.fields in
    let end = closing_text c.args.kind (content_bytes c.args.area.now c.args.kind c.args.fields) in
    let room = room_as _ _ line c.requires.1 in
    let more = wrote-room (body ++ end) room c.put_opening-body.ensures in
    wrote_as (sym line) (wrote_then (omega arith) c.put_opening-body.ensures (wrote_then (omega arith) c.put_body-closing.ensures c.put_closing.ensures))
