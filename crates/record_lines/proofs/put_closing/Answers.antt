-- `record_lines::put_closing` meets its contract: each arm at once for its kinds' numbers. Assumes nothing.
use borrow.Enum.Refused.{opened}
use mathlib.Core.Path.{refl, sym, ap}
use mathlib.Core.Bool.{true}
use mathlib.Core.List.{[], ◌∷◌}
use native.Mathlib.Omega.{arith}
use lib.Dec.{ltb}
use lib.ListN.{length, take, drop}
use Rattle.kinds.specs.Kinds.{kind_of, shape_of, is_content}
use Rattle.kinds.proofs.Numbering.{told}
use Rattle.readable.specs.Tokens.{mark}
use Rattle.contents.specs.Contents.{content_bytes}
use Rattle.contents.proofs.Kept.{content-length}
use Rattle.record_lines.specs.Writing.{mark_of, closing_text}
use Rattle.numerals.proofs.Wrote.{wrote_as, wrote_then, wrote-room, room_as, room-first}
use Rattle.record_lines.proofs.Lines.{closing-mark, closing-quoted, writable-inside}
use Rattle.record_lines.proofs.put_closing.Goals as goal

pub put_byte-end-requires : goal.put_byte-end-requires
unfolding kind_of closing_text
put_byte-end-requires c =
    let e = closing-mark c.args.kind (content_bytes c.args.area.now c.args.kind c.args.fields) (told (λ k. ltb 1 (length (closing_text k []))) true 11 (12 ∷ 13 ∷ []) refl c.args.kind c.in-SingleQuoted.in-SingleQuoted-own.keys1) in
    room-first _ _ (mark_of c.args.kind ∷ []) (10 ∷ []) (room_as _ _ e c.requires.1)

pub put_byte-requires : goal.put_byte-requires
unfolding kind_of closing_text
put_byte-requires c =
    let e = closing-mark c.args.kind (content_bytes c.args.area.now c.args.kind c.args.fields) (told (λ k. ltb 1 (length (closing_text k []))) true 11 (12 ∷ 13 ∷ []) refl c.args.kind c.in-SingleQuoted.in-SingleQuoted-own.keys1) in
    let mark = wrote_as (ap (λ m. m ∷ []) c.mark_of.ensures) c.put_byte-end.ensures in
    wrote-room (10 ∷ []) (room_as _ _ e c.requires.1) mark

pub put_first-end-requires : goal.put_first-end-requires
unfolding kind_of shape_of is_content
put_first-end-requires c =
    let e = closing-quoted c.args.area.now c.args.kind c.args.fields c.content_length-size.result c.content_length-size.ensures c.in-Quoted.is in
    let has = told (λ k. is_content (shape_of k)) true 16 [] refl c.args.kind c.in-Quoted.in-Quoted-own.keys2 in
    let inside = writable-inside c.args.area.now c.args.kind c.args.fields c.requires.0 (sym has) in
    (room-first _ _ (mark (take c.content_length-size.result (drop c.args.fields.number c.args.area.now))) (10 ∷ []) (room_as _ _ e c.requires.1), omega (arith, inside.inside, c.content_length-size.ensures, content-length c.args.kind c.args.fields))

pub put_byte-requires-in-Quoted : goal.put_byte-requires-in-Quoted
put_byte-requires-in-Quoted c =
    let e = closing-quoted c.args.area.now c.args.kind c.args.fields c.content_length-size.result c.content_length-size.ensures c.in-Quoted.is in
    wrote-room (10 ∷ []) (room_as _ _ e c.requires.1) c.put_first-end.ensures

pub put_byte-requires-in_default : goal.put_byte-requires-in_default
unfolding kind_of closing_text
put_byte-requires-in_default c =
    room_as _ _ (sym (told (λ k. closing_text k (content_bytes c.args.area.now c.args.kind c.args.fields)) (10 ∷ []) 0 (1 ∷ 2 ∷ 3 ∷ 4 ∷ 5 ∷ 6 ∷ 7 ∷ 8 ∷ 9 ∷ 10 ∷ 14 ∷ 15 ∷ []) refl c.args.kind (opened c.in_default.in_default-own.keys3))) c.requires.1

pub returns-in-SingleQuoted : goal.returns-in-SingleQuoted
unfolding kind_of closing_text
returns-in-SingleQuoted c =
    let e = closing-mark c.args.kind (content_bytes c.args.area.now c.args.kind c.args.fields) (told (λ k. ltb 1 (length (closing_text k []))) true 11 (12 ∷ 13 ∷ []) refl c.args.kind c.in-SingleQuoted.in-SingleQuoted-own.keys1) in
    let mark = wrote_as (ap (λ m. m ∷ []) c.mark_of.ensures) c.put_byte-end.ensures in
    let room = room_as _ _ e c.requires.1 in
    wrote_as (sym e) (wrote_then (omega arith) mark c.put_byte.ensures)

pub returns-in-Quoted : goal.returns-in-Quoted
returns-in-Quoted c =
    let e = closing-quoted c.args.area.now c.args.kind c.args.fields c.content_length-size.result c.content_length-size.ensures c.in-Quoted.is in
    let room = room_as _ _ e c.requires.1 in
    wrote_as (sym e) (wrote_then (omega arith) c.put_first-end.ensures c.put_byte-in-Quoted.ensures)

pub returns-in_default : goal.returns-in_default
unfolding kind_of closing_text
returns-in_default c =
    wrote_as (told (λ k. closing_text k (content_bytes c.args.area.now c.args.kind c.args.fields)) (10 ∷ []) 0 (1 ∷ 2 ∷ 3 ∷ 4 ∷ 5 ∷ 6 ∷ 7 ∷ 8 ∷ 9 ∷ 10 ∷ 14 ∷ 15 ∷ []) refl c.args.kind (opened c.in_default.in_default-own.keys3)) c.put_byte-in_default.ensures
