-- `copying::write_text`: one record, its content, and the place behind its token. Assumes nothing.
use Prim.Native.Nat.{ℕ, ◌+◌, ◌-◌}
use mathlib.Core.Path.{refl, sym, ap, ◌∙◌}
use mathlib.Core.Bool.{cond}
use mathlib.Core.List.{[]}
use native.Mathlib.Omega.{arith}
use lib.ListN.{length, length-take}
use Rattle.kinds.specs.Kinds.{kind_of}
use Rattle.records.specs.Put.{put}
use Rattle.desk.specs.Written.{content_bytes}
use Rattle.desk.specs.Desk.{rec_at}
use Rattle.desk.specs.Writer.{desk_of}
use Rattle.kinds.proofs.Marks.{opening-marks}
use Rattle.desk.proofs.Bytes.{shape-told}
use Rattle.desk.proofs.Copy.{part-taken}
use Rattle.desk.proofs.Ones.{place-small, kind-length, one-length, has-content, text-size, text-here, text-room, text-content, one-wrote}
use Rattle.copying.proofs.write_text.Goals as goal

pub token_at-token-requires : goal.token_at-token-requires
token_at-token-requires c =
    let a = c.args in
    let w = a.writer.now in
    let p = c.requires.0 in
    place-small w.text.now a.c.place a.size p.going.place p.going.short (omega (arith, p.token.within))

pub put_content-requires : goal.put_content-requires
put_content-requires c =
    let a = c.args in
    let w = a.writer.now in
    let p = c.requires.0 in
    let t = ap (λ x. content_bytes w.full a.kind x a.c.area) c.token_at-token.ensures ∙ text-here w.full w.text.now a.c.place a.kind a.size a.c.area 0 p.going.place p.content in
    omega (arith, ap length t, one-length w.full w.text.now a.c.area 0 (rec_at a.kind a.c.place.offset a.size), p.room.store)

pub overflow_add-start : goal.overflow_add-start
overflow_add-start c =
    let a = c.args in
    let w = a.writer.now in
    let p = c.requires in
    omega (arith, p.1.first, text-room w.text.now a.kind a.c.place.offset a.size p.0.token (opening-marks (kind_of a.kind)), p.0.going.short)

pub overflow_add-start-2 : goal.overflow_add-start-2
overflow_add-start-2 c =
    let a = c.args in
    let w = a.writer.now in
    let p = c.requires in
    omega (arith, p.1.all, p.1.first, text-room w.text.now a.kind a.c.place.offset a.size p.0.token (opening-marks (kind_of a.kind)), p.0.going.short)

pub slice_bounds-copy_content-end : goal.slice_bounds-copy_content-end
slice_bounds-copy_content-end c =
    let a = c.args in
    let w = a.writer.now in
    let p = c.requires in
    omega (arith, p.1.all, p.1.first, text-room w.text.now a.kind a.c.place.offset a.size p.0.token (opening-marks (kind_of a.kind)))

pub copy_content-requires : goal.copy_content-requires
copy_content-requires c =
    let a = c.args in
    let w = a.writer.now in
    let p = c.requires in
    λ f. omega (arith, p.1.all, p.0.room.area f, text-size a.kind a.c.place.offset a.size p.0.content, length-take {A = ℕ})

pub pass-requires-clause-room : goal.pass-requires-clause-room
pass-requires-clause-room c =
    let a = c.args in
    let w = a.writer.now in
    let p = c.requires.0 in
    (omega (arith, p.room.store, c.put_content.auto.store, c.record_length-stored.ensures, shape-told w.full a.kind _ p.content, kind-length w.full (rec_at a.kind a.c.place.offset a.size)), omega arith)

pub returns-clause-wrote : goal.returns-clause-wrote
returns-clause-wrote c =
    let a = c.args in
    let w = a.writer.now in
    let p = c.requires.0 in
    let m = c.requires.1 in
    let t = ap (λ x. content_bytes w.full a.kind x a.c.area) c.token_at-token.ensures ∙ text-here w.full w.text.now a.c.place a.kind a.size a.c.area 0 p.going.place p.content in
    rw c.pass.ensures (one-wrote w.full w.text.now a.kind a.size 0 (desk_of w a.c) _ p.going p.token refl
    (ap (λ x. a.c.at + x) (c.record_length-stored.ensures ∙ shape-told w.full a.kind _ p.content))
    (ap (λ x. a.c.area + (a.size - x)) m.all ∙ ap (λ x. a.c.area + x) (sym (has-content a.kind a.size p.content)))
    (c.put_content.ensures ∙ ap (λ x. put a.c.at x w.store.now) t)
    (c.copy_content.ensures ∙ ap (λ x. put a.c.area (cond w.full x []) w.area.now) (part-taken w.text.now (a.c.place.offset + a.opening) (a.size - a.marks) ∙ rw (m.first, m.all) (text-content w.text.now a.kind a.c.place.offset a.size p.content))))
