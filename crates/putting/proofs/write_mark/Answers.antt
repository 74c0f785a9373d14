-- `putting::write_mark`: one record without content, and the place behind its token. Assumes nothing.
use mathlib.Core.Path.{◌≡◌, refl, ap, ◌∙◌}
use native.Mathlib.Omega.{arith}
use Prim.Native.Nat.{◌+◌}
use lib.ListN.{length}
use Rattle.kinds.specs.Kinds.{is_content}
use Rattle.records.specs.Put.{put}
use Rattle.records.specs.Records.{place_record}
use Rattle.records.proofs.Putting.{part-put}
use Rattle.desk.specs.Written.{record_bytes}
use Rattle.desk.specs.Desk.{rec_at}
use Rattle.desk.proofs.Bytes.{shape-told}
use Rattle.desk.proofs.Copy.{rest-room}
use Rattle.desk.proofs.Ones.{place-small, kind-length, mark-size, mark-bytes, no-content, plain-wrote}
use Rattle.putting.proofs.write_mark.Goals as goal

pub token_at-token-requires : goal.token_at-token-requires
token_at-token-requires c =
    let a = c.args in
    let w = a.writer.now in
    let p = c.requires in
    place-small w.text.now a.c.place a.size p.going.place p.going.short (omega (arith, p.token.within))

pub write_place-requires : goal.write_place-requires
write_place-requires c =
    let a = c.args in
    let w = a.writer.now in
    let p = c.requires in
    rest-room a.c.at 17 w.store.now (omega (arith, p.room, mark-size w.full a.kind a.c.place.offset a.size p.alone))

pub pass-requires-clause-room : goal.pass-requires-clause-room
pass-requires-clause-room c =
    let a = c.args in
    let w = a.writer.now in
    let p = c.requires in
    let t = part-put a.c.at _ w.store.now _ c.write_place.ensures in
    (omega (arith, ap length t, p.room, c.record_length-stored.ensures, shape-told w.full a.kind _ p.alone, kind-length w.full (rec_at a.kind a.c.place.offset a.size)), omega arith)

pub returns-clause-wrote : goal.returns-clause-wrote
returns-clause-wrote c =
    let a = c.args in
    let w = a.writer.now in
    let p = c.requires in
    let k = a.kind in
    let n = a.size in
    let b : place_record k c.token_at-token.result ≡ record_bytes w.full w.text.now a.c.area 0 (rec_at k a.c.place.offset n) =
    ap (place_record k) c.token_at-token.ensures ∙ mark-bytes w.full w.text.now a.c.place k n a.c.area 0 p.going.place p.alone in
    λ l. rw c.pass.ensures (plain-wrote w.full w.text.now k n 0 a.c _ w.store.now _ l (no-content k n (unfold is_content in rw p.alone))
    p.going p.token refl (ap (λ x. a.c.at + x) (c.record_length-stored.ensures ∙ shape-told w.full k _ p.alone)) (omega arith)
    (part-put a.c.at _ w.store.now _ c.write_place.ensures ∙ ap (λ x. put a.c.at x w.store.now) b))
