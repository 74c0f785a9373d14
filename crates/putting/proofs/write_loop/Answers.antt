-- `putting::write_loop`: one record, and the place behind its five bytes. Assumes nothing.
use Prim.Native.Nat.{◌+◌}
use mathlib.Core.Path.{refl, ap, ◌∙◌}
use native.Mathlib.Omega.{arith}
use lib.ListN.{length}
use Rattle.records.specs.Put.{put}
use Rattle.desk.specs.Written.{loop_bytes}
use Rattle.desk.specs.Desk.{rec_at}
use Rattle.desk.proofs.Ones.{place-small, kind-length, one-length, loop-here, loop-length, loop-plain, plain-wrote}
use Rattle.putting.proofs.write_loop.Goals as goal

pub token_at-token-requires : goal.token_at-token-requires
token_at-token-requires c =
    let a = c.args in
    let w = a.writer.now in
    let p = c.requires in
    place-small w.text.now a.c.place 5 p.going.place p.going.short (omega (arith, p.token.within))

pub put_loop-requires : goal.put_loop-requires
put_loop-requires c =
    let a = c.args in
    let w = a.writer.now in
    let p = c.requires in
    let t = ap (λ x. loop_bytes w.full x a.tags) c.token_at-token.ensures ∙ loop-here w.full w.text.now a.c.place 5 a.c.area a.tags p.going.place in
    omega (arith, ap length t, one-length w.full w.text.now a.c.area a.tags (rec_at 5 a.c.place.offset 5), p.room)

pub pass-requires-clause-room : goal.pass-requires-clause-room
pass-requires-clause-room c =
    let a = c.args in
    let w = a.writer.now in
    (omega (arith, c.put_loop.auto.store, c.requires.room, c.record_length-stored.ensures, loop-length w.full, kind-length w.full (rec_at 5 a.c.place.offset 5)), omega arith)

pub returns-clause-wrote : goal.returns-clause-wrote
returns-clause-wrote c =
    let a = c.args in
    let w = a.writer.now in
    let p = c.requires in
    let t = ap (λ x. loop_bytes w.full x a.tags) c.token_at-token.ensures ∙ loop-here w.full w.text.now a.c.place 5 a.c.area a.tags p.going.place in
    λ l. rw c.pass.ensures (plain-wrote w.full w.text.now 5 5 a.tags a.c _ w.store.now _ l (loop-plain 5)
    p.going p.token refl (ap (λ x. a.c.at + x) (c.record_length-stored.ensures ∙ loop-length w.full)) (omega arith)
    (c.put_loop.ensures ∙ ap (λ x. put a.c.at x w.store.now) t))
