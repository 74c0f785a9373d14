-- `walking::write_found`: by the kind. Assumes nothing.
use Prim.Native.Nat.{◌≤◌}
use native.Mathlib.Omega.{arith}
use Rattle.values.proofs.Laws.{found-lies, found-value}
use Rattle.desk.proofs.Numbers.{mark-kind, text-kind}
use Rattle.desk.proofs.Ones.{kind-marked}
use Rattle.walking.proofs.Turns.{here-turn}
use Rattle.walking.proofs.write_found.Goals as goal
use Rattle.walking.proofs.write_found.Goals.{in_default-via-then-kind-lt14, in_default-via-else-kind-lt14+else-kind-lt16}

pub write_mark-requires : goal.write_mark-requires
write_mark-requires c =
    let a = c.args in
    let w = a.writer.now in
    let p = c.requires in
    let t = here-turn w.reading w.text.now a.c.place.offset a.kind a.size p.here in
    let l = (found-lies w.reading w.text.now a.c.place.offset a.kind a.size p.here.found).low in
    record { going = p.going; token = t.token; alone = mark-kind a.kind (omega arith) (omega arith); room = p.room.store }

pub returns-in-0-to-9-clause-wrote : goal.returns-in-0-to-9-clause-wrote
returns-in-0-to-9-clause-wrote c =
    let w = c.args.writer.now in
    rw c.write_mark.ensures.area (c.write_mark.ensures.wrote w.area.now)

pub returns-in-14-clause-wrote : goal.returns-in-14-clause-wrote
returns-in-14-clause-wrote c =
    let w = c.args.writer.now in
    rw c.write_number.ensures.area (c.write_number.ensures.wrote w.area.now)

pub write_text-requires : goal.write_text-requires
write_text-requires c =
    let a = c.args in
    let w = a.writer.now in
    let p = c.requires in
    let f = p.here.found in
    let o = a.c.place.offset in
    let t = here-turn w.reading w.text.now o a.kind a.size p.here in
    let l = (found-lies w.reading w.text.now o a.kind a.size f).low in
    let b : (14 ≤ a.kind → a.kind ≤ 15 → ⊥) × (10 ≤ a.kind) =
    elim c.in_default.branch [
      | in_default-via-then-kind-lt14 w ↦ (λ x y. omega arith, omega arith)
      | in_default-via-else-kind-lt14+else-kind-lt16 w ↦ (λ x y. omega arith, omega arith)
    ] in
    let m = kind-marked a.kind _ _ _ c.of-text.ensures c.marks.ensures c.opening.ensures in
    (record { going = p.going; token = t.token; content = text-kind a.kind (found-value w.reading w.text.now o a.kind a.size f) b.0 b.1; room = p.room }, m)
