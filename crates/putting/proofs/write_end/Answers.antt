-- `putting::write_end`: a record without a token, and the place stays. Assumes nothing.
use Prim.Native.Nat.{◌+◌}
use mathlib.Core.Path.{refl, ap}
use native.Mathlib.Omega.{arith}
use Rattle.records.proofs.Putting.{part-put}
use Rattle.desk.proofs.Copy.{rest-room}
use Rattle.desk.proofs.Ones.{end-size, end-length, end-wrote}
use Rattle.putting.proofs.write_end.Goals as goal

pub write_end-requires : goal.write_end-requires
write_end-requires c =
    let a = c.args in
    let w = a.writer.now in
    rest-room a.c.at 1 w.store.now (omega (arith, c.requires, end-size w.full))

pub overflow_add-result : goal.overflow_add-result
overflow_add-result c =
    let a = c.args in
    let w = a.writer.now in
    omega (arith, c.requires, c.record_length.ensures, end-length w.full)

pub returns-clause-wrote : goal.returns-clause-wrote
returns-clause-wrote c =
    let a = c.args in
    let w = a.writer.now in
    λ s l g. end-wrote w.full s a.c _ w.store.now _ l g refl (ap (λ x. a.c.at + x) c.record_length.ensures) refl
    (part-put a.c.at _ w.store.now _ c.write_end.ensures)
