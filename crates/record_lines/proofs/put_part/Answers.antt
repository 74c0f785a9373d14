-- `record_lines::put_part` meets its contract: where the loop stands, i bytes are copied. Assumes nothing.
use Prim.Native.Nat.{◌-◌}
use mathlib.Core.Path.{◌≡◌, refl, sym}
use native.Mathlib.Omega.{arith}
use lib.ListN.{length, take, drop, length-set, length-take, length-drop}
use Rattle.numerals.proofs.Wrote.{put-none, part-more}
use Rattle.record_lines.proofs.put_part.Goals as goal

pub loop-i-init : goal.loop-i-init
loop-i-init c = (omega arith, refl, sym (put-none _ _))

pub overflow_add-out : goal.overflow_add-out
overflow_add-out c = omega arith

pub bounds-source-from : goal.bounds-source-from
bounds-source-from c = omega arith

pub overflow_add-out-in-loop-i : goal.overflow_add-out-in-loop-i
overflow_add-out-in-loop-i c = omega arith

pub bounds-out-at : goal.bounds-out-at
bounds-out-at c = omega arith

pub loop-i-preserved : goal.loop-i-preserved
loop-i-preserved c =
    let l = c.loop-i in
    let a = c.args in (
      omega arith,
      simp length-set l.invariant.1,
      rw l.invariant.2 (part-more a.source.now a.out.now a.from a.at l.i (omega arith) (omega arith)),
    )

pub overflow_add-result : goal.overflow_add-result
overflow_add-result c = omega arith

pub returns : goal.returns
returns c =
    let a = c.args in
    let whole : c.loop-i.i ≡ a.size = omega arith in
    let size : length (take a.size (drop a.from a.source.now)) ≡ a.size = omega (arith, length-take a.size (drop a.from a.source.now), length-drop a.from a.source.now) in
    record { bytes = rw whole at c.loop-i.invariant.2; next = omega arith }
