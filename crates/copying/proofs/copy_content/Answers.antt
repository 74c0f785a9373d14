-- `copying::copy_content`: where the loop stands, i bytes are copied, and it is Read that copies. Assumes nothing.
use native.Mathlib.Omega.{arith}
use Prim.Native.Nat.{◌+◌}
use mathlib.Core.Path.{◌≡◌, refl, sym, ◌∙◌}
use lib.ListN.{length-set}
use lib.Seq.{take_all}
use Rattle.desk.proofs.Copy.{put-none, copy_more}
use Rattle.copying.proofs.copy_content.Goals as goal

pub returns-then-not-full : goal.returns-then-not-full
returns-then-not-full c =
    let e = c.if-not-full.true in
    rw e (sym (put-none _ _))

pub loop-i-init : goal.loop-i-init
loop-i-init c =
    let e = c.if-not-full.false in
    (e, c.requires e, refl, sym (put-none _ _))

pub overflow_add-area : goal.overflow_add-area
overflow_add-area c = omega arith

pub bounds-area-at : goal.bounds-area-at
bounds-area-at c = omega arith

pub loop-i-preserved : goal.loop-i-preserved
loop-i-preserved c =
    let l = c.loop-i in
    let a = c.args in
    let e : 0 + l.i ≡ l.i = omega arith in (
      l.invariant.0,
      l.invariant.1,
      simp length-set l.invariant.2,
      rw l.invariant.3 (rw e at (copy_more a.content.now a.area.now 0 a.at l.i (omega arith) (omega arith))),
    )

pub returns : goal.returns
returns c =
    let l = c.loop-i in
    rw l.invariant.0 (l.invariant.3 ∙ rw (take_all l.i c.args.content.now (omega arith)))
