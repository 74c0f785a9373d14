-- `cuts::digits_value`: the number so far is the one that the digits so far write, so it stays below 10 to the power of their count. Assumes nothing.
use Rattle.std.proofs.Common.{◌+◌, sym, arith, add-zero, add_assoc}
use Rattle.cuts.specs.Digits.{piece}
use Rattle.cuts.proofs.DigitRuns.{run-digit, run-first, run_fits, value_none, value-more, piece-length, piece-at}
use Rattle.cuts.proofs.digits_value.Goals as goal

pub loop-b-init : goal.loop-b-init
loop-b-init c = rw (add-zero c.args.from) (sym (value_none _ _))

pub overflow_mul-v : goal.overflow_mul-v
unfolding piece
overflow_mul-v c =
    let a = c.args in
    let l = c.loop-b in
    let n = piece-length a.w.now a.from a.to c.requires.0.to in
    let r = run-first c.requires.0 (a.from + l.b-index) (omega arith) (omega arith) in
    omega (arith, l.invariant, run_fits 18 r (omega arith))

pub overflow_sub-b : goal.overflow_sub-b
unfolding piece
overflow_sub-b c =
    let a = c.args in
    let l = c.loop-b in
    let n = piece-length a.w.now a.from a.to c.requires.0.to in
    rw (piece-at a.w.now a.from a.to l.b-index (omega arith)) (run-digit c.requires.0 (a.from + l.b-index) (omega arith) (omega arith)).0

pub overflow_add-v : goal.overflow_add-v
unfolding piece
overflow_add-v c =
    let a = c.args in
    let l = c.loop-b in
    let n = piece-length a.w.now a.from a.to c.requires.0.to in
    let r = run-first c.requires.0 (a.from + l.b-index) (omega arith) (omega arith) in
    let d = run-digit c.requires.0 (a.from + l.b-index) (omega arith) (omega arith) in
    omega (arith, l.invariant, run_fits 18 r (omega arith), c.from.ensures, piece-at a.w.now a.from a.to l.b-index (omega arith))

pub loop-b-preserved : goal.loop-b-preserved
unfolding piece
loop-b-preserved c =
    let a = c.args in
    let l = c.loop-b in
    let n = piece-length a.w.now a.from a.to c.requires.0.to in
    let e = value-more a.w.now a.from (a.from + l.b-index) (omega arith) (omega (arith, c.requires.0.to)) in
    rw (add_assoc a.from l.b-index 1) at (rw (← l.invariant, ← piece-at a.w.now a.from a.to l.b-index (omega arith), ← c.from.ensures) at (sym e))
