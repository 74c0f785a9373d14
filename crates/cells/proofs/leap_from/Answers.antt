-- `cells::leap_from`: each `return` by the tests that led there. Assumes nothing.
use Prim.Native.Nat.{◌<◌, ◌≤◌, ◌-◌, ◌+◌}
use mathlib.Core.Path.{◌≡◌, sym, ◌∙◌}
use native.Mathlib.Omega.{arith}
use lib.ListN.{length, get_or}
use Rattle.kinds.specs.Kinds.{kind_of, number_of, body_length}
use Rattle.entries.proofs.Entering.{entry-over, entry-none, entry-short, entry_whole}
use Rattle.cells.specs.Walk.{leap_of}
use Rattle.cells.proofs.leap_from.Goals as goal

pub returns-in_err-get : goal.returns-in_err-get
unfolding leap_of
returns-in_err-get c = let l = rw c.in_err-get.was at c.get.ensures.lookup in c.from_residual.ensures ∙ rw (entry-over c.args.store.now c.args.at (omega (arith, l)))

pub returns-then-number-eq0 : goal.returns-then-number-eq0
unfolding leap_of
returns-then-number-eq0 c =
    let s = c.args.store.now in
    let at = c.args.at in
    let l = rw c.in_ok-get.was at c.get.ensures.lookup in
    let e : number_of (kind_of (get_or s at 0)) ≡ 0 = rw (← l.3.1 0, ← c.of-kind.ensures) (sym c.number.ensures ∙ c.if-number-eq0.true) in
    rw (entry-none s at l.3.0 e)

pub returns-then-store-body : goal.returns-then-store-body
unfolding body_length leap_of
returns-then-store-body c =
    let s = c.args.store.now in
    let at = c.args.at in
    let l = rw c.in_ok-get.was at c.get.ensures.lookup in
    let e : length s - (at + 1) < body_length (get_or s at 0) = rw (← l.3.1 0, ← c.of-kind.ensures, ← c.shape.ensures, ← c.length-length.ensures) c.if-store-body.true in
    rw (entry-short s at l.3.0 e)

pub returns : goal.returns
unfolding body_length leap_of
returns c =
    let s = c.args.store.now in
    let at = c.args.at in
    let l = rw c.in_ok-get.was at c.get.ensures.lookup in
    let known : 0 < number_of (kind_of (get_or s at 0)) = rw (← l.3.1 0, ← c.of-kind.ensures, ← c.number.ensures) (omega arith) in
    let fits : body_length (get_or s at 0) ≤ length s - (at + 1) = rw (← l.3.1 0, ← c.of-kind.ensures, ← c.shape.ensures, ← c.length-length.ensures) (omega arith) in
    rw (entry_whole s at l.3.0 known fits, c.length-length.ensures, c.shape.ensures, c.of-kind.ensures, l.3.1 0)
