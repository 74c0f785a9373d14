-- `trimming::trim_line_first`: behind LF and space bytes stands a place on the next line. Assumes nothing.
use Prim.Native.Nat.{◌+◌}
use mathlib.Core.Path.{sym, ap, ◌∙◌}
use native.Mathlib.Omega.{arith}
use Rattle.text.specs.Bytes.{is}
use Rattle.places.specs.Places.{place_at}
use Rattle.text.proofs.Runs.{span-from}
use Rattle.gaps.proofs.Gaps.{gap-line}
use Rattle.places.proofs.Places.{place-line, place-next-line}
use Rattle.trimming.specs.Placed.{placed}
use Rattle.trimming.proofs.trim_line_first.Goals as goal

pub overflow_add-result : goal.overflow_add-result
unfolding placed
overflow_add-result c =
    let a = c.args in
    let i = c.requires.0 in
    omega (arith, c.requires.1, place-line a.s.now (placed a.offset a.line a.column) i.at)

pub overflow_sub-result : goal.overflow_sub-result
overflow_sub-result c =
    let a = c.args in
    omega (arith, c.spaces_end-at.ensures, span-from (is 32) a.s.now (a.offset + 1))

pub returns-then-shows_no_gap : goal.returns-then-shows_no_gap
unfolding placed
returns-then-shows_no_gap c =
    let a = c.args in
    let h = c.requires in
    let e = c.spaces_end-at in
    let feed = c.if-s-offset-eq10.true in
    let shown = sym c.shows_no_gap.ensures ∙ c.if-shows_no_gap.true in
    place-next-line a.s.now (placed a.offset a.line a.column) e.result h.0 h.1 feed e.ensures
    ∙ ap (place_at _) (gap-line a.s.now a.offset h.1 feed e.result e.ensures shown)
