-- `trimming::trim_spaces_first`: behind the space bytes stands a place on the same line. Assumes nothing.
use mathlib.Core.Path.{sym, ap, ◌∙◌}
use native.Mathlib.Omega.{arith}
use Rattle.text.specs.Bytes.{is}
use Rattle.gaps.specs.Gaps.{gap_end}
use Rattle.places.specs.Places.{place_at}
use Rattle.text.proofs.Runs.{span-from, span-within}
use Rattle.gaps.proofs.Gaps.{gap-spaces, gap-shown, gap-inside}
use Rattle.places.proofs.Places.{place-column, is-spaces-end}
use Rattle.trimming.specs.Placed.{placed}
use Rattle.trimming.proofs.trim_spaces_first.Goals as goal

pub overflow_sub-here : goal.overflow_sub-here
overflow_sub-here c =
    let a = c.args in
    omega (arith, c.spaces_end-at.ensures, span-from (is 32) a.s.now a.offset)

pub overflow_add-here : goal.overflow_add-here
unfolding placed
overflow_add-here c =
    let a = c.args in
    let i = c.requires in
    omega (arith, c.spaces_end-at.ensures, span-within (is 32) a.s.now a.offset i.within, place-column a.s.now (placed a.offset a.line a.column) i.at)

pub returns-then-shows_no_gap : goal.returns-then-shows_no_gap
unfolding placed
returns-then-shows_no_gap c =
    let a = c.args in
    let e = c.spaces_end-at in
    let i = is-spaces-end a.s.now (placed a.offset a.line a.column) e.result c.requires e.ensures in
    i.at ∙ ap (place_at _) (sym (gap-shown _ _ (sym c.shows_no_gap.ensures ∙ c.if-shows_no_gap.true)) ∙ ap (gap_end _) e.ensures ∙ gap-spaces _ _)

pub trim_line_first-requires : goal.trim_line_first-requires
unfolding placed
trim_line_first-requires c =
    let a = c.args in
    let e = c.spaces_end-at in
    let p = placed a.offset a.line a.column in
    let inside = gap-inside _ _ (sym c.shows_no_gap.ensures ∙ c.if-shows_no_gap.false) in
    (is-spaces-end a.s.now p e.result c.requires e.ensures, inside)

pub returns : goal.returns
returns c = c.trim_line_first.ensures ∙ ap (place_at _) (ap (gap_end _) c.spaces_end-at.ensures ∙ gap-spaces _ _)
