-- `decisions::parse_heading`: its word, if its name may stand. Assumes nothing.
use Prim.Native.Nat.{◌*◌}
use mathlib.Core.Path.{sym, ◌∙◌}
use native.Mathlib.Omega.{arith}
use Rattle.text.specs.Limits.{limit}
use Rattle.words.proofs.Words.{word-from, word-within}
use Rattle.sizes.proofs.Room.{default-none, upto-none}
use Rattle.decisions.proofs.Onward.{heading-fine, heading-bad}
use Rattle.decisions.proofs.parse_heading.Goals as goal

pub overflow_sub-end : goal.overflow_sub-end
overflow_sub-end c = rw c.parse_identifier-end.ensures (word-from _ _)

pub returns-then-not-heading_fits : goal.returns-then-not-heading_fits
returns-then-not-heading_fits c =
    let a = c.args in
    rw c.at.ensures (heading-bad a.reading a.s.now a.kind a.at _ c.parse_identifier-end.ensures (sym c.heading_fits.ensures ∙ c.if-not-heading_fits.true))

pub overflow_sub-end-2 : goal.overflow_sub-end-2
overflow_sub-end-2 c = rw c.parse_identifier-end.ensures (word-from _ _)

pub with-requires : goal.with-requires
unfolding limit
with-requires c =
    let p = c.requires in
    let a = c.args in
    (rw (default-none c.default.ensures) (upto-none (limit * limit)), omega (arith, c.parse_identifier-end.ensures, word-within a.s.now a.at p.within, p.small))

pub returns : goal.returns
returns c =
    let a = c.args in
    heading-fine a.reading a.s.now a.kind a.at _ c.parse_identifier-end.ensures
    (sym c.heading_fits.ensures ∙ c.if-not-heading_fits.false)
    _ c.gap_end.ensures _ (c.with.ensures ∙ rw (default-none c.default.ensures))
