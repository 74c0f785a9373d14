-- `walking::count_tags`: those counted, and those from here on, are those from the start on. Assumes nothing.
use mathlib.Core.Path.{ap}
use native.Mathlib.Omega.{arith}
use lib.ListN.{length}
use Rattle.gaps.proofs.Gaps.{gap_from, gap_within}
use Rattle.grammar.specs.Tokens.{in_block}
use Rattle.grammar.specs.Descent.{name_recs}
use Rattle.grammar.proofs.Offsets.{tokens-gap}
use Rattle.gaps.proofs.Bare.{gap-twice}
use Rattle.walking.proofs.Items.{count_turn, count_none}
use Rattle.walking.proofs.count_tags.Goals as goal

pub loop-at-init : goal.loop-at-init
loop-at-init c =
    let a = c.args in
    let e = c.gap_end-at.ensures in
    let n = ap (λ x. length (name_recs a.reading x)) (tokens-gap a.reading in_block a.s.now a.from) in
    (omega (arith, e, gap_within a.s.now a.from c.requires), rw e (gap-twice a.s.now a.from), omega arith, rw e (omega (arith, n)))

pub name_end-end-requires : goal.name_end-end-requires
name_end-end-requires c = c.loop-at.invariant.0

pub returns-then-end-at : goal.returns-then-end-at
returns-then-end-at c =
    let l = c.loop-at in
    let a = c.args in
    omega (arith, l.invariant.3, count_none a.reading a.s.now l.at l.invariant.1 (rw (← c.name_end-end.ensures) c.if-end-at.true))

pub overflow_add-count : goal.overflow_add-count
overflow_add-count c =
    let i = c.loop-at.invariant in
    omega (arith, i.0, i.2)

pub loop-at-smaller : goal.loop-at-smaller
loop-at-smaller c =
    let l = c.loop-at in
    let a = c.args in
    let end = c.name_end-end in
    let t = count_turn a.reading a.s.now l.at end.result l.invariant.0 l.invariant.1 end.ensures c.if-end-at.false in
    omega (arith, t.within, c.if-end-at.false, c.gap_end-at-in-loop-at.ensures, gap_from a.s.now end.result)

pub loop-at-preserved : goal.loop-at-preserved
loop-at-preserved c =
    let l = c.loop-at in
    let a = c.args in
    let end = c.name_end-end in
    let t = count_turn a.reading a.s.now l.at end.result l.invariant.0 l.invariant.1 end.ensures c.if-end-at.false in
    let e = c.gap_end-at-in-loop-at.ensures in (
      omega (arith, gap_within a.s.now end.result t.within),
      rw e (gap-twice a.s.now end.result),
      omega (arith, l.invariant.2, c.if-end-at.false, gap_from a.s.now end.result),
      rw e (omega (arith, t.more, l.invariant.3)),
    )
