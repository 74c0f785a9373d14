-- `gaps::comments_end`: over space bytes, and over a comment to its line's end. Assumes nothing.
use Rattle.std.proofs.Common.{◌≡◌, sym, ap, ◌∙◌, arith, rules}
use Rattle.text.specs.Bytes.{is_space}
use Rattle.text.specs.Runs.{span_end, Tells}
use Rattle.text.proofs.Runs.{span-from, span-ends}
use Rattle.gaps.specs.Gaps.{gap_end}
use Rattle.gaps.proofs.Gaps.{gap-run, gap_other, gap-comment, comment-goes, gap-past}
use Rattle.gaps.proofs.comments_end.Goals as goal
use Rattle.gaps.proofs.comments_end.Goals.{then-s-at-via-then-s-at, then-s-at-via-else-s-at+then-s-at-ne35, After-run_end-at}

ran : (c : After-run_end-at) → c.run_end-at.result ≡ span_end is_space c.args.s.now c.loop-at.at
unfolding Tells
ran c = c.run_end-at.ensures is_space (λ b r h. search rules)

here : (c : After-run_end-at) → gap_end c.args.s.now c.args.from ≡ gap_end c.args.s.now c.run_end-at.result
here c = c.loop-at.invariant ∙ gap-run _ _ ∙ ap (gap_end c.args.s.now) (sym (ran c))

pub returns-then-s-at : goal.returns-then-s-at
returns-then-s-at c =
    let p = (goal.at.returns-then-s-at c).After-run_end-at in
    let e = ran p in
    sym (here p ∙ elim c.then-s-at.branch [
      | then-s-at-via-then-s-at w ↦ gap-past _ _ w.if-s-at.true
      | then-s-at-via-else-s-at+then-s-at-ne35 w ↦ gap_other _ _ w.if-s-at.false (rw e (span-ends is_space c.args.s.now c.loop-at.at (rw e at w.if-s-at.false))) w.if-s-at-ne35.true
    ])

pub loop-at-smaller : goal.loop-at-smaller
loop-at-smaller c =
    let e = ran (goal.at.loop-at-smaller c).After-run_end-at in
    omega (arith, e, span-from is_space c.args.s.now c.loop-at.at, c.line_end-at.ensures, comment-goes c.args.s.now c.run_end-at.result c.if-s-at.false c.if-s-at-ne35.false)

pub loop-at-preserved : goal.loop-at-preserved
loop-at-preserved c = here (goal.at.loop-at-preserved c).After-run_end-at ∙ gap-comment _ _ c.if-s-at.false c.if-s-at-ne35.false ∙ rw c.line_end-at.ensures
