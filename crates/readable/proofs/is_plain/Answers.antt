-- `readable::is_plain`: the whole is plain just where what is left is. Assumes nothing.
use mathlib.Core.Path.{refl, sym, ◌∙◌}
use native.Mathlib.Omega.{arith}
use borrow.Author.Tests.{eq-eqb, ne_eqb}
use Rattle.text.specs.Bytes.{is}
use Rattle.quotes.proofs.Content.{plain-go, plain-mark, plain-eol, plain_over}
use Rattle.readable.proofs.is_plain.Goals as goal
use Rattle.readable.proofs.is_plain.Goals.{then-b-mark-via-then-b-mark, then-b-mark-via-else-b-mark+then-is_eol}

pub returns-then-b-mark : goal.returns-then-b-mark
unfolding is
returns-then-b-mark c =
    elim c.then-b-mark.branch [
      | then-b-mark-via-then-b-mark w ↦ sym (c.loop-b.invariant ∙ plain-mark _ _ _ c.loop-b-test.true (eq-eqb _ _ w.if-b-mark.true))
      | then-b-mark-via-else-b-mark+then-is_eol w ↦ sym (c.loop-b.invariant ∙ plain-eol _ _ _ c.loop-b-test.true (ne_eqb _ _ w.if-b-mark.false) (sym w.is_eol.ensures ∙ w.if-is_eol.true))
    ]

pub loop-b-preserved : goal.loop-b-preserved
unfolding is
loop-b-preserved c = c.loop-b.invariant ∙ plain-go _ _ _ c.loop-b-test.true (ne_eqb _ _ c.if-b-mark.false) (sym c.is_eol.ensures ∙ c.if-is_eol.false)

pub returns : goal.returns
returns c = sym (c.loop-b.invariant ∙ plain_over _ _ _ c.loop-b-test.false)
