-- `quotes::parse_quoted`: from mark to mark, to one that closes. Assumes nothing.
use Rattle.std.proofs.Common.{refl, sym, ◌∙◌, arith}
use Rattle.quotes.proofs.Strict.{quoted-none, mark-lies, quoted-here, quoted-on}
use Rattle.quotes.proofs.parse_quoted.Goals as goal

pub loop-end-init : goal.loop-end-init
loop-end-init c = refl

pub returns-in_err-end : goal.returns-in_err-end
returns-in_err-end c = c.from_residual.ensures ∙ sym (c.loop-end.invariant ∙ quoted-none _ _ c.requires _ _ (sym c.parse_enclosed.ensures ∙ c.in_err-end.was))

pub returns-then-closes : goal.returns-then-closes
returns-then-closes c = sym (c.loop-end.invariant ∙ quoted-here _ _ c.requires _ _ _ (sym c.parse_enclosed.ensures ∙ c.in_ok-end.was) (sym c.closes.ensures ∙ c.if-closes.true))

pub loop-end-smaller : goal.loop-end-smaller
loop-end-smaller c =
    let l = mark-lies _ c.requires _ _ _ (sym c.parse_enclosed.ensures ∙ c.in_ok-end.was) in
    omega (arith, l.0, l.1)

pub loop-end-preserved : goal.loop-end-preserved
loop-end-preserved c = c.loop-end.invariant ∙ quoted-on _ _ c.requires _ _ _ (sym c.parse_enclosed.ensures ∙ c.in_ok-end.was) (sym c.closes.ensures ∙ c.if-closes.false)
