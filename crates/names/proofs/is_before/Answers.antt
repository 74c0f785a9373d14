-- `names::is_before`: the lengths first, then byte by byte, what is left to compare decides. Assumes nothing.
use Rattle.std.proofs.Common.{sym, ◌∙◌, arith}
use Rattle.names.proofs.Order.{less-size, less-all, less-go, less-stop, less_done}
use Rattle.names.proofs.is_before.Goals as goal

pub returns-then-u-v : goal.returns-then-u-v
returns-then-u-v c = sym (less-size _ _ c.if-u-v.true)

pub loop-i-init : goal.loop-i-init
loop-i-init c = less-all _ _ c.if-u-v.false

pub returns-then-x-y : goal.returns-then-x-y
returns-then-x-y c =
    let first = c.to_lower-x.ensures in
    let second = c.to_lower-y.ensures in
    sym (c.loop-i.invariant ∙ less-stop _ _ _ (omega arith) (omega arith) (λ e. c.if-x-y.true (first ∙ e ∙ sym second)) ∙ rw (first, second))

pub loop-i-preserved : goal.loop-i-preserved
loop-i-preserved c = c.loop-i.invariant ∙ less-go _ _ _ (omega arith) (omega arith) (sym c.to_lower-x.ensures ∙ c.if-x-y.false ∙ c.to_lower-y.ensures)

pub returns : goal.returns
returns c = sym (c.loop-i.invariant ∙ less_done _ _ _ (omega arith) (omega arith))
