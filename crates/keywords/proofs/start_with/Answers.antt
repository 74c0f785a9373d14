-- `keywords::start_with`: letter by letter. Assumes nothing.
use Rattle.std.proofs.Common.{length, sym, ap, ◌∙◌, arith}
use Rattle.keywords.proofs.Keywords.{rest_all, rest-go, rest-no, rest-done, starts-short}
use Rattle.keywords.proofs.Starts.{starts-at}
use Rattle.keywords.proofs.start_with.Goals as goal

pub returns-then-rest-key : goal.returns-then-rest-key
returns-then-rest-key c = rw starts-at (sym (starts-short _ _ (omega (arith, ap length c.rest-rest.ensures))))

pub loop-i-init : goal.loop-i-init
loop-i-init c = rw c.rest-rest.ensures (rest_all _ _ _)

pub returns-then-to_lower-c : goal.returns-then-to_lower-c
returns-then-to_lower-c c = sym (c.loop-i.invariant ∙ rest-no _ _ _ c.loop-i-test.true (omega arith) (λ e. c.if-to_lower-c.true (c.to_lower.ensures ∙ e)))

pub loop-i-preserved : goal.loop-i-preserved
loop-i-preserved c = c.loop-i.invariant ∙ rest-go _ _ _ c.loop-i-test.true (omega arith) (sym c.to_lower.ensures ∙ c.if-to_lower-c.false)

pub returns : goal.returns
returns c = sym (c.loop-i.invariant ∙ rest-done _ _ _ c.loop-i-test.false)
