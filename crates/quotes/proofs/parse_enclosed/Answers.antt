-- `quotes::parse_enclosed`: over the bytes that may stand in quotes, to the mark. Assumes nothing.
use Rattle.std.proofs.Common.{◌≡◌, sym, rules}
use Rattle.text.specs.Bytes.{is}
use Rattle.text.specs.Runs.{span_end, Tells}
use Rattle.text.specs.Blocks.{clear}
use Rattle.quotes.specs.Content.{in_quotes}
use Rattle.quotes.proofs.Quotes.{clear-in-quotes, run-mark, run-other, run-over}
use Rattle.quotes.proofs.parse_enclosed.Goals as goal
use Rattle.quotes.proofs.parse_enclosed.Goals.{else-end-s-via-then-end-s+else-s-end, else-end-s-via-else-end-s, After-long_run_end-end}

ended : (c : After-long_run_end-end) → c.long_run_end-end.result ≡ span_end (in_quotes c.args.mark) c.args.s.now c.args.from
unfolding Tells in_quotes is
ended c = c.long_run_end-end.ensures (clear 14 c.args.mark) (in_quotes c.args.mark) (λ b r h. search rules) (λ b r h. search rules) (clear-in-quotes c.args.mark)

pub returns-then-s-end : goal.returns-then-s-end
returns-then-s-end c = sym (run-mark _ _ _ _ (ended (goal.at.returns-then-s-end c).After-long_run_end-end) c.if-end-s.true c.if-s-end.true)

pub returns-else-end-s : goal.returns-else-end-s
returns-else-end-s c = sym (elim c.else-end-s.branch [
  | else-end-s-via-then-end-s+else-s-end w ↦ run-other _ _ _ _ (ended (goal.at.returns-else-end-s c).After-long_run_end-end) w.if-end-s.true w.if-s-end.false
  | else-end-s-via-else-end-s w ↦ run-over _ _ _ _ (ended (goal.at.returns-else-end-s c).After-long_run_end-end) w.if-end-s.false
])
