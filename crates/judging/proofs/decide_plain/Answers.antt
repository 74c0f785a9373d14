-- `judging::decide_plain`: what the tokens say, or a line that is too long. Assumes nothing.
use mathlib.Core.Path.{◌∙◌}
use Rattle.lines.proofs.Lines.{plain-long, plain-fine}
use Rattle.judging.proofs.Judgements.{screens-fine, screens-long}
use Rattle.judging.proofs.decide_plain.Goals as goal

pub returns-then-fault-s : goal.returns-then-fault-s
returns-then-fault-s c =
    rw c.at-fault.ensures (screens-long _ _ (plain-long _ _ c.short_end.ensures c.requires.plain (rw c.at-fault.ensures at c.if-fault-s.true)))

pub returns : goal.returns
returns c = c.lex_cif.ensures ∙ screens-fine _ (plain-fine _ _ c.short_end.ensures c.requires.plain (rw c.at-fault.ensures at c.if-fault-s.false))
