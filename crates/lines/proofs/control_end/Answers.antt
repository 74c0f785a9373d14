-- `lines::control_end`: behind the bytes that may stand in a text, byte by byte. Assumes nothing.
use Rattle.std.proofs.Common.{sym, ◌∙◌, rules}
use Rattle.text.specs.Runs.{Tells}
use Rattle.lines.specs.Lines.{no_control}
use Rattle.lines.proofs.Lines.{control-skip}
use Rattle.lines.proofs.control_end.Goals as goal

pub returns : goal.returns
unfolding Tells no_control
returns c = c.run_end.ensures no_control (λ b r h. search rules) ∙ sym (control-skip _ _ c.plain_end.ensures)
