-- `comparing::judge`: several blocks first, then what stands twice. Assumes nothing.
use mathlib.Core.Path.{sym, ◌∙◌}
use Rattle.comparing.proofs.Answers.{judged-several, judged-single}
use Rattle.comparing.proofs.judge.Goals as goal

pub returns-then-not-is_single : goal.returns-then-not-is_single
returns-then-not-is_single c = judged-several _ _ _ (sym c.is_single.ensures ∙ c.if-not-is_single.true)

pub returns : goal.returns
returns c = c.earlier_of.ensures ∙ rw (c.check_names-tags.ensures, c.check_frames.ensures) (judged-single _ _ _ (sym c.is_single.ensures ∙ c.if-not-is_single.false))
