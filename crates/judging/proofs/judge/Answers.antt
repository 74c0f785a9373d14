-- `judging::judge`: the length first, then what the bytes and the tokens say. Assumes nothing.
use mathlib.Core.Path.{sym, ap, ◌∙◌}
use Rattle.text.specs.Limits.{limit}
use Rattle.deciding.proofs.Told.{outline-long}
use Rattle.decisions.specs.Decisions.{told}
use Rattle.refusals.specs.Answers.{refusal, refusal_report}
use Rattle.judging.specs.Judging.{judgement, judged_as, no_sizes}
use Rattle.judging.proofs.Judgements.{judged-room, judged-fault}
use Rattle.judging.proofs.judge.Goals as goal

pub returns-then-s-gt-LIMIT : goal.returns-then-s-gt-LIMIT
unfolding limit judgement judged_as refusal_report refusal no_sizes
returns-then-s-gt-LIMIT c = rw (outline-long _ _ c.if-s-gt-LIMIT.true)

pub decide_bytes-requires : goal.decide_bytes-requires
decide_bytes-requires c = unfold limit in c.if-s-gt-LIMIT.false

pub returns-in-Ok : goal.returns-in-Ok
returns-in-Ok c = judged-room _ _ _ (ap told (sym c.in-Ok.is) ∙ c.decide_bytes.ensures)

pub returns-in-Err : goal.returns-in-Err
returns-in-Err c = rw c.place_at-place.ensures (judged-fault _ _ _ _ (ap told (sym c.in-Err.is) ∙ c.decide_bytes.ensures))
