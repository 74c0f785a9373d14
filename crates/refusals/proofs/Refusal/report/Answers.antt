-- `refusals::Refusal::report`: 1 alone, or the cause's number and detail at its place. Assumes nothing.
use Rattle.refusals.specs.Answers.{refusal_report}
use Rattle.refusals.proofs.Refusal.report.Goals as goal

pub returns-in-TooLong : goal.returns-in-TooLong
unfolding refusal_report
returns-in-TooLong c = rw (c.bare.ensures, c.in-TooLong.is)

pub returns-in-At : goal.returns-in-At
unfolding refusal_report
returns-in-At c = rw (c.at.ensures, c.detail.ensures, c.number.ensures, c.in-At.is)
