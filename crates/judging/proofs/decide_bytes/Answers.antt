-- `judging::decide_bytes`: a byte of 128 or more, or what the others and the tokens say. Assumes nothing.
use Rattle.deciding.proofs.Told.{outline-foreign, outline-checked}
use Rattle.decisions.specs.Decisions.{told, tells}
use Rattle.judging.proofs.Judgements.{plain-all, plain-none}
use Rattle.judging.proofs.decide_bytes.Goals as goal

pub decide_plain-requires-clause-plain : goal.decide_plain-requires-clause-plain
decide_plain-requires-clause-plain c = plain-none _ (rw c.plain_end.ensures at c.if-s-plain_end.true)

pub returns-then-s-plain_end : goal.returns-then-s-plain_end
returns-then-s-plain_end c =
    let plain = rw c.plain_end.ensures at c.if-s-plain_end.true in
    rw (c.in-Strict.is, outline-checked _ _ c.requires (plain-all _ plain)) c.decide_plain.ensures

pub returns-then-ascii-s : goal.returns-then-ascii-s
unfolding told tells
returns-then-ascii-s c =
    let e = c.ascii_end-ascii.ensures in
    rw (outline-foreign _ _ c.requires (rw e at c.if-ascii-s.true), c.at.ensures, e)

pub returns : goal.returns
returns c =
    let e = c.ascii_end-ascii.ensures in
    rw (outline-checked _ _ c.requires (rw e at c.if-ascii-s.false)) c.decide.ensures
