-- `cases::do_agree`: texts by their bytes, any others by their kinds. Assumes nothing.
use Rattle.cases.specs.Cases.{agree}
use Rattle.cases.proofs.do_agree.Goals as goal

pub returns-then-are_texts : goal.returns-then-are_texts
unfolding agree
returns-then-are_texts c = rw (← c.are_texts.ensures, c.if-are_texts.true, ← c.text_of-then-are_texts.ensures, ← c.text_of.ensures) c.same_bytes.ensures

pub returns-else-are_texts : goal.returns-else-are_texts
unfolding agree
returns-else-are_texts c = rw (← c.are_texts.ensures, c.if-are_texts.false, ← c.number.ensures, ← c.number-else-are_texts.ensures)
