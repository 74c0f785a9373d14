-- `quotes::ends_here`: at the text's end, or by the byte. Assumes nothing.
use lib.ListN.{drop_of_length-le}
use lib.Seq.{drop-cons}
use borrow.Author.Tests.{le-leb}
use Rattle.quotes.specs.Quotes.{ends_here}
use Rattle.quotes.proofs.ends_here.Goals as goal

pub returns-then-s-at : goal.returns-then-s-at
unfolding ends_here
returns-then-s-at c = rw (drop_of_length-le c.args.s.now c.if-s-at.true, le-leb _ _ c.if-s-at.true)

pub returns-else-s-at : goal.returns-else-s-at
unfolding ends_here
returns-else-s-at c = rw (drop-cons c.args.s.now c.args.at 0 c.if-s-at.false) c.is_space.ensures
