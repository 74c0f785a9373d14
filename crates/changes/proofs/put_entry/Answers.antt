-- `changes::put_entry`: field by field. Assumes nothing.
use Rattle.changes.proofs.Changes.{entry-put}
use Rattle.changes.proofs.put_entry.Goals as goal

pub returns : goal.returns
returns c = rw (c.put_u64-2.ensures, c.put_u64.ensures, c.put_u8.ensures, c.number.ensures) (entry-put c.args.at c.args.change _ c.requires)
