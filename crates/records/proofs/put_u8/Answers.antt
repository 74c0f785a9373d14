-- `records::put_u8`: one store. Assumes nothing.
use Rattle.records.proofs.Putting.{set-put}
use Rattle.records.proofs.put_u8.Goals as goal

pub returns : goal.returns
returns c = set-put _ _ _ c.requires
