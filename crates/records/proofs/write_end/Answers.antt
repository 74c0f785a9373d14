-- `records::write_end`: one byte. Assumes nothing.
use mathlib.Core.Path.{◌∙◌}
use Rattle.records.specs.Records.{end_record}
use Rattle.records.proofs.Putting.{put-zero}
use Rattle.records.proofs.write_end.Goals as goal

pub returns : goal.returns
unfolding end_record
returns c = c.put_u8.ensures ∙ put-zero _ _
