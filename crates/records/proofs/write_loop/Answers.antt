-- `records::write_loop`: as a content record. Assumes nothing.
use Rattle.records.specs.Records.{loop_record, content_record}
use Rattle.records.proofs.write_loop.Goals as goal

pub returns : goal.returns
unfolding loop_record content_record
returns c = c.write_content.ensures
