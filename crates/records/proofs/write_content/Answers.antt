-- `records::write_content`: P and what follows. Assumes nothing.
use Rattle.records.specs.Records.{content_record}
use Rattle.records.proofs.Forms.{place-next}
use Rattle.records.proofs.write_content.Goals as goal

pub returns : goal.returns
unfolding content_record
returns c =
    rw (c.put_u32.ensures, c.write_place.ensures) (place-next _ c.args.t _ _)
