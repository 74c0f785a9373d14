-- `records::write_number`: P and what follows. Assumes nothing.
use Rattle.records.specs.Records.{number_record}
use Rattle.records.proofs.Forms.{place-next}
use Rattle.records.proofs.write_number.Goals as goal

pub returns : goal.returns
unfolding number_record
returns c =
    rw (c.put_decimal.ensures, c.write_place.ensures) (place-next _ c.args.t _ _)
