-- `records::write_uncertain`: P, decimal parts and what follows. Assumes nothing.
use Rattle.records.specs.Records.{uncertain_record}
use Rattle.records.proofs.Forms.{place-next, parts_next}
use Rattle.records.proofs.write_uncertain.Goals as goal

pub returns : goal.returns
unfolding uncertain_record
returns c =
    let args = c.args in
    rw (c.put_u32.ensures, c.put_decimal.ensures, c.write_place.ensures, place-next) (parts_next _ args.t args.d _ _)
