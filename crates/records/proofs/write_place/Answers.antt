-- `records::write_place`: the kind's byte and P. Assumes nothing.
use Rattle.records.proofs.Forms.{place-front}
use Rattle.records.proofs.write_place.Goals as goal

pub returns : goal.returns
returns c =
    rw (c.put_token.ensures, c.put_u8.ensures) (place-front _ c.args.t _)
