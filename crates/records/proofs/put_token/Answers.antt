-- `records::put_token`: four numbers, one after the other. Assumes nothing.
use Rattle.records.proofs.Forms.{token-put}
use Rattle.records.proofs.put_token.Goals as goal

pub returns : goal.returns
returns c =
    rw (c.put_u32-4.ensures, c.put_u32-3.ensures, c.put_u32-2.ensures, c.put_u32.ensures) (token-put c.args.at c.args.t _ c.requires)
