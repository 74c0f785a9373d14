-- `records::put_decimal`: part by part. Assumes nothing.
use mathlib.Core.Path.{◌≡◌, ◌∙◌}
use Rattle.records.specs.Bytes.{flag}
use Rattle.records.proofs.Forms.{decimal-put, flag-byte}
use Rattle.records.proofs.put_decimal.Goals as goal

pub returns : goal.returns
returns c =
    let f : c.from.result ≡ flag c.args.d.minus = c.from.ensures ∙ flag-byte c.args.d.minus in
    rw (
      c.put_u32-2.ensures,
      c.signed.ensures,
      c.put_u8-2.ensures,
      c.put_u64.ensures,
      c.put_u32.ensures,
      c.put_u8.ensures,
      f,
    )
    (decimal-put c.args.at c.args.d _ c.requires.0)
