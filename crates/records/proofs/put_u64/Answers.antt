-- `records::put_u64`: eight bytes at once. Assumes nothing.
use Prim.Native.Nat.{◌+◌}
use mathlib.Core.Path.{sym, ap, ◌∙◌}
use Rattle.records.specs.Bytes.{le64}
use Rattle.records.proofs.Forms.{length-long, long-bytes}
use Rattle.records.proofs.Putting.{put-part}
use Rattle.records.proofs.put_u64.Goals as goal

pub returns : goal.returns
returns c =
    let a = c.args in
    let e = c.copy_from_slice.ensures.after ∙ c.to_le_bytes.ensures ∙ long-bytes a.v in
    rw e (put-part a.at (a.at + 8) (le64 a.v) a.store.now (ap (λ n. a.at + n) (sym (length-long a.v))))
