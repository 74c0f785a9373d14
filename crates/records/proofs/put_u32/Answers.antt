-- `records::put_u32`: four bytes at once. Assumes nothing.
use Prim.Native.Nat.{◌+◌}
use mathlib.Core.Path.{refl}
use Rattle.records.specs.Bytes.{le32}
use Rattle.records.proofs.Putting.{put-part}
use Rattle.records.proofs.put_u32.Goals as goal

pub returns : goal.returns
unfolding le32
returns c =
    let a = c.args in
    rw (c.copy_from_slice.ensures.after, c.to_le_bytes.ensures) (put-part a.at (a.at + 4) (le32 a.v) a.store.now refl)
