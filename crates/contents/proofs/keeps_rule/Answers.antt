-- `contents::keeps_rule`: a content is no longer than P's length. Assumes nothing.
use native.Mathlib.Omega.{arith}
use lib.ListN.{drop, length-take}
use Rattle.contents.specs.Contents.{content_length, content_bytes}
use Rattle.contents.proofs.Kept.{content-length}
use Rattle.contents.proofs.keeps_rule.Goals as goal

pub is_readable-requires : goal.is_readable-requires
unfolding content_bytes
is_readable-requires c =
    let given = c.args in
    rw c.content_of.ensures (omega (arith, length-take (content_length given.kind given.fields) (drop given.fields.number given.area.now), content-length given.kind given.fields, c.well_formed))
