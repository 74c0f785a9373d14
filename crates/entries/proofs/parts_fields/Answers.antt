-- `entries::parts_fields`: by its calls. Assumes nothing.
use lib.Seq.{drop-drop}
use Rattle.entries.specs.Entries.{parts_fields}
use Rattle.entries.proofs.parts_fields.Goals as goal

pub returns : goal.returns
unfolding parts_fields
returns c = rw (c.token_at.ensures, c.parts_at.ensures, drop-drop)
