-- What a writer has on its desk, and what it keeps of what it was given. Assumes nothing.
use Rattle.std.specs.Prelude.{◌≡◌}
use Rattle.desk.specs.declared.Cursor.{Cursor}
use Rattle.desk.specs.declared.Writer.{Writer}
use Rattle.desk.specs.Desk.{Desk}

-- where writing stands, and the bytes that are lent to the writer
abbrev pub desk_of : Writer → Cursor → Desk
desk_of w c = record { cursor = c; store = w.store.now; area = w.area.now }

-- it writes the same text by the same reading, to the same store and area
pub record Same (v w : Writer) : Type 0 where
  pub reading : w.reading ≡ v.reading
  pub text : w.text ≡ v.text
  pub full : w.full ≡ v.full
  pub store : w.store.ghost_name ≡ v.store.ghost_name
  pub area : w.area.ghost_name ≡ v.area.ghost_name
