-- A store that may be compared (document 02, Four): its records are nested, it has one block, and neither a tag's name nor a frame's stands twice. Assumes nothing.
use Rattle.std.specs.Prelude.{ℕ, ◌≡◌, true, List}
use Rattle.rules.specs.declared.Reading.{Reading}
use Rattle.entries.specs.Walk.{entries}
use Rattle.nesting.specs.Nesting.{nested}
use Rattle.names.specs.Names.{names}
use Rattle.naming.specs.Names.{fresh, first_repeat}
use Rattle.frames.specs.Frames.{frames, blocks_in}

pub record Singular (st ar : List ℕ) : Type 0 where
  pub reading : Reading
  pub whole : nested reading (entries st) ≡ true
  pub single : blocks_in (entries st) ≡ 1
  pub tags : first_repeat (names st ar) ≡ fresh
  pub opens : first_repeat (frames st ar) ≡ fresh
