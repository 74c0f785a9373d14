-- Which stores may be compared: a sound one with one block, in which no name stands twice. Assumes nothing.
use Prim.Native.Nat.{ℕ}
use mathlib.Core.Path.{◌≡◌}
use mathlib.Core.Bool.{true}
use mathlib.Core.List.{List}
use borrow.Author.Tests.{eqb-true}
use Rattle.text.proofs.Bools.{and_l}
use Rattle.rules.specs.declared.Reading.{Reading}
use Rattle.entries.specs.Walk.{entries}
use Rattle.nesting.specs.Nesting.{nested}
use Rattle.stores.specs.Soundness.{sound}
use Rattle.names.specs.Names.{names}
use Rattle.naming.specs.Names.{fresh, first_repeat}
use Rattle.frames.specs.Frames.{frames, blocks_in, is_single}
use Rattle.soles.specs.Singular.{Singular}

pub singular : (r : Reading) (st ar : List ℕ) → sound r st ar ≡ true → is_single st ≡ true → first_repeat (names st ar) ≡ fresh → first_repeat (frames st ar) ≡ fresh → Singular st ar
unfolding sound is_single
singular r st ar s e t o = record { reading = r; whole = and_l (nested r (entries st)) _ s; single = eqb-true (blocks_in (entries st)) 1 e; tags = t; opens = o }
