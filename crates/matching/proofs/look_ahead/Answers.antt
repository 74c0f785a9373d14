-- `matching::look_ahead`: what is found from any spot that is reached is the partner; from the first record on nothing is left out. Assumes nothing.
use Rattle.cells.proofs.Cells.{placed_first}
use Rattle.matching.proofs.Matching.{finds-at, finds-first, searched-at}
use Rattle.matching.proofs.look_ahead.Goals as goal

pub search-requires-in-None : goal.search-requires-in-None
search-requires-in-None c = (c.requires.0, rw c.start.ensures (placed_first _))

pub returns-in-Some : goal.returns-in-Some
returns-in-Some c =
    let p = c.requires in
    rw c.told.ensures (finds-at _ _ _ _ _ p.1 _ _ _ p.2 (searched-at _ _ _ _ _ _ _ _ c.search.ensures c.in-Some.is))

pub returns-in-None : goal.returns-in-None
returns-in-None c =
    let p = c.requires in
    rw c.told-in-None.ensures (finds-first _ _ _ _ _ p.1 _ p.2 _ c.start.ensures _ c.search-in-None.ensures)
