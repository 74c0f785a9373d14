-- `places::place_at`: from the start on, and behind the end the end's line and column. Assumes nothing.
use native.Mathlib.Omega.{arith}
use Rattle.places.proofs.Places.{is-start, place-past}
use Rattle.places.proofs.place_at.Goals as goal

pub advance-requires : goal.advance-requires
advance-requires c = (is-start _, omega arith, c.if-to-s.true)

pub advance-end-requires : goal.advance-end-requires
advance-end-requires c = (is-start _, omega arith, omega arith)

pub returns : goal.returns
returns c = place-past _ _ _ (omega arith) c.advance-end.ensures
