-- Windows: the names of one scope s from a spot on go into a table, those of one window at a time, and no name behind a window is the same as one in it. Assumes
-- nothing.
use Rattle.names.specs.Names.{names}
use Rattle.steps.specs.declared.Spot.{Spot}
use Rattle.tables.specs.declared.Scope.{Scope}
use Rattle.tables.specs.Tables.{Apart, Walked}
use Rattle.windows.specs.declared.Reach.{Reach}

-- a window: its own names are other than all behind them
pub record Windowed (w : Scope) (from : Spot) (r : Reach) : Type 0 where
  pub own : Walked w.store.now w.area.now r.end.count from r.own
  pub walked : Walked w.store.now w.area.now w.end from r.end
  pub apart : Apart (names w.store.now w.area.now) w.number from.count r.own.count r.end.count

-- all windows: the names of the scope from a spot to another are other than each other
pub record Ran (w : Scope) (from r : Spot) : Type 0 where
  pub walked : Walked w.store.now w.area.now w.end from r
  pub apart : Apart (names w.store.now w.area.now) w.number from.count r.count r.count
