-- Laws of windows: one window, and one after the other. Assumes nothing.
use Prim.Native.Nat.{ℕ, ◌≤◌}
use mathlib.Core.Bool.{Bool}
use native.Mathlib.Omega.{arith}
use Rattle.names.specs.Names.{Name, names}
use Rattle.steps.specs.declared.Spot.{Spot}
use Rattle.tables.specs.declared.Scope.{Scope}
use Rattle.tables.specs.Tables.{Apart, Starts, Walked, Owned, Passed}
use Rattle.tables.proofs.Tables.{Respects, apart-first, apart-join, apart-less, apart-all, apart-two, walked-first}
use Rattle.windows.specs.declared.Reach.{Reach}
use Rattle.windows.specs.Windows.{Windowed, Ran}

-- a window: what the table does not know is none of its names
pub windowed : (w : Scope) (met : Name → Bool) (from own last : Spot) → Respects met → Owned w met from own → Passed w met own last → Windowed w from (record { own = own; end = last })
windowed w met from own last k o p =
    record {
      own = record { reached = o.walked.reached; onwards = o.walked.onwards; within = p.walked.onwards };
      walked = record { reached = p.walked.reached; onwards = omega (arith, o.walked.onwards, p.walked.onwards); within = p.walked.within };
      apart = apart-join (names w.store.now w.area.now) w.number from.count own.count last.count met k o.apart o.all p.none;
    }

-- the windows so far
module _ (w : Scope) (from : Spot) where
  pub record Comparing (stop : ℕ) (here : Spot) : Type 0 where
    pub walked : Walked w.store.now w.area.now stop from here
    pub within : stop ≤ w.end
    pub apart : Apart (names w.store.now w.area.now) w.number from.count here.count stop

  pub comparing-first : Starts w from → Comparing w.end from
  comparing-first r =
      record { walked = walked-first w.store.now w.area.now w.end from r.0 r.1; within = omega arith; apart = apart-first (names w.store.now w.area.now) w.number from.count w.end }

  -- all are compared
  pub compared : (stop : ℕ) (here : Spot) (r : Reach) → Comparing stop here → Windowed (record w { end = stop }) here r → r.end.count ≤ r.own.count → Ran w from r.end
  compared stop here r c v l =
      record {
        walked = record { reached = v.walked.reached; onwards = omega (arith, c.walked.onwards, v.walked.onwards); within = omega (arith, v.walked.within, c.within) };
        apart =
            apart-all (names w.store.now w.area.now) w.number from.count r.own.count r.end.count l
            (apart-two (names w.store.now w.area.now) w.number from.count here.count r.own.count r.end.count stop v.walked.within c.apart v.apart);
      }

  -- those up to here are
  pub compared-here : (stop : ℕ) (here : Spot) → Comparing stop here → Ran w from here
  compared-here stop here c =
      record {
        walked = record { reached = c.walked.reached; onwards = c.walked.onwards; within = omega (arith, c.walked.within, c.within) };
        apart = apart-less (names w.store.now w.area.now) w.number from.count here.count here.count stop here.count (omega arith) c.walked.within c.apart;
      }

  -- one window more
  pub comparing-next : (stop : ℕ) (here : Spot) (r : Reach) → Comparing stop here → Windowed (record w { end = stop }) here r → Comparing r.end.count r.own
  comparing-next stop here r c v =
      record {
        walked = record { reached = v.own.reached; onwards = omega (arith, c.walked.onwards, v.own.onwards); within = v.own.within };
        within = omega (arith, v.walked.within, c.within);
        apart = apart-two (names w.store.now w.area.now) w.number from.count here.count r.own.count r.end.count stop v.walked.within c.apart v.apart;
      }
