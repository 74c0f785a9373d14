-- Tables: names of one scope s from the b-th name on go into a table, and each name behind them is asked for there. A table answers for names that are the same
-- alike, so a name that it does not know is none of those that it does. Assumes nothing.
use Rattle.std.specs.Prelude.{ℕ, ◌+◌, ◌≤◌, ◌<◌, ◌≡◌, Bool, true, false, cond, List, ◌∷◌, Option, Some, None, is_some, eqb, leb, drop}
use Rattle.slots.specs.Slots.{known}
use Rattle.steps.specs.declared.Spot.{Spot}
use Rattle.names.specs.Names.{Name, names, same_both}
use Rattle.names.specs.Numbers.{hash_of}
use Rattle.steps.specs.Steps.{Reached}
use Rattle.sorted.specs.Found.{find_in}
use Rattle.tables.specs.declared.Scope.{Scope}
use Rattle.tables.specs.declared.Table.{Table}
use Rattle.tables.specs.declared.Table.TheVariants.{Marks, Sorted}

-- a name of the scope may be in the table; no other is looked for
unfoldable pub marked_with : List ℕ → Bool → ℕ → Name → Bool
marked_with t many s x = cond (eqb x.scope s) (known t many (hash_of x)) false

unfoldable pub found_by : Scope → List ℕ → Name → Bool
found_by w t x = cond (eqb x.scope w.number) (is_some (find_in w.store.now w.area.now t x.bytes)) false

abbrev pub met_by : Scope → Table → Name → Bool
met_by w (Marks t many) x = marked_with t.now many w.number x
met_by w (Sorted t) x = found_by w t.now x

-- a name is entered: what was known stays known, and where the answer is false, it was not known before, and is known then
pub record Entering (t : List ℕ) (many : Bool) (s : ℕ) (x : Name) (r : Bool) (u : List ℕ) : Type 0 where
  pub keeps : (y : Name) → marked_with t many s y ≡ true → marked_with u many s y ≡ true
  pub new : r ≡ false → marked_with t many s x ≡ false
  pub there : r ≡ false → x.scope ≡ s → marked_with u many s x ≡ true

-- behind an offset where a name is found, unless that is before another
unfoldable pub past : ℕ → Option ℕ → Option ℕ
past last None = None
past last (Some at) = cond (leb last at) (Some (at + 1)) None

-- where names of the scope may be found behind a name x, which itself may be found from `last` on
unfoldable pub last_after : Scope → List ℕ → ℕ → Name → Option ℕ
last_after w t last x = cond (eqb x.scope w.number) (past last (find_in w.store.now w.area.now t x.bytes)) (Some last)

-- the names of the scope among those from b to m - 1 are the same as none that stands behind them before e
unfoldable pub Apart : List Name → ℕ → ℕ → ℕ → ℕ → Type 0
Apart xs s b m e =
    (i j : ℕ) (x y : Name) (p q : List Name) → b ≤ i → i < m → i < j → j < e → drop i xs ≡ x ∷ p → drop j xs ≡ y ∷ q → x.scope ≡ s → same_both x y ≡ false

-- they are met
unfoldable pub AllMet : List Name → ℕ → (Name → Bool) → ℕ → ℕ → Type 0
AllMet xs s met b m = (i : ℕ) (x : Name) (p : List Name) → b ≤ i → i < m → drop i xs ≡ x ∷ p → x.scope ≡ s → met x ≡ true

-- none from b to e - 1 is met
unfoldable pub NoneMet : List Name → (Name → Bool) → ℕ → ℕ → Type 0
NoneMet xs met b e = (j : ℕ) (y : Name) (q : List Name) → b ≤ j → j < e → drop j xs ≡ y ∷ q → met y ≡ false

-- a spot from which the names of a scope are walked over
abbrev pub Starts : Scope → Spot → Type 0
Starts w from = Reached w.store.now w.area.now from × (from.count ≤ w.end)

-- a walk from one spot to another that is not behind so many names
pub record Walked (st ar : List ℕ) (end : ℕ) (from r : Spot) : Type 0 where
  pub reached : Reached st ar r
  pub onwards : from.count ≤ r.count
  pub within : r.count ≤ end

-- the window's own names: in the table, and each other than the rest
pub record Owned (w : Scope) (met : Name → Bool) (from r : Spot) : Type 0 where
  pub walked : Walked w.store.now w.area.now w.end from r
  pub all : AllMet (names w.store.now w.area.now) w.number met from.count r.count
  pub apart : Apart (names w.store.now w.area.now) w.number from.count r.count r.count

-- names that the table does not know
pub record Passed (w : Scope) (met : Name → Bool) (from r : Spot) : Type 0 where
  pub walked : Walked w.store.now w.area.now w.end from r
  pub none : NoneMet (names w.store.now w.area.now) met from.count r.count
