-- How the name check goes by scopes: a block's own names are compared with each other, and so are those of each of its frames, which stand together. Assumes nothing.
use Rattle.std.specs.Prelude.{ℕ, ◌≤◌, ◌<◌, ◌≡◌, false, List, ◌∷◌, drop}
use Rattle.steps.specs.declared.Spot.{Spot}
use Rattle.names.specs.Names.{Name, names, same_both}
use Rattle.steps.specs.Steps.{Reached}
use Rattle.tables.specs.Tables.{Apart}
use Rattle.scopes.specs.declared.Blocked.{Blocked}

-- the names from b to e - 1 are of this scope
unfoldable pub OfScope : List Name → ℕ → ℕ → ℕ → Type 0
OfScope xs s b e = (j : ℕ) (y : Name) (q : List Name) → b ≤ j → j < e → drop j xs ≡ y ∷ q → y.scope ≡ s

-- their scopes are no lower than one, and no higher than another
unfoldable pub Between : List Name → ℕ → ℕ → ℕ → ℕ → Type 0
Between xs low high b e = (j : ℕ) (y : Name) (q : List Name) → b ≤ j → j < e → drop j xs ≡ y ∷ q → (low ≤ y.scope) × (y.scope ≤ high)

-- names of one scope that stand together
pub record Stretch (st ar : List ℕ) (s : ℕ) (from r : Spot) : Type 0 where
  pub reached : Reached st ar r
  pub onwards : from.count ≤ r.count
  pub all : OfScope (names st ar) s from.count r.count

-- those of a frame, each other than the rest
pub record Framed (st ar : List ℕ) (s : ℕ) (from r : Spot) : Type 0 where
  pub stretch : Stretch st ar s from r
  pub apart : Apart (names st ar) s from.count r.count r.count

-- of the names from b to e - 1, those that are not of the block's own scope s are the same as none behind them
unfoldable pub FramesApart : List Name → ℕ → ℕ → ℕ → Type 0
FramesApart xs s b e =
    (i j : ℕ) (x y : Name) (p q : List Name) → b ≤ i → i < j → j < e → drop i xs ≡ x ∷ p → drop j xs ≡ y ∷ q → (x.scope ≡ s → ⊥) → same_both x y ≡ false

-- the names of a block, whose scope is the lowest of theirs, from a spot on: its frames' are other than each other
pub record Frames (st ar : List ℕ) (s : ℕ) (from : Spot) (r : Blocked) : Type 0 where
  pub reached : Reached st ar r.end
  pub onwards : from.count ≤ r.end.count
  pub between : Between (names st ar) s r.top from.count r.end.count
  pub above : s ≤ r.top
  pub apart : FramesApart (names st ar) s from.count r.end.count

-- no name before a spot is the same as one before it
unfoldable pub AllApart : List Name → ℕ → Type 0
AllApart xs e = (i j : ℕ) (x y : Name) (p q : List Name) → i < j → j < e → drop i xs ≡ x ∷ p → drop j xs ≡ y ∷ q → same_both x y ≡ false

pub record Fresh (st ar : List ℕ) (r : Spot) : Type 0 where
  pub reached : Reached st ar r
  pub apart : AllApart (names st ar) r.count
