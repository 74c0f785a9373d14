-- What a step of writing leaves, and which decimals are short enough to be written. Assumes nothing.
use Rattle.std.specs.Prelude.{ℕ, ◌+◌, ◌≤◌, ◌<◌, ◌^◌, ◌≡◌, List, length}
use Rattle.numbers.specs.declared.Decimal.{Decimal}
use Rattle.records.specs.Put.{put}

-- the bytes vs are written over l from at on, which gives m, and r is behind them
pub record Wrote (at : ℕ) (vs l m : List ℕ) (r : ℕ) : Type 0 where
  pub bytes : m ≡ put at vs l
  pub next : r ≡ at + length vs

-- the digits that a decimal has, so few that they can be written
pub record Short (d : Decimal) : Type 0 where
  pub integer : d.integer < 10 ^ 9
  pub places : d.places ≤ 18
  pub exponent : d.exponent < 10 ^ 9
  pub uncertainty : d.uncertainty < 10 ^ 9
