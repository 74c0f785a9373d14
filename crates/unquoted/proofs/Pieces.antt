-- What a number found says. Assumes nothing.
use Prim.Native.Nat.{ℕ, ◌-◌}
use mathlib.Core.Path.{◌≡◌}
use mathlib.Core.List.{List}
use lib.ListN.{take, drop}
use Rattle.rules.specs.declared.Reading.{Reading}
use Rattle.numbers.specs.Meaning.{number_of}
use Rattle.numbers.specs.declared.Decimal.{Decimal}
use Rattle.numbers.specs.declared.Number.{Number}
use Rattle.numbers.specs.declared.Number.TheVariants.{Not, Is, Over as Long}
use Rattle.found.specs.declared.Found.{Found}
use Rattle.found.specs.declared.Found.TheVariants.{Value, Over}
use Rattle.unquoted.specs.Pieces.{kind_of_number, judged_or, number_at}

module _ (r : Reading) (other : Found) (s : List ℕ) (o e : ℕ) (j : Number) (q : j ≡ number_of r (take (e - o) (drop o s))) where
  pub number_is : (d : Decimal) → j ≡ Is d → Value (kind_of_number d) (e - o) ≡ number_at r other s o e
  unfolding number_at judged_or
  number_is d p = rw (← q, p)

  pub number-over : j ≡ Long → Over ≡ number_at r other s o e
  unfolding number_at judged_or
  number-over p = rw (← q, p)

  pub number-not : j ≡ Not → other ≡ number_at r other s o e
  unfolding number_at judged_or
  number-not p = rw (← q, p)
