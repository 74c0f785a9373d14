-- What the parts of Compare answer. Assumes nothing.
use Rattle.std.specs.Prelude.{ℕ, ◌≡◌, cond, List, ltb, length, Result, Ok, Err}
use Rattle.naming.specs.declared.NameError.{NameError}
use Rattle.naming.specs.declared.NameError.TheVariants.{NotSound, Repeated}
use Rattle.comparing.specs.declared.CompareError.{CompareError}
use Rattle.comparing.specs.declared.CompareError.TheVariants.{NotSound as Unsound, Repeated as Twice}
use Rattle.comparing.specs.Comparing.{bytes_of, fitted, list_after}

-- what is wrong with the names, as Compare says it
unfoldable pub of_names : NameError → CompareError
of_names NotSound = Unsound
of_names (Repeated i j) = Twice i j

-- the earlier of what two searches of one store found
unfoldable pub earlier_of : Result Unit NameError → Result Unit NameError → Result Unit NameError
earlier_of (Err NotSound) n = Err NotSound
earlier_of (Ok u) n = n
earlier_of (Err (Repeated i j)) (Err NotSound) = Err NotSound
earlier_of (Err (Repeated i j)) (Ok u) = Err (Repeated i j)
earlier_of (Err (Repeated i j)) (Err (Repeated k l)) = cond (ltb l j) (Err (Repeated k l)) (Err (Repeated i j))

-- the list of two stores that may be compared
pub record Writes (st ar st' ar' l : List ℕ) (answer : Result ℕ CompareError) (l' : List ℕ) : Type 0 where
  pub answers : answer ≡ fitted (length (bytes_of st ar st' ar')) (length l)
  pub list : l' ≡ list_after answer (bytes_of st ar st' ar') l
