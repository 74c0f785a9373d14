-- NAME CHECK (document 01): within one scope (a block's own tags, or one frame's) no two names of kinds 4 and 6 are the same, which they are once A to Z is taken
-- as a to z (document 02, Two). 13 gives the number of the first record of that name, then of the earliest record that repeats one. Records count from 0 over the
-- whole store. Assumes nothing.
use Rattle.std.specs.Prelude.{ℕ, cond, List, [], ◌∷◌, ◌++◌, Result, Ok, Err}
use Rattle.std.proofs.Math.Option.{Option, none, some}
use Rattle.rules.specs.declared.Reading.{Reading}
use Rattle.places.specs.declared.Report.{Report}
use Rattle.places.specs.Reports.{success, refused_bare, of_records}
use Rattle.stores.specs.Soundness.{sound}
use Rattle.names.specs.Names.{Name, names, same_both}
use Rattle.naming.specs.declared.NameError.{NameError}
use Rattle.naming.specs.declared.NameError.TheVariants.{NotSound, Repeated}

-- the first of the names that is the same as x
unfoldable pub first_same : List Name → Name → Option ℕ
first_same [] x = none
first_same (y ∷ ys) x = let more = first_same ys x in cond (same_both y x) (some y.number) more

-- the earliest name that repeats one of those before it: both record numbers
pub data Repeat : Type 0 where
  fresh : Repeat
  repeats : (first again : ℕ) → Repeat

unfoldable pub repeat_or : Option ℕ → ℕ → Repeat → Repeat
repeat_or (some i) j rest = repeats i j
repeat_or none j rest = rest

-- `before` are the names already passed, in order
unfoldable pub repeat_from : List Name → List Name → Repeat
repeat_from before [] = fresh
repeat_from before (x ∷ xs) = repeat_or (first_same before x) x.number (repeat_from (before ++ (x ∷ [])) xs)

unfoldable pub first_repeat : List Name → Repeat
first_repeat xs = repeat_from [] xs

unfoldable pub naming_of : Repeat → Result Unit NameError
naming_of fresh = Ok tt
naming_of (repeats i j) = Err (Repeated i j)

-- NAME CHECK: 12, 13
unfoldable pub name_check : Reading → List ℕ → List ℕ → Result Unit NameError
name_check r st ar = cond (sound r st ar) (naming_of (first_repeat (names st ar))) (Err NotSound)

unfoldable pub naming_report : Result Unit NameError → Report
naming_report (Ok u) = success 0 0
naming_report (Err NotSound) = refused_bare 12
naming_report (Err (Repeated i j)) = of_records 13 i j
