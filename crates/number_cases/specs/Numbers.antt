-- WHAT TWO NUMBERS ARE TO EACH OTHER (document 02, Four): the same, and no entry; the old is larger; the new; only the uncertainty differs; rewritten. "Two numbers are equal when their exact decimals are; where they agree but kind or parts differ the tool says rewritten. An uncertainty counts by its exact
-- size, none as 0; where only it differs, neither is larger." Assumes nothing.
use Rattle.std.specs.Prelude.{ℕ, Bool, cond, ◌&&◌, eqb}
use Rattle.std.specs.declared.cmp.Ordering.{Ordering}
use Rattle.std.specs.declared.cmp.Ordering.TheVariants.{Less, Equal, Greater}
use Rattle.entries.specs.declared.Parts.{Parts}
use Rattle.amounts.specs.Exact.{value_order, uncertainty_order}
use Rattle.number_cases.specs.declared.Case.{Case}
use Rattle.number_cases.specs.declared.Case.TheVariants.{Same, OnlyOld, OnlyNew, Different, OldLarger, NewLarger, Uncertainty, Rewritten}

-- the number of a case: 1 and 2 are values that one store alone has, 3 any other difference
unfoldable pub case_number : Case → ℕ
case_number Same = 0
case_number OnlyOld = 1
case_number OnlyNew = 2
case_number Different = 3
case_number OldLarger = 4
case_number NewLarger = 5
case_number Uncertainty = 6
case_number Rewritten = 7

unfoldable pub same_parts : Parts → Parts → Bool
same_parts p q =
    eqb p.sign q.sign
    && (eqb p.integer q.integer
    && (eqb p.fraction q.fraction
    && (eqb p.places q.places && (eqb p.exponent q.exponent && eqb p.uncertainty q.uncertainty))))

-- numbers whose values are equal, by the order of their uncertainties and whether kind and parts are the same
unfoldable pub equal_case : Ordering → Bool → Case
equal_case Less same = Uncertainty
equal_case Greater same = Uncertainty
equal_case Equal same = cond same Same Rewritten

-- numbers by the order of their values; where those are equal, this
unfoldable pub number_case : Ordering → Case → Case
number_case Greater equal = OldLarger
number_case Less equal = NewLarger
number_case Equal equal = equal

unfoldable pub numbers_case : ℕ → ℕ → Parts → Parts → Case
numbers_case k j p q = number_case (value_order p q) (equal_case (uncertainty_order p q) (eqb k j && same_parts p q))
