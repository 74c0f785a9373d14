-- The readings by number (document 02, Three): every call names one. Assumes nothing.
use Rattle.std.specs.Prelude.{ℕ, cond, eqb, Option, Some, None}
use Rattle.rules.specs.declared.Reading.{Reading}
use Rattle.rules.specs.declared.Reading.TheVariants.{First, Strict}

-- 1 is document 01's own reading, 2 the strict one
abbrev pub reading_number : Reading → ℕ
reading_number First = 1
reading_number Strict = 2

-- the reading of a number; any other number names none
unfoldable pub named : ℕ → Option Reading
named n = cond (eqb n 1) (Some First) (cond (eqb n 2) (Some Strict) None)
