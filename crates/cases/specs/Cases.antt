-- WHAT TWO VALUES ARE TO EACH OTHER (document 02, Four): the same, and no entry; different; or a case of two numbers (specs/Numbers.antt of number_cases).
-- "Texts are equal when they are without marks." Any other two are the same where both are `.` or both `?`.
-- Assumes nothing.
use Rattle.std.specs.Prelude.{ℕ, ◌≡◌, Bool, true, cond, ◌&&◌, ◌||◌, List, eqb, leb, drop, Option, Some, None}
use Rattle.folding.specs.Folding.{equal_bytes}
use Rattle.kinds.specs.Kinds.{number_of}
use Rattle.entries.specs.declared.Entry.{Entry}
use Rattle.contents.specs.Contents.{content_bytes}
use Rattle.amounts.specs.Exact.{Kept}
use Rattle.number_cases.specs.declared.Case.{Case}
use Rattle.number_cases.specs.declared.Case.TheVariants.{Same, Different}
use Rattle.number_cases.specs.Numbers.{numbers_case}

-- numbers are kinds 14 and 15; texts 10 to 13, and 21
unfoldable pub is_number : ℕ → Bool
is_number k = eqb k 14 || eqb k 15

unfoldable pub is_text : ℕ → Bool
is_text k = (leb 10 k && leb k 13) || eqb k 21

-- a content without marks: kind 21 keeps the one that opens it
unfoldable pub unmarked : ℕ → List ℕ → List ℕ
unmarked k c = cond (eqb k 21) (drop 1 c) c

-- whether values that are not both numbers are the same
unfoldable pub agree : ℕ → ℕ → List ℕ → List ℕ → Bool
agree k j c d = cond (is_text k && is_text j) (equal_bytes (unmarked k c) (unmarked j d)) (eqb k j)

unfoldable pub others_case : ℕ → ℕ → List ℕ → List ℕ → Case
others_case k j c d = cond (agree k j c d) Same Different

-- two records, with their areas
unfoldable pub case_of : List ℕ → List ℕ → Option Entry → Option Entry → Case
case_of ar ar' None e = Different
case_of ar ar' (Some e) None = Different
case_of ar ar' (Some e) (Some x) =
    cond (is_number (number_of e.kind) && is_number (number_of x.kind))
    (numbers_case (number_of e.kind) (number_of x.kind) e.fields.parts x.fields.parts)
    (others_case (number_of e.kind) (number_of x.kind) (content_bytes ar e.kind e.fields) (content_bytes ar' x.kind x.fields))

-- a record whose parts, if it is a number, may be ordered
unfoldable pub Orderly : Option Entry → Type 0
Orderly None = Unit
Orderly (Some e) = is_number (number_of e.kind) ≡ true → Kept e.fields.parts
