-- What stands between no marks: a number, bare text, `.` and `?`, at an offset. Assumes nothing.
use Rattle.std.specs.Prelude.{ℕ, ◌+◌, ◌-◌, cond, List, eqb, drop, take, get_or}
use Rattle.rules.specs.declared.Reading.{Reading}
use Rattle.text.specs.Bytes.{is_digit}
use Rattle.numbers.specs.declared.Decimal.{Decimal}
use Rattle.found.specs.declared.Found.{Found}
use Rattle.found.specs.declared.Found.TheVariants.{Value, Over}
use Rattle.rules.specs.declared.Reading.TheVariants.{First, Strict}
use Rattle.words.specs.Words.{end_of_word}
use Rattle.numbers.specs.Meaning.{number_of}
use Rattle.numbers.specs.declared.Number.{Number}
use Rattle.numbers.specs.declared.Number.TheVariants.{Not, Is, Over as Long}

-- kind 14, or 15 with uncertainty
abbrev pub kind_of_number : Decimal → ℕ
kind_of_number d = cond d.uncertain 15 14

-- a number of n bytes, or what the word is otherwise
unfoldable pub judged_or : Found → ℕ → Number → Found
judged_or other n Not = other
judged_or other n (Is d) = Value (kind_of_number d) n
judged_or other n Long = Over

-- the bytes from offset o to e as a number
unfoldable pub number_at : Reading → Found → List ℕ → ℕ → ℕ → Found
number_at r other s o e = judged_or other (e - o) (number_of r (take (e - o) (drop o s)))

-- a word: a number or bare text
unfoldable pub word_at : Reading → List ℕ → ℕ → Found
word_at r s o = number_at r (Value 10 (end_of_word s o - o)) s o (end_of_word s o)

-- `.` in the first reading: only with a digit behind it can its word be a number
unfoldable pub first_point : List ℕ → ℕ → Found
first_point s o = cond (is_digit (get_or s (o + 1) 0)) (number_at First (Value 8 1) s o (end_of_word s o)) (Value 8 1)

-- `.` or `?` in the strict reading, alone or as the start of a word
unfoldable pub alone_at : ℕ → List ℕ → ℕ → Found
alone_at kind s o = cond (eqb (end_of_word s o - o) 1) (Value kind 1) (word_at Strict s o)

abbrev pub point_at : Reading → List ℕ → ℕ → Found
point_at First s o = first_point s o
point_at Strict s o = alone_at 8 s o

abbrev pub unknown_at : Reading → List ℕ → ℕ → Found
unknown_at First s o = Value 9 1
unknown_at Strict s o = alone_at 9 s o
