-- What is found where a value may stand, as one number, and back. Assumes nothing.
use Rattle.std.specs.Prelude.{ℕ, ◌+◌, ◌*◌, ◌/◌, ◌%◌, Bool, true, false, cond, leb, eqb}
use Rattle.found.specs.declared.Why.{Why}
use Rattle.found.specs.declared.Why.TheVariants.{AtEnd, Reserved, NoStart, OpenQuote, OpenField, Joined}
use Rattle.found.specs.declared.Found.{Found}
use Rattle.found.specs.declared.Found.TheVariants.{Value, Over, Missing}

-- the reason's number (document 02, One): the text ends; a reserved word; a byte that starts no value; a quote, a text field that is not
-- closed; that no space parts it from the token before is a refusal of its own, and has that one's number (Three)
abbrev pub number_of_why : Why → ℕ
number_of_why AtEnd = 1
number_of_why Reserved = 2
number_of_why NoStart = 3
number_of_why OpenQuote = 4
number_of_why OpenField = 5
number_of_why Joined = 15

-- over a limit; why none, where none is
abbrev pub is_over_found : Found → Bool
is_over_found (Value k n) = false
is_over_found Over = true
is_over_found (Missing w) = false

abbrev pub why_found : Found → Why
why_found (Value k n) = AtEnd
why_found Over = AtEnd
why_found (Missing w) = w

-- As one number: a value's kind, which is below 32, and its length times 32. What is no value has no length, and its reason's number; over a
-- limit is 6
unfoldable pub pack : ℕ → ℕ → ℕ
pack k n = k + n * 32

abbrev pub packed_of : Found → ℕ
packed_of (Value k n) = pack k n
packed_of Over = 6
packed_of (Missing w) = number_of_why w

-- and back
unfoldable pub why_of_number : ℕ → Why
why_of_number t = cond (eqb t 1) AtEnd (cond (eqb t 2) Reserved (cond (eqb t 3) NoStart (cond (eqb t 4) OpenQuote (cond (eqb t 15) Joined OpenField))))

unfoldable pub unpacked_of : ℕ → Found
unpacked_of t = cond (leb 32 t) (Value (t % 32) (t / 32)) (cond (eqb t 6) Over (Missing (why_of_number t)))
