-- Plain numbers: those without an exponent, found at an offset of a text without cutting their word first.
-- `proofs/Plain.antt` shows that what is found is a number within the limits. Assumes nothing.
use Rattle.std.specs.Prelude.{ℕ, ◌+◌, ◌-◌, Bool, cond, ◌&&◌, ◌||◌, List, leb, length, get_or}
use Rattle.rules.specs.declared.Reading.{Reading}
use Rattle.rules.specs.declared.Reading.TheVariants.{First, Strict}
use Rattle.text.specs.Bytes.{is, ends_word, open_bracket, close_bracket, plus_sign, minus_sign, full_stop}
use Rattle.cuts.specs.Digits.{after, digits_end}

-- a word ends at i
unfoldable pub word_stops : List ℕ → ℕ → Bool
word_stops s i = leb (length s) i || ends_word (get_or s i 0)

-- the digits that a bracket has at least
abbrev pub least_digits : Reading → ℕ
least_digits First = 0
least_digits Strict = 1

-- behind the bracket at i that is closed, has digits enough and keeps its limit, else i
unfoldable pub bracket_end : Reading → List ℕ → ℕ → ℕ
bracket_end r s i =
    let e = digits_end s (i + 1) in
    cond (is open_bracket (get_or s i 0) && (leb (least_digits r) (e - (i + 1)) && (leb (e - (i + 1)) 9 && is close_bracket (get_or s e 0)))) (e + 1) i

-- where the plain number at o ends: sign, digits, point, digits, bracket, and then the word's end; o where another
-- thing stands
unfoldable pub decimal_end : Reading → List ℕ → ℕ → ℕ
decimal_end r s o =
    let a = after plus_sign minus_sign s o in
    let i = digits_end s a in
    let p = after full_stop full_stop s i in
    let f = digits_end s p in
    let e = bracket_end r s f in
    cond (leb (i - a) 9 && (leb (f - p) 18 && (leb 1 (i - a + (f - p)) && word_stops s e))) e o
