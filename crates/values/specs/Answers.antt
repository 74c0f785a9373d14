-- What stands where a value is wanted: one, by its kind and length; a number over a digit limit; or why there is none. And the same with its meaning. Assumes nothing.
use Rattle.std.specs.Prelude.{ℕ, cond, ◌||◌, List, eqb, take, drop}
use Rattle.rules.specs.declared.Reading.{Reading}
use Rattle.columns.specs.Before.{byte_before}
use Rattle.numbers.specs.Parts.{parts}
use Rattle.numbers.specs.Meaning.{meaning}
use Rattle.values.specs.declared.Value.{Value as Answer}
use Rattle.values.specs.declared.Value.TheVariants.{Token, Number, Over as OverAnswer, Missing as MissingAnswer}
use Rattle.found.specs.declared.Found.{Found}
use Rattle.found.specs.declared.Found.TheVariants.{Value, Over, Missing}
use Rattle.found.specs.declared.Why.{Why}
use Rattle.found.specs.declared.Why.TheVariants.{AtEnd, Reserved, NoStart, OpenQuote, OpenField, Joined}
use Rattle.values.specs.Values.{Reason, at_end, reserved_word, no_start, open_quote, open_field, joined, Class, block, loop, save, tag, value, over_limit, nothing, lex_as_value}

unfoldable pub why_of : Reason → Why
why_of at_end = AtEnd
why_of reserved_word = Reserved
why_of no_start = NoStart
why_of open_quote = OpenQuote
why_of open_field = OpenField
why_of joined = Joined

-- why no value stands where a token of this class does; of a value nobody asks
unfoldable pub why_not : Class → Why
why_not (nothing w) = why_of w
why_not tag = NoStart
why_not block = Reserved
why_not loop = Reserved
why_not save = Reserved
why_not (value k) = AtEnd
why_not over_limit = AtEnd

-- a token where a value is wanted
unfoldable pub wanted : Class → ℕ → Found
wanted (value k) n = Value k n
wanted over_limit n = Over
wanted block n = Missing (why_not block)
wanted loop n = Missing (why_not loop)
wanted save n = Missing (why_not save)
wanted tag n = Missing (why_not tag)
wanted (nothing w) n = Missing (why_not (nothing w))

-- and as a value with its meaning: the first bytes of s are its token
unfoldable pub meant : List ℕ → Found → Answer
meant s (Value k n) = cond (eqb k 14 || eqb k 15) (Number (meaning (parts (take n s))) n) (Token k n)
meant s Over = OverAnswer
meant s (Missing w) = MissingAnswer w

-- the value at the start of s, behind the byte p
unfoldable pub value_answer : Reading → ℕ → List ℕ → Answer
value_answer r p s = meant s (wanted (lex_as_value r p s).class (lex_as_value r p s).size)

-- the value at offset o
unfoldable pub value_at : Reading → List ℕ → ℕ → Answer
value_at r s o = value_answer r (byte_before s o) (drop o s)
