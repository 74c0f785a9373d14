-- Bytes by name, and the classes of bytes that every layer above asks for (document 01, 'How a text is read').
-- Assumes nothing.
use Rattle.std.specs.Prelude.{ℕ, Bool, ◌&&◌, ◌||◌, List, [], ◌∷◌, leb, ltb, eqb}
use Prim.Native.Char.{code}
use Prim.Native.String.{String, [] as []ˢ, ◌∷◌ as ◌∷ˢ◌}

-- the bytes of a quoted text, and bytes by name
abbrev pub bytes : String → List ℕ
bytes []ˢ = []
bytes (c ∷ˢ s) = code c ∷ bytes s

abbrev pub tab : ℕ
tab = code "\t"

abbrev pub line_feed : ℕ
line_feed = code "\n"

abbrev pub form_feed : ℕ
form_feed = 12

abbrev pub carriage_return : ℕ
carriage_return = code "\r"

abbrev pub space : ℕ
space = code " "

abbrev pub double_quote : ℕ
double_quote = code "\""

abbrev pub hash : ℕ
hash = code "#"

abbrev pub dollar : ℕ
dollar = code "$"

abbrev pub single_quote : ℕ
single_quote = code "'"

abbrev pub open_bracket : ℕ
open_bracket = code "("

abbrev pub close_bracket : ℕ
close_bracket = code ")"

abbrev pub plus_sign : ℕ
plus_sign = code "+"

abbrev pub minus_sign : ℕ
minus_sign = code "-"

abbrev pub full_stop : ℕ
full_stop = code "."

abbrev pub digit_zero : ℕ
digit_zero = code "0"

abbrev pub digit_nine : ℕ
digit_nine = code "9"

abbrev pub semicolon : ℕ
semicolon = code ";"

abbrev pub question_mark : ℕ
question_mark = code "?"

abbrev pub open_square : ℕ
open_square = code "["

abbrev pub close_square : ℕ
close_square = code "]"

abbrev pub underscore : ℕ
underscore = code "_"

-- one given byte
unfoldable pub is : ℕ → ℕ → Bool
is a b = eqb b a

-- a byte below 128
unfoldable pub is_ascii : ℕ → Bool
is_ascii b = ltb b 128

-- 0 to 9
unfoldable pub is_digit : ℕ → Bool
is_digit b = leb digit_zero b && leb b digit_nine

-- a byte of a line end: LF or CR
unfoldable pub is_eol : ℕ → Bool
is_eol b = eqb b line_feed || eqb b carriage_return

-- space is space, tab, LF, CR
unfoldable pub is_space : ℕ → Bool
is_space b = eqb b space || eqb b tab || eqb b line_feed || eqb b carriage_return

-- what ends a word: space, tab, LF, CR, and form feed, which is no space
unfoldable pub ends_word : ℕ → Bool
ends_word b = eqb b space || eqb b tab || eqb b line_feed || eqb b carriage_return || eqb b form_feed
