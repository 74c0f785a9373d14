-- One value (document 01, 'Value, in this order'; document 02, Three, for the strict reading), or why none stands here. What it is depends on the reading, on the bytes
-- from it on and, in the strict reading, on the byte before it, and on nothing else. Where the readings differ a small definition goes by cases; the rest is said once.
-- Assumes nothing.
use Rattle.std.specs.Prelude.{ℕ, suc, cond, List, [], ◌∷◌, eqb, take}
use Rattle.std.proofs.Math.Option.{Option, none, some}
use Rattle.rules.specs.declared.Reading.{Reading}
use Rattle.rules.specs.declared.Reading.TheVariants.{First, Strict}
use Rattle.text.specs.Bytes.{is, is_eol, is_space, double_quote, single_quote, full_stop, semicolon, question_mark}
use Rattle.words.specs.Words.{word, is_ordinary}
use Rattle.keywords.specs.Keywords.{reserved}
use Rattle.quotes.specs.Quotes.{quoted_by, field}
use Rattle.enclosed.specs.Pieces.{quote_kind}
use Rattle.numbers.specs.Parts.{Parts, parts, counts_as, within}

-- why no value stands here: the end; a reserved word; a byte that starts none; a quote, a text field that is not closed; in the strict reading, that no space parts it
-- from the token before
pub data Reason : Type 0 where
  at_end reserved_word no_start open_quote open_field joined : Reason

-- what a token is: a heading, a keyword, a tag; a value of a kind; a number over a digit limit; nothing that can be read
pub data Class : Type 0 where
  block loop save tag : Class
  value : (kind : ℕ) → Class
  over_limit : Class
  nothing : Reason → Class

-- a token as read: its class and length
pub record Lexed : Type 0 where
  pub class : Class
  pub size : ℕ

unfoldable pub lexed : Class → ℕ → Lexed
lexed c n = record { class = c; size = n }

-- a word: a number (kind 14, or 15 with uncertainty), or what it is otherwise
unfoldable pub number_or : Reading → Lexed → Parts → ℕ → Lexed
number_or r other p n =
    cond (counts_as r p) (lexed (cond (within p) (value (cond p.unc.here 15 14)) over_limit) n) other

unfoldable pub word_or : Reading → Lexed → List ℕ → Lexed
word_or r other s = number_or r other (parts (take (word s) s)) (word s)

-- what stands between marks, both counted in the length
unfoldable pub closed : ℕ → Reason → Option ℕ → Lexed
closed kind why none = lexed (nothing why) 0
closed kind why (some n) = lexed (value kind) (suc n)

-- a word: a number or bare text
abbrev pub whole_word : Reading → List ℕ → Lexed
whole_word r s = word_or r (lexed (value 10) (word s)) s

-- `.` or `?` in the strict reading: the single byte where that is the whole word, else what the word is
unfoldable pub alone_or : ℕ → List ℕ → Lexed
alone_or kind s = cond (eqb (word s) 1) (lexed (value kind) 1) (whole_word Strict s)

-- `.`: in the first reading a number if its word is one, else the single byte
abbrev pub pointed : Reading → List ℕ → Lexed
pointed First s = word_or First (lexed (value 8) 1) s
pointed Strict s = alone_or 8 s

-- `?`: in the first reading the single byte
abbrev pub asked : Reading → List ℕ → Lexed
asked First s = lexed (value 9) 1
asked Strict s = alone_or 9 s

-- behind an opening mark
abbrev pub enclosed : Reading → ℕ → ℕ → List ℕ → Lexed
enclosed r kind m s = closed (quote_kind r kind) open_quote (quoted_by r m s)

-- behind a `;`: a text field; in the strict reading only in column 1, elsewhere `;` starts a bare word
abbrev pub fielded : Reading → ℕ → List ℕ → Lexed
fielded First p s = closed 13 open_field (field s)
fielded Strict p s = cond (is_eol p) (closed 13 open_field (field s)) (lexed (value 10) (word (semicolon ∷ s)))

-- a value by its first byte: `.`, `?`, `'`, `"`, `;`, an ordinary byte; p is the byte before
unfoldable pub lex_value : Reading → ℕ → ℕ → List ℕ → Lexed
lex_value r p b s =
    let whole = whole_word r (b ∷ s) in
    let dot = pointed r (b ∷ s) in
    let mark = asked r (b ∷ s) in
    let quote = enclosed r 11 single_quote s in
    let double = enclosed r 12 double_quote s in
    let multi = fielded r p s in
    cond (is full_stop b) dot
    (cond (is question_mark b) mark
    (cond (is single_quote b) quote
    (cond (is double_quote b) double
    (cond (is semicolon b) multi
    (cond (is_ordinary b) whole (lexed (nothing no_start) 0))))))

-- in the strict reading a token is parted by space from the one before, or nothing can be read there
abbrev pub parted : Reading → ℕ → Lexed → Lexed
parted First p x = x
parted Strict p x = cond (is_space p) x (lexed (nothing joined) 0)

-- the value at the start of s, behind space and comments; p is the byte before
unfoldable pub lex_as_value : Reading → ℕ → List ℕ → Lexed
lex_as_value r p [] = lexed (nothing at_end) 0
lex_as_value r p (b ∷ s) =
    let v = lex_value r p b s in
    let x = cond (reserved r (b ∷ s)) (lexed (nothing reserved_word) 0) v in
    parted r p x
