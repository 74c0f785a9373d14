-- The texts of document 02's equal records (Three): the strict reading accepts them, they have one block, no quote mark or
-- semicolon stands anywhere in them, comments and names included, and no bare value has one of the forms below. Values of
-- other kinds never have these forms. At the end, a class that asks nothing of bytes. Assumes nothing.
use Rattle.std.specs.Prelude.{ℕ, ◌+◌, ◌≡◌, Bool, true, false, not, cond, ◌&&◌, ◌||◌, List, [], ◌∷◌, eqb}
use Rattle.rules.specs.declared.Reading.TheVariants.{Strict}
use Rattle.text.specs.Bytes.{is, single_quote, double_quote, semicolon, full_stop, question_mark}
use Rattle.text.specs.Parts.{part}
use Rattle.keywords.specs.Keywords.{starts, key_global, key_loop, key_stop}
use Rattle.numbers.specs.Parts.{Parts, parts, is_number, written}
use Rattle.grammar.specs.Machine.{Rec, done}
use Rattle.grammar.specs.Reading.{outline}

-- a quote mark or a semicolon
unfoldable pub is_mark : ℕ → Bool
is_mark b = is single_quote b || (is double_quote b || is semicolon b)

-- none stands anywhere
unfoldable pub no_mark : List ℕ → Bool
no_mark [] = true
no_mark (b ∷ s) = not (is_mark b) && no_mark s

-- a number of document 01 whose exponent has no digits, as `1e+`; whose bracket has none, as `1()`
unfoldable pub empty_exponent : Parts → Bool
empty_exponent p = is_number p && not (written p.exp)

unfoldable pub empty_bracket : Parts → Bool
empty_bracket p = is_number p && not (written p.unc)

-- more than one byte, and the first is `.` or `?`
unfoldable pub starts_single : List ℕ → Bool
starts_single [] = false
starts_single (b ∷ []) = false
starts_single (b ∷ c ∷ w) = is full_stop b || is question_mark b

-- `loop_`, `global_` or `stop_` in any letter case, and perhaps more
unfoldable pub starts_keyword : List ℕ → Bool
starts_keyword w = starts key_loop w || (starts key_global w || starts key_stop w)

-- a word that may stand among the bare values
unfoldable pub is_plain_word : List ℕ → Bool
is_plain_word w =
    not (empty_exponent (parts w))
    && (not (empty_bracket (parts w)) && (not (starts_single w && not (is_number (parts w))) && not (starts_keyword w)))

-- each bare value (kind 10) among the records of s is such a word
unfoldable pub plain_values : List ℕ → List Rec → Bool
plain_values s [] = true
plain_values s (r ∷ rs) = (not (eqb r.kind 10) || is_plain_word (part s r.at r.size)) && plain_values s rs

-- how many blocks (kind 1) the records have
unfoldable pub blocks : List Rec → ℕ
blocks [] = 0
blocks (r ∷ rs) = cond (eqb r.kind 1) 1 0 + blocks rs

unfoldable pub OneBlock : List Rec → Type 0
OneBlock rs = blocks rs ≡ 1

-- THE CLASS: the strict reading reads s to the records rs, of one block, and nothing of the above stands in it
pub record Plain (s : List ℕ) (rs : List Rec) : Type 0 where
  pub accepted : outline Strict s ≡ done rs
  pub one_block : OneBlock rs
  pub no-mark : no_mark s ≡ true
  pub bare : plain_values s rs ≡ true

-- ANOTHER CLASS, without a word on bytes: marks may stand in comments, in names and inside words, and text fields may
-- stand. Left out are quoted values (kind 21) and bare values that start with `;`

unfoldable pub starts_semicolon : List ℕ → Bool
starts_semicolon [] = false
starts_semicolon (b ∷ w) = is semicolon b

unfoldable pub unquoted : List ℕ → List Rec → Bool
unquoted s [] = true
unquoted s (r ∷ rs) =
    not (eqb r.kind 21) && (not (eqb r.kind 10 && starts_semicolon (part s r.at r.size)) && unquoted s rs)

pub record Unquoted (s : List ℕ) (rs : List Rec) : Type 0 where
  pub accepted : outline Strict s ≡ done rs
  pub one_block : OneBlock rs
  pub no-quote : unquoted s rs ≡ true
  pub bare : plain_values s rs ≡ true
