-- The text as tokens. What a token is depends on the reading, on the bytes from it on, on the mode and, in the strict reading, on the byte before it, and on nothing else.
-- Assumes nothing.
use Rattle.std.specs.Prelude.{ℕ, zero, suc, Bool, false, cond, ◌&&◌, ◌||◌, List, [], ◌∷◌, drop}
use Rattle.rules.specs.declared.Reading.{Reading}
use Rattle.rules.specs.declared.Reading.TheVariants.{First, Strict}
use Rattle.text.specs.Bytes.{is, line_feed, underscore}
use Rattle.columns.specs.Before.{byte_before, is_parted}
use Rattle.gaps.specs.Gaps.{gap}
use Rattle.words.specs.Words.{word}
use Rattle.keywords.specs.Keywords.{starts, key_data, key_global, key_loop, key_save, key_stop, stands}
use Rattle.found.specs.declared.Why.{Why}
use Rattle.found.specs.declared.Why.TheVariants.{AtEnd}
use Rattle.values.specs.Answers.{why_not}
use Rattle.values.specs.Values.{Reason, at_end, reserved_word, no_start, Class, block, loop, save, tag, value, over_limit, nothing, Lexed, lexed, parted, lex_value}

-- before `data_`; in the block; in a frame
pub data Mode : Type 0 where
  before in_block in_frame : Mode

-- `save_` opens a frame with its word as the name, and closes one without; in the strict reading its word is its token everywhere
unfoldable pub save_size : Mode → List ℕ → ℕ
save_size before s = 5
save_size in_block s = word s
save_size in_frame s = 5

-- the token at the start of s in the block or in a frame; p is the byte before
unfoldable pub lex_in : Reading → ℕ → Mode → List ℕ → Lexed
lex_in r p m [] = lexed (nothing at_end) 0
lex_in First p m (b ∷ s) =
    let v = lex_value First p b s in
    let rest = cond (is underscore b) (lexed tag (word (b ∷ s))) v in
    cond (starts key_data (b ∷ s) || starts key_global (b ∷ s) || starts key_stop (b ∷ s)) (lexed (nothing reserved_word) 0)
    (cond (starts key_loop (b ∷ s)) (lexed loop 5)
    (cond (starts key_save (b ∷ s)) (lexed save (save_size m (b ∷ s))) rest))
lex_in Strict p m (b ∷ s) =
    let v = lex_value Strict p b s in
    let rest = cond (is underscore b) (lexed tag (word (b ∷ s))) v in
    let x = cond (starts key_data (b ∷ s)) (lexed block (word (b ∷ s)))
    (cond (starts key_save (b ∷ s)) (lexed save (word (b ∷ s)))
    (cond (stands Strict key_loop (b ∷ s)) (lexed loop 5)
    (cond (stands Strict key_global (b ∷ s) || stands Strict key_stop (b ∷ s)) (lexed (nothing reserved_word) 0) rest))) in
    parted Strict p x

-- the token at the start of s, behind space and comments: before `data_` the first reading knows nothing else
unfoldable pub lex : Reading → ℕ → Mode → List ℕ → Lexed
lex First p before s = cond (starts key_data s) (lexed block (word s)) (lexed (nothing no_start) 0)
lex First p in_block s = lex_in First p in_block s
lex First p in_frame s = lex_in First p in_frame s
lex Strict p m s = lex_in Strict p m s

-- the mode behind a token
unfoldable pub after : Class → Mode → Mode
after block m = in_block
after save before = before
after save in_block = in_frame
after save in_frame = in_block
after loop m = m
after tag m = m
after (value k) m = m
after over_limit m = m
after (nothing w) m = m

pub record Tok : Type 0 where
  pub class : Class
  pub at : ℕ
  pub size : ℕ

unfoldable pub tok : Lexed → ℕ → Tok
tok x o = record { class = x.class; at = o; size = x.size }

-- One step: space and comments are passed over; a token without bytes is the last one; `rest` reads on behind the first
-- byte, where so many bytes still belong to what was read
unfoldable pub emit : ℕ → Tok → (ℕ → List Tok) → List Tok
emit zero t rest = t ∷ []
emit (suc n) t rest = t ∷ rest n

unfoldable pub step : ℕ → Lexed → Mode → ℕ → (ℕ → Mode → List Tok) → List Tok
step zero x m o rest = emit x.size (tok x o) (λ n. rest n (after x.class m))
step (suc k) x m o rest = rest k m

-- the tokens of s, which starts at offset o behind the byte p, and whose first k bytes belong to what was read before
unfoldable pub tokens_from : Reading → List ℕ → ℕ → ℕ → Mode → ℕ → List Tok
tokens_from r [] p k m o = tok (lex r p m []) o ∷ []
tokens_from r (b ∷ s) p zero m o = step (gap (b ∷ s)) (lex r p m (b ∷ s)) m o (λ k m'. tokens_from r s b k m' (suc o))
tokens_from r (b ∷ s) p (suc k) m o = tokens_from r s b k m (suc o)

-- a text starts in column 1, as behind an LF
unfoldable pub tokens : Reading → List ℕ → List Tok
tokens r s = tokens_from r s line_feed 0 before 0

-- the tokens from offset o on, where no earlier token reaches
unfoldable pub tokens_at : Reading → Mode → List ℕ → ℕ → List Tok
tokens_at r m s o = tokens_from r (drop o s) (byte_before s o) 0 m o

-- where the first token stands
unfoldable pub heading_at : List Tok → ℕ
heading_at [] = 0
heading_at (t ∷ ts) = t.at

-- and why that is no value
unfoldable pub head_why : List Tok → Why
head_why [] = AtEnd
head_why (t ∷ ts) = why_not t.class

-- a tag starts with `_`
unfoldable pub tag_first : List ℕ → Bool
tag_first [] = false
tag_first (b ∷ s) = is underscore b

-- WHAT OPENS AN ITEM, A FRAME OR A BLOCK at offset o: a tag, `loop_`, `save_`, `data_`, where space parts it from what stands before if the reading asks for that
unfoldable pub tag_at : Reading → List ℕ → ℕ → Bool
tag_at r s o = is_parted r (byte_before s o) && tag_first (drop o s)

unfoldable pub loop_at : Reading → List ℕ → ℕ → Bool
loop_at r s o = is_parted r (byte_before s o) && stands r key_loop (drop o s)

unfoldable pub save_at : Reading → List ℕ → ℕ → Bool
save_at r s o = is_parted r (byte_before s o) && starts key_save (drop o s)

-- a `save_` that closes a frame: in the strict reading one without a name
unfoldable pub close_at : Reading → List ℕ → ℕ → Bool
close_at r s o = is_parted r (byte_before s o) && stands r key_save (drop o s)

unfoldable pub data_at : Reading → List ℕ → ℕ → Bool
data_at r s o = is_parted r (byte_before s o) && starts key_data (drop o s)

-- the length of a `save_`: in the strict reading its word's everywhere
abbrev pub save_length : Reading → Mode → List ℕ → ℕ
save_length First m s = save_size m s
save_length Strict m s = word s
