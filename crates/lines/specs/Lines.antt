-- Lines and control bytes (document 02, Three): in the strict reading a line has at most 2,048 bytes before its end, and no control byte stands in a text but tab, LF and
-- CR. The first byte that breaks one of these is found; where it breaks both, the line counts first. Assumes nothing.
use Rattle.std.specs.Prelude.{ℕ, suc, Bool, true, false, not, cond, ◌&&◌, ◌||◌, List, [], ◌∷◌, leb, ltb, eqb, Result, Ok, Err}
use Rattle.text.specs.Bytes.{is, is_ascii, is_eol, tab, line_feed, carriage_return, space}
use Rattle.lines.specs.declared.Flaw.{Flaw}
use Rattle.lines.specs.declared.Flaw.TheVariants.{LongLine, Control}

-- the most bytes of a line before its end: tabs and the bytes of comments and text fields count
abbrev pub longest : ℕ
longest = 2048

-- a byte below space, or 127, but for tab, LF and CR
unfoldable pub is_control : ℕ → Bool
is_control b = not (eqb b tab || (eqb b line_feed || eqb b carriage_return)) && (ltb b space || eqb b 127)

unfoldable pub no_control : ℕ → Bool
no_control b = not (is_control b)

-- a byte that may stand in a strict text
unfoldable pub is_plain : ℕ → Bool
is_plain b = is_ascii b && no_control b

-- a byte from space to ~, LF, or one of two others
unfoldable pub is_printed : ℕ → ℕ → ℕ → Bool
is_printed one other b = (is line_feed b || (is one b || is other b)) || (leb space b && ltb b 127)

-- the bytes of the line so far, where c stood before b
unfoldable pub column : ℕ → ℕ → ℕ
column c b = cond (is_eol b) 0 (suc c)

-- b is one too many on a line of c bytes so far
unfoldable pub is_long : ℕ → ℕ → Bool
is_long c b = eqb c longest && not (is_eol b)

-- how many bytes stand before the first that is one too many on its line; c bytes of the first line stand before
unfoldable pub short : ℕ → List ℕ → ℕ
short c [] = 0
short c (b ∷ s) = let on = suc (short (column c b) s) in cond (is_long c b) 0 on

-- the first byte of s that may not stand where it does: c bytes of its line stand before s, o of the text
unfoldable pub screen_from : ℕ → ℕ → List ℕ → Result (Unit {0}) Flaw
screen_from c o [] = Ok tt
screen_from c o (b ∷ s) = let next = screen_from (column c b) (suc o) s in cond (is_long c b) (Err (LongLine o)) (cond (is_control b) (Err (Control o)) next)

unfoldable pub screened : List ℕ → Result (Unit {0}) Flaw
screened s = screen_from 0 0 s

-- there is none
unfoldable pub is_fine : Result (Unit {0}) Flaw → Bool
is_fine (Ok u) = true
is_fine (Err e) = false

-- all of s may stand where it does: c bytes of its line stand before
unfoldable pub fits : ℕ → List ℕ → Bool
fits c s = is_fine (screen_from c 0 s)
