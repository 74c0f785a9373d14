-- Laws of lines. Assumes nothing.
use Prim.Native.Nat.{ℕ, ◌+◌, ◌≤◌, ◌<◌}
use mathlib.Core.Path.{◌≡◌, refl}
use mathlib.Core.Bool.{true, false}
use mathlib.Core.List.{List}
use native.Mathlib.Omega.{arith}
use borrow.Author.Tests.{not-true, ne_eqb}
use lib.Dec.{eqb}
use lib.ListN.{length, get_or}
use Rattle.text.specs.Bytes.{is_eol}
use Rattle.text.specs.Runs.{span_end, Within}
use Rattle.text.specs.Blocks.{clear}
use Rattle.places.specs.Lines.{in_line, line_end}
use Rattle.text.proofs.Blocks.{clear-least}
use Rattle.text.proofs.Runs.{span-go, span-over, span-from, span-within, span-all}

pub in-line : (b : ℕ) → is_eol b ≡ false → in_line b ≡ true
unfolding in_line
in-line b e = rw e

pub out_line : (b : ℕ) → is_eol b ≡ true → in_line b ≡ false
unfolding in_line
out_line b e = rw e

-- a line is the run of its bytes
pub line-run : (s : List ℕ) (o : ℕ) → line_end s o ≡ span_end in_line s o
unfolding line_end
line-run s o = refl

-- a byte of at least 14 ends none, so that a block of such bytes may be skipped
high-in-line : (b : ℕ) → 14 ≤ b → in_line b ≡ true
unfolding in_line is_eol
high-in-line b h =
    let no : (k : ℕ) → k < 14 → eqb b k ≡ false = λ k l. ne_eqb b k (λ e. omega arith) in
    rw (no 10 (omega arith), no 13 (omega arith))

pub clear-in-line : Within (clear 14 0) in_line
unfolding Within
clear-in-line b e = high-in-line b (clear-least 14 0 b e)

-- it lies within the text
pub line-from : (s : List ℕ) (o : ℕ) → o ≤ line_end s o
line-from s o = rw (line-run s o) (span-from in_line s o)

pub line-within : (s : List ℕ) (o : ℕ) → o ≤ length s → line_end s o ≤ length s
line-within s o h = rw (line-run s o) (span-within in_line s o h)

pub line-past : (s : List ℕ) (o : ℕ) → length s ≤ o → line_end s o ≡ o
line-past s o h = rw (line-run s o) (span-over in_line s o h)

-- it goes on over a byte that ends no line
pub line-go : (s : List ℕ) (o : ℕ) → o < length s → is_eol (get_or s o 0) ≡ false → line_end s o ≡ line_end s (o + 1)
line-go s o h e = rw (line-run s o, line-run s (o + 1)) (span-go in_line s o h (in-line (get_or s o 0) e))

-- none of its bytes ends a line
pub line_plain : (s : List ℕ) (o k : ℕ) → o ≤ k → k < line_end s o → is_eol (get_or s k 0) ≡ false
unfolding in_line
line_plain s o k h l = not-true (is_eol (get_or s k 0)) (span-all in_line s o k h (rw (line-run s o) at l))
