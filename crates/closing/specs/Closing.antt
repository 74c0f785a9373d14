-- Where a frame ends. Assumes nothing.
use Rattle.std.specs.Prelude.{ℕ, ◌+◌, Bool, cond, ◌||◌, List, leb, length, Result, Ok, Err}
use Rattle.rules.specs.declared.Reading.{Reading}
use Rattle.rules.specs.declared.Reading.TheVariants.{First, Strict}
use Rattle.gaps.specs.Gaps.{gap_end}
use Rattle.sizes.specs.declared.Sizes.{Sizes}
use Rattle.grammar.specs.declared.Fault.{Fault}
use Rattle.grammar.specs.declared.Cause.TheVariants.{OpenFrame}
use Rattle.grammar.specs.Causes.{fault}
use Rattle.decisions.specs.declared.Step.{Step}
use Rattle.grammar.specs.Tokens.{save_at, close_at, data_at}
use Rattle.decisions.specs.Onward.{absent_of, read}
use Rattle.sizes.specs.Sizes.{added}

-- in the strict reading the text's end, a named `save_` or `data_` leaves a frame open
unfoldable pub leaves_open : List ℕ → ℕ → Bool
leaves_open s o = leb (length s) o || (save_at Strict s o || data_at Strict s o)

-- the frame that opened at a does not close at o: 4, or in the strict reading what stands there is no item
abbrev pub unclosed : Reading → List ℕ → ℕ → ℕ → Fault
unclosed First s a o = fault OpenFrame a
unclosed Strict s a o = cond (leaves_open s o) (fault OpenFrame a) (absent_of Strict s 0 o)

-- `save_` must stand where the last item stopped
unfoldable pub frame_end : Reading → List ℕ → ℕ → Sizes → ℕ → Result Step Fault
frame_end r s a z o = cond (close_at r s o) (Ok (read (gap_end s (o + 5)) (added z 3 5) 0)) (Err (unclosed r s a o))
