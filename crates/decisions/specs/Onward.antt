-- Reading on: what the machine still answers from an offset, and what an item or a heading there changes of it. Assumes nothing.
use Rattle.std.specs.Prelude.{ℕ, ◌-◌, ◌≤◌, ◌<◌, ◌≡◌, Bool, false, cond, List, [], ◌++◌, length, drop, Result, Ok, Err}
use Rattle.std.proofs.Math.Option.{Option, none, some}
use Rattle.rules.specs.declared.Reading.{Reading}
use Rattle.rules.specs.declared.Reading.TheVariants.{First, Strict}
use Rattle.columns.specs.Before.{byte_before, is_parted}
use Rattle.gaps.specs.Gaps.{gap, gap_end}
use Rattle.words.specs.Words.{end_of_word}
use Rattle.words.specs.Names.{heading_fits}
use Rattle.sizes.specs.declared.Sizes.{Sizes}
use Rattle.items.specs.declared.Item.{Item as Answered}
use Rattle.items.specs.declared.Item.TheVariants.{Loop, Single, Failed, Absent}
use Rattle.grammar.specs.declared.Fault.{Fault}
use Rattle.grammar.specs.declared.Cause.TheVariants.{NoItem, NotParted, BadName}
use Rattle.grammar.specs.Causes.{fault}
use Rattle.found.specs.Packing.{number_of_why}
use Rattle.decisions.specs.declared.Step.{Step}
use Rattle.decisions.specs.declared.Inside.{Inside}
use Rattle.decisions.specs.declared.Inside.TheVariants.{Read, Dropped}
use Rattle.grammar.specs.Tokens.{Mode, in_block, in_frame, tokens_at, data_at}
use Rattle.grammar.specs.Machine.{Rec, Answer, run, config, items}
use Rattle.sizes.specs.Sizes.{sizes_of, no_sizes, added, Upto}
use Rattle.decisions.specs.Decisions.{told, tells}

-- no item starts at o: 7 with the detail d, or in the strict reading 15 where no space parts what stands there from the token before
abbrev pub absent_of : Reading → List ℕ → ℕ → ℕ → Fault
absent_of r s d o = cond (is_parted r (byte_before s o)) (fault (NoItem d) o) (fault NotParted o)

-- what is read up to p takes the room z, and a 7 at p has the detail d
abbrev pub read : ℕ → Sizes → ℕ → Step
read p z d = record { next = p; sizes = z; reason = d }

-- in the block whatever is not read ends the reading; a loop leaves behind it the detail that a 7 there has
abbrev pub in_block_of : Reading → List ℕ → ℕ → Result Answered Fault → Result Step Fault
in_block_of r s d (Ok (Loop n z w)) = Ok (read n z (number_of_why w))
in_block_of r s d (Ok (Single n z)) = Ok (read n z 0)
in_block_of r s d (Ok (Failed e p)) = Err e
in_block_of r s d (Ok (Absent o)) = Err (absent_of r s d o)
in_block_of r s d (Err e) = Err e

-- in a frame an item that fails is dropped, as in the first reading by 5 and 6, and so is one that is none; all else ends the reading
abbrev pub in_frame_of : Result Answered Fault → Result Inside Fault
in_frame_of (Ok (Loop n z w)) = Ok (Read n z)
in_frame_of (Ok (Single n z)) = Ok (Read n z)
in_frame_of (Ok (Failed e p)) = Ok (Dropped p)
in_frame_of (Ok (Absent o)) = Ok (Dropped o)
in_frame_of (Err e) = Err e

-- the heading at o, of kind k: its word, whose name may stand, or 17
unfoldable pub heading_of : Reading → List ℕ → ℕ → ℕ → Result Step Fault
heading_of r s k o = cond (heading_fits r (end_of_word s o - o)) (Ok (read (gap_end s (end_of_word s o)) (added no_sizes k (end_of_word s o - o)) 0)) (Err (fault BadName o))

-- a `data_` that begins a further block
abbrev pub heads_block : Reading → List ℕ → ℕ → Bool
heads_block First s o = false
heads_block Strict s o = data_at Strict s o

-- the block, or the frame that opened at an offset
unfoldable pub mode_of : Option ℕ → Mode
mode_of none = in_block
mode_of (some a) = in_frame

-- what the machine answers of the text from offset o on, where an item is expected and `out` is kept; a 7 there has the detail d
unfoldable pub left : Reading → ℕ → Option ℕ → List ℕ → ℕ → List Rec → Answer
left r d f s o out = run r (tokens_at r (mode_of f) s o) (config (items d) f out [])

-- from o in f to p in g records of these sizes are kept, and nothing else is changed of what is still answered; a 7 at p has the
-- detail d, whatever one at o had
pub record Passed (r : Reading) (s : List ℕ) (f : Option ℕ) (o : ℕ) (g : Option ℕ) (p : ℕ) (z : Sizes) (d : ℕ) : Type 0 where
  pub kept : List Rec
  pub sizes : z ≡ sizes_of kept
  pub reads : (c : ℕ) (out : List Rec) → left r c f s o out ≡ left r d g s p (out ++ kept)
  pub onward : o < p
  pub within : p ≤ length s
  pub bare : gap (drop p s) ≡ 0
  pub fits : Upto (p - o) z

-- an item, a heading or a frame of the block, where a 7 has the detail d, is passed, or its refusal is the whole text's
unfoldable pub Stepped : Reading → ℕ → List ℕ → ℕ → Result Step Fault → Type 0
Stepped r d s o (Ok x) = Passed r s none o none x.next x.sizes x.reason
Stepped r d s o (Err e) = (out : List Rec) → told (Err e) ≡ tells (left r d none s o out)

-- a heading or a frame, whatever stands before it
unfoldable pub Framed : Reading → List ℕ → ℕ → Result Step Fault → Type 0
Framed r s o x = (d : ℕ) → Stepped r d s o x
