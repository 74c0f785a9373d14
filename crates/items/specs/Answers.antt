-- What the code answers of a loop's names and values, and the item at an offset. Assumes nothing.
use Rattle.std.specs.Prelude.{ℕ, ◌%◌, ◌≤◌, ◌≡◌, Bool, true, false, cond, List, [], ◌∷◌, eqb, length, drop, Result, Ok, Err}
use Rattle.rules.specs.declared.Reading.{Reading}
use Rattle.rules.specs.declared.Reading.TheVariants.{First, Strict}
use Rattle.found.specs.declared.Why.{Why}
use Rattle.found.specs.declared.Why.TheVariants.{AtEnd, Reserved, NoStart, OpenQuote, OpenField, Joined}
use Rattle.found.specs.Packing.{number_of_why}
use Rattle.gaps.specs.Gaps.{gap}
use Rattle.items.specs.declared.Names.{Names}
use Rattle.items.specs.declared.Values.{Values}
use Rattle.items.specs.declared.Item.{Item as Answered}
use Rattle.items.specs.declared.Item.TheVariants.{Loop, Single, Failed, Absent}
use Rattle.grammar.specs.declared.Fault.{Fault}
use Rattle.grammar.specs.declared.Cause.TheVariants.{Ragged, NoValue, OverLimit, NotParted}
use Rattle.grammar.specs.Causes.{cause_of, fault}
use Rattle.grammar.specs.Machine.{Rec, last_at, lacks_values}
use Rattle.grammar.specs.Tokens.{Tok, in_block, tokens_at, heading_at, head_why}
use Rattle.text.specs.Limits.{limit}
use Rattle.sizes.specs.Sizes.{sizes_of, no_sizes, added, joined}
use Rattle.grammar.specs.Descent.{Item, taken, failed, absent, broken, item, name_recs, after_names, value_recs, after_values, is_over}

-- o is an offset of a text within limit 1
pub record Ready (s : List ℕ) (o : ℕ) : Type 0 where
  pub within : o ≤ length s
  pub small : length s ≤ limit

-- and no space or comment stands there
pub record Here (s : List ℕ) (o : ℕ) : Type 0 where
  pub within : o ≤ length s
  pub small : length s ≤ limit
  pub none : gap (drop o s) ≡ 0

-- the names that tokens start with: how many, where what follows stands, the room that they take, and where the last stands
unfoldable pub names_of : Reading → List Tok → Names
names_of r ts =
    record {
      count = length (name_recs r ts);
      next = heading_at (after_names r ts);
      sizes = sizes_of (name_recs r ts);
      last = last_at (name_recs r ts);
    }

unfoldable pub names_at : Reading → List ℕ → ℕ → Names
names_at r s o = names_of r (tokens_at r in_block s o)

-- the values that tokens start with, and what ended them
unfoldable pub head_over : List Tok → Bool
head_over [] = false
head_over (t ∷ ts) = is_over t.class

-- so many, where those tokens follow
abbrev pub counted : List Rec → List Tok → Values
counted rs ts = record { count = length rs; next = heading_at ts; sizes = sizes_of rs; why = head_why ts }

-- a number over a limit is met before the list ends
unfoldable pub values_of : List Tok → Result Values Fault
values_of ts =
    let ended = after_values ts in
    cond (head_over ended) (Err (fault OverLimit (heading_at ended))) (Ok (counted (value_recs ts) ended))

unfoldable pub values_at : Reading → List ℕ → ℕ → Result Values Fault
values_at r s o = values_of (tokens_at r in_block s o)

-- nothing stands there since no space parts it from the token before
abbrev pub is_joined_why : Why → Bool
is_joined_why AtEnd = false
is_joined_why Reserved = false
is_joined_why NoStart = false
is_joined_why OpenQuote = false
is_joined_why OpenField = false
is_joined_why Joined = true

-- an item fails by 5 or 6 before p, where w says why no value stands: in the first reading a frame may drop it; in the strict one that ends the reading, and 15 comes
-- first
abbrev pub failed_as : Reading → Fault → ℕ → Why → Result Answered Fault
failed_as First e p w = Ok (Failed e p)
failed_as Strict e p w = cond (is_joined_why w) (Err (fault NotParted p)) (Err e)

-- the loop at offset o, by its names and values: in the strict reading at least one value, then whole rows
unfoldable pub rows_of : Reading → ℕ → Names → Values → Result Answered Fault
rows_of r o names values =
    cond (lacks_values r values.count) (Err (fault (NoValue (number_of_why values.why)) names.last))
    (cond (eqb (values.count % names.count) 0)
    (Ok (Loop values.next (added (joined (joined (added no_sizes 5 5) names.sizes) values.sizes) 7 0) values.why))
    (failed_as r (fault (Ragged (values.count % names.count)) o) values.next values.why))

unfoldable pub item_answer : Item → Result Answered Fault
item_answer (taken true rs rest) = Ok (Loop (heading_at rest) (sizes_of rs) (head_why rest))
item_answer (taken false rs rest) = Ok (Single (heading_at rest) (sizes_of rs))
item_answer (failed n o d rest) = Ok (Failed (fault (cause_of n d) o) (heading_at rest))
item_answer (absent rest) = Ok (Absent (heading_at rest))
item_answer (broken n o d) = Err (fault (cause_of n d) o)

-- the item at offset o, behind space and comments. It is the same in the block and in a frame: no item reaches over a
-- `save_`
unfoldable pub item_at : Reading → List ℕ → ℕ → Result Answered Fault
item_at r s o = item_answer (item r (tokens_at r in_block s o))
