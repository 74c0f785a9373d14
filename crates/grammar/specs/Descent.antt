-- An item as the code reads it, from the tokens on: names while tags stand, values until one fails. That the machine reads items in the same way is
-- proved in proofs/Descent.antt. Assumes nothing.
use Rattle.std.specs.Prelude.{ℕ, suc, ◌+◌, ◌%◌, Bool, true, false, cond, List, [], ◌∷◌, ◌++◌, eqb, length}
use Rattle.rules.specs.declared.Reading.{Reading}
use Rattle.rules.specs.declared.Reading.TheVariants.{First, Strict}
use Rattle.words.specs.Names.{fits_tag}
use Rattle.found.specs.Packing.{number_of_why}
use Rattle.values.specs.Values.{Class, Reason, block, loop, save, tag, value, over_limit, nothing, at_end}
use Rattle.grammar.specs.Tokens.{Tok, heading_at, head_why}
use Rattle.grammar.specs.Machine.{Rec, rec, loop_end, reason, is_joined, lacks_values, last_at}

-- a tag's record goes before those of the tags behind it; anything else ends the names, and so does a tag whose name may not stand
unfoldable pub name_then : Reading → Class → Tok → List Rec → List Rec
name_then r tag t rs = cond (fits_tag r t.size) (rec 6 t ∷ rs) []
name_then r block t rs = []
name_then r loop t rs = []
name_then r save t rs = []
name_then r (value k) t rs = []
name_then r over_limit t rs = []
name_then r (nothing w) t rs = []

unfoldable pub name_rest : Reading → Class → Tok → List Tok → List Tok → List Tok
name_rest r tag t rest here = cond (fits_tag r t.size) rest here
name_rest r block t rest here = here
name_rest r loop t rest here = here
name_rest r save t rest here = here
name_rest r (value k) t rest here = here
name_rest r over_limit t rest here = here
name_rest r (nothing w) t rest here = here

-- the names that tokens start with, and what follows them
unfoldable pub name_recs : Reading → List Tok → List Rec
name_recs r [] = []
name_recs r (t ∷ ts) = name_then r t.class t (name_recs r ts)

unfoldable pub after_names : Reading → List Tok → List Tok
after_names r [] = []
after_names r (t ∷ ts) = name_rest r t.class t (after_names r ts) (t ∷ ts)

-- the same of values
unfoldable pub value_then : Class → Tok → List Rec → List Rec
value_then (value k) t rs = rec k t ∷ rs
value_then tag t rs = []
value_then block t rs = []
value_then loop t rs = []
value_then save t rs = []
value_then over_limit t rs = []
value_then (nothing w) t rs = []

unfoldable pub value_rest : Class → List Tok → List Tok → List Tok
value_rest (value k) rest here = rest
value_rest tag rest here = here
value_rest block rest here = here
value_rest loop rest here = here
value_rest save rest here = here
value_rest over_limit rest here = here
value_rest (nothing w) rest here = here

unfoldable pub value_recs : List Tok → List Rec
value_recs [] = []
value_recs (t ∷ ts) = value_then t.class t (value_recs ts)

unfoldable pub after_values : List Tok → List Tok
after_values [] = []
after_values (t ∷ ts) = value_rest t.class (after_values ts) (t ∷ ts)

-- what reading an item comes to
pub data Item : Type 0 where
  taken : (is_loop : Bool) → List Rec → List Tok → Item  -- its records, and the tokens behind it
  failed : (number offset detail : ℕ) → List Tok → Item  -- by 5 or 6 in the first reading, where a frame drops it, and the tokens from where it stopped on
  absent : List Tok → Item  -- none starts where these tokens do
  broken : (number offset detail : ℕ) → Item  -- by what ends the whole reading

unfoldable pub is_over : Class → Bool
is_over over_limit = true
is_over tag = false
is_over block = false
is_over loop = false
is_over save = false
is_over (value k) = false
is_over (nothing w) = false

unfoldable pub is_tag : Class → Bool
is_tag tag = true
is_tag over_limit = false
is_tag block = false
is_tag loop = false
is_tag save = false
is_tag (value k) = false
is_tag (nothing w) = false

-- the same of the first token
unfoldable pub head_tag : List Tok → Bool
head_tag [] = false
head_tag (t ∷ ts) = is_tag t.class

unfoldable pub head_joined : List Tok → Bool
head_joined [] = false
head_joined (t ∷ ts) = is_joined t.class

-- an item fails by 5 or 6 before these tokens: in the first reading a frame may drop it; in the strict one that ends the reading, and 15 comes first
abbrev pub failed_by : Reading → ℕ → ℕ → ℕ → List Tok → Item
failed_by First n o d rest = failed n o d rest
failed_by Strict n o d rest = cond (head_joined rest) (broken 15 (heading_at rest) 0) (broken n o d)

-- whole rows, or the remainder; in the strict reading at least one row
unfoldable pub rows : Reading → Tok → List Rec → List Rec → List Tok → Item
rows r t names vals rest =
    cond (lacks_values r (length vals)) (broken 6 (last_at names) (number_of_why (head_why rest)))
    (cond (eqb (length vals % length names) 0)
    (taken true (rec 5 t ∷ (names ++ (vals ++ (loop_end ∷ [])))) rest)
    (failed_by r 5 t.at (length vals % length names) rest))

-- the loop at t, once its names and values are known: a number over a limit is met before the rows are counted
unfoldable pub loop_by : Reading → Tok → List Rec → List Rec → List Tok → Item
loop_by r t names vals [] = absent []
loop_by r t names vals (u ∷ us) = cond (is_over u.class) (broken 9 u.at 0) (rows r t names vals (u ∷ us))

-- a loop without names is met before any value
unfoldable pub loop_valued : Reading → Tok → List Rec → List Tok → Item
loop_valued r t [] ts = broken 8 t.at 0
loop_valued r t (n ∷ names) ts = loop_by r t (n ∷ names) (value_recs ts) (after_values ts)

-- behind a loop's names a tag stands only where its name may not
unfoldable pub loop_item : Reading → Tok → List Rec → List Tok → Item
loop_item r t names ts = cond (head_tag ts) (broken 17 (heading_at ts) 0) (loop_valued r t names ts)

-- a tag and its value
unfoldable pub single : Reading → Tok → Class → Tok → List Tok → Item
single r t (value k) u us = taken false (rec 4 t ∷ (rec k u ∷ [])) us
single r t over_limit u us = broken 9 u.at 0
single r t tag u us = failed_by r 6 t.at (reason tag) (u ∷ us)
single r t block u us = failed_by r 6 t.at (reason block) (u ∷ us)
single r t loop u us = failed_by r 6 t.at (reason loop) (u ∷ us)
single r t save u us = failed_by r 6 t.at (reason save) (u ∷ us)
single r t (nothing w) u us = failed_by r 6 t.at (reason (nothing w)) (u ∷ us)

unfoldable pub tag_valued : Reading → Tok → List Tok → Item
tag_valued r t [] = failed_by r 6 t.at (reason (nothing at_end)) []
tag_valued r t (u ∷ us) = single r t u.class u us

unfoldable pub tag_item : Reading → Tok → List Tok → Item
tag_item r t ts = cond (fits_tag r t.size) (tag_valued r t ts) (broken 17 t.at 0)

unfoldable pub item_by : Reading → Class → Tok → List Tok → Item
item_by r loop t ts = loop_item r t (name_recs r ts) (after_names r ts)
item_by r tag t ts = tag_item r t ts
item_by r block t ts = absent (t ∷ ts)
item_by r save t ts = absent (t ∷ ts)
item_by r (value k) t ts = absent (t ∷ ts)
item_by r over_limit t ts = absent (t ∷ ts)
item_by r (nothing w) t ts = absent (t ∷ ts)

unfoldable pub item : Reading → List Tok → Item
item r [] = absent []
item r (t ∷ ts) = item_by r t.class t ts
