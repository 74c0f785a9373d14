-- The grammar over tokens: a machine whose state says what is expected. `run` reads a list of tokens to an answer. Where the readings differ a small definition goes by
-- cases; the rest is said once.
use Rattle.std.specs.Prelude.{ℕ, zero, suc, ◌+◌, ◌%◌, Bool, true, false, not, cond, ◌&&◌, ◌||◌, List, [], ◌∷◌, ◌++◌, eqb, leb, ltb}
use Rattle.std.proofs.Math.Option.{Option, none, some}
use Rattle.rules.specs.declared.Reading.{Reading}
use Rattle.rules.specs.declared.Reading.TheVariants.{First, Strict}
use Rattle.words.specs.Names.{fits_tag, heading_fits}
use Rattle.values.specs.Values.{Class, Reason, block, loop, save, tag, value, over_limit, nothing, at_end, reserved_word, no_start, open_quote, open_field, joined}
use Rattle.values.specs.Answers.{why_not}
use Rattle.found.specs.Packing.{number_of_why}
use Rattle.grammar.specs.Tokens.{Tok}

-- a record of the outline
pub record Rec : Type 0 where
  pub kind : ℕ
  pub at : ℕ
  pub size : ℕ

pub data Answer : Type 0 where
  refused : (number offset detail : ℕ) → Answer
  done : List Rec → Answer

-- what is expected
pub data State : Type 0 where
  start : State  -- `data_`
  items : (detail : ℕ) → State  -- an item, a frame, a frame's end or the text's end; a 7 here has this detail
  names : (at n : ℕ) → State  -- a loop's names: n so far
  values : (at n k : ℕ) → State  -- a loop's values: n names, k values so far
  wants : (at : ℕ) → State  -- a tag's value

-- in a frame: where it opened
pub record Config : Type 0 where
  pub state : State
  pub frame : Option ℕ
  pub out : List Rec  -- the records kept
  pub held : List Rec  -- the records of the item being read

unfoldable pub config : State → Option ℕ → List Rec → List Rec → Config
config s f o h = record { state = s; frame = f; out = o; held = h }

pub data Outcome : Type 0 where
  go : Config → Outcome
  stop : Answer → Outcome

unfoldable pub rec : ℕ → Tok → Rec
rec k t = record { kind = k; at = t.at; size = t.size }

unfoldable pub loop_end : Rec
loop_end = record { kind = 7; at = 0; size = 0 }

-- why no value stands where this token does, by document 02's number
unfoldable pub reason : Class → ℕ
reason c = number_of_why (why_not c)

-- what only the block itself says: inside a frame a 7 has no detail
unfoldable pub in_block_only : Option ℕ → ℕ → ℕ
in_block_only none d = d
in_block_only (some f) d = 0

-- an item fails by 5, 6 or 7 where t stands. In the first reading that ends the reading in the block; in a frame the item is dropped, and t must close the frame
unfoldable pub closes : ℕ → List Rec → Class → Tok → Outcome
closes f out save t = go (config (items 0) none (out ++ (rec 3 t ∷ [])) [])
closes f out block t = stop (refused 4 f 0)
closes f out loop t = stop (refused 4 f 0)
closes f out tag t = stop (refused 4 f 0)
closes f out (value k) t = stop (refused 4 f 0)
closes f out over_limit t = stop (refused 4 f 0)
closes f out (nothing w) t = stop (refused 4 f 0)

-- no space parts the token from the one before
unfoldable pub is_joined : Class → Bool
is_joined (nothing joined) = true
is_joined (nothing at_end) = false
is_joined (nothing reserved_word) = false
is_joined (nothing no_start) = false
is_joined (nothing open_quote) = false
is_joined (nothing open_field) = false
is_joined block = false
is_joined loop = false
is_joined save = false
is_joined tag = false
is_joined (value k) = false
is_joined over_limit = false

-- in the strict reading failures inside a frame count too, and a token that nothing parts from the one before is 15 first
unfoldable pub fails : Reading → Answer → Option ℕ → List Rec → Tok → Outcome
fails First a none out t = stop a
fails First a (some f) out t = closes f out t.class t
fails Strict a f out t = stop (cond (is_joined t.class) (refused 15 t.at 0) a)

-- a name is taken where it may stand; in the strict reading it is 17 at its token otherwise
abbrev pub named : Bool → Tok → Outcome → Outcome
named fits t x = cond fits x (stop (refused 17 t.at 0))

-- a `save_` inside a frame closes it; in the strict reading only one without a name
abbrev pub shuts : Reading → ℕ → List Rec → Tok → Outcome
shuts First f out t = go (config (items 0) none (out ++ (rec 3 t ∷ [])) [])
shuts Strict f out t = cond (eqb t.size 5) (go (config (items 0) none (out ++ (rec 3 t ∷ [])) [])) (stop (refused 4 f 0))

-- a `data_` where an item is expected is none; in the strict reading it begins the next block, and leaves a frame open
abbrev pub heads : Reading → ℕ → Option ℕ → List Rec → Tok → Outcome
heads First d f out t = fails First (refused 7 t.at d) f out t
heads Strict d none out t = named (heading_fits Strict t.size) t (go (config (items 0) none (out ++ (rec 1 t ∷ [])) []))
heads Strict d (some f) out t = stop (refused 4 f 0)

-- an item, a frame, a frame's end, in the strict reading a heading, or the text's end; a 7 has the detail d
unfoldable pub at_item : Reading → ℕ → Option ℕ → List Rec → Class → Tok → Outcome
at_item r d f out loop t = go (config (names t.at 0) f out (rec 5 t ∷ []))
at_item r d f out tag t = named (fits_tag r t.size) t (go (config (wants t.at) f out (rec 4 t ∷ [])))
at_item r d none out save t = named (heading_fits r t.size) t (go (config (items 0) (some t.at) (out ++ (rec 2 t ∷ [])) []))
at_item r d (some f) out save t = shuts r f out t
at_item r d none out (nothing at_end) t = stop (done out)
at_item r d (some f) out (nothing at_end) t = stop (refused 4 f 0)
at_item r d f out (nothing reserved_word) t = fails r (refused 7 t.at d) f out t
at_item r d f out (nothing no_start) t = fails r (refused 7 t.at d) f out t
at_item r d f out (nothing open_quote) t = fails r (refused 7 t.at d) f out t
at_item r d f out (nothing open_field) t = fails r (refused 7 t.at d) f out t
at_item r d f out (nothing joined) t = fails r (refused 7 t.at d) f out t
at_item r d f out block t = heads r d f out t
at_item r d f out (value k) t = fails r (refused 7 t.at d) f out t
at_item r d f out over_limit t = fails r (refused 7 t.at d) f out t

-- where the last of some records stands
unfoldable pub last_at : List Rec → ℕ
last_at [] = 0
last_at (x ∷ []) = x.at
last_at (x ∷ y ∷ rs) = last_at (y ∷ rs)

-- a loop of k values has none, where the reading asks for some
abbrev pub lacks_values : Reading → ℕ → Bool
lacks_values First k = false
lacks_values Strict k = eqb k 0

-- the loop at `at` ends before t, with n names and k values; a 7 there says why its list ended. In the strict reading a loop without values is 6 at its last tag, and
-- says why no value stands there
unfoldable pub loop_ends : Reading → ℕ → ℕ → ℕ → Option ℕ → List Rec → List Rec → Tok → Outcome
loop_ends r at n k f out held t =
    cond (lacks_values r k) (stop (refused 6 (last_at held) (reason t.class)))
    (cond (eqb (k % n) 0) (at_item r (in_block_only f (reason t.class)) f (out ++ held ++ (loop_end ∷ [])) t.class t)
    (fails r (refused 5 at (k % n)) f out t))

unfoldable pub at_value : Reading → ℕ → ℕ → ℕ → Option ℕ → List Rec → List Rec → Class → Tok → Outcome
at_value r at n k f out held (value kind) t = go (config (values at n (suc k)) f out (held ++ (rec kind t ∷ [])))
at_value r at n k f out held over_limit t = stop (refused 9 t.at 0)
at_value r at n k f out held block t = loop_ends r at n k f out held t
at_value r at n k f out held loop t = loop_ends r at n k f out held t
at_value r at n k f out held save t = loop_ends r at n k f out held t
at_value r at n k f out held tag t = loop_ends r at n k f out held t
at_value r at n k f out held (nothing w) t = loop_ends r at n k f out held t

unfoldable pub no_more_names : Reading → ℕ → ℕ → Option ℕ → List Rec → List Rec → Tok → Outcome
no_more_names r at zero f out held t = stop (refused 8 at 0)
no_more_names r at (suc n) f out held t = at_value r at (suc n) 0 f out held t.class t

unfoldable pub at_name : Reading → ℕ → ℕ → Option ℕ → List Rec → List Rec → Class → Tok → Outcome
at_name r at n f out held tag t = named (fits_tag r t.size) t (go (config (names at (suc n)) f out (held ++ (rec 6 t ∷ []))))
at_name r at n f out held block t = no_more_names r at n f out held t
at_name r at n f out held loop t = no_more_names r at n f out held t
at_name r at n f out held save t = no_more_names r at n f out held t
at_name r at n f out held (value k) t = no_more_names r at n f out held t
at_name r at n f out held over_limit t = no_more_names r at n f out held t
at_name r at n f out held (nothing w) t = no_more_names r at n f out held t

unfoldable pub at_want : Reading → ℕ → Option ℕ → List Rec → List Rec → Class → Tok → Outcome
at_want r at f out held (value kind) t = go (config (items 0) f (out ++ held ++ (rec kind t ∷ [])) [])
at_want r at f out held over_limit t = stop (refused 9 t.at 0)
at_want r at f out held block t = fails r (refused 6 at (reason block)) f out t
at_want r at f out held loop t = fails r (refused 6 at (reason loop)) f out t
at_want r at f out held save t = fails r (refused 6 at (reason save)) f out t
at_want r at f out held tag t = fails r (refused 6 at (reason tag)) f out t
at_want r at f out held (nothing w) t = fails r (refused 6 at (reason (nothing w))) f out t

unfoldable pub at_start : Reading → Class → Tok → Outcome
at_start r block t = named (heading_fits r t.size) t (go (config (items 0) none (rec 1 t ∷ []) []))
at_start r loop t = stop (refused 3 t.at 0)
at_start r save t = stop (refused 3 t.at 0)
at_start r tag t = stop (refused 3 t.at 0)
at_start r (value k) t = stop (refused 3 t.at 0)
at_start r over_limit t = stop (refused 3 t.at 0)
at_start r (nothing w) t = stop (refused 3 t.at 0)

unfoldable pub move : Reading → State → Option ℕ → List Rec → List Rec → Tok → Outcome
move r start f out held t = at_start r t.class t
move r (items d) f out held t = at_item r d f out t.class t
move r (names at n) f out held t = at_name r at n f out held t.class t
move r (values at n k) f out held t = at_value r at n k f out held t.class t
move r (wants at) f out held t = at_want r at f out held t.class t

unfoldable pub follow : Outcome → (Config → Answer) → Answer
follow (go c) k = k c
follow (stop a) k = a

-- the list ends in a token that stops every state, so the first clause is not met by the tokens of a text
unfoldable pub run : Reading → List Tok → Config → Answer
run r [] c = refused 7 0 0
run r (t ∷ ts) c = follow (move r c.state c.frame c.out c.held t) (λ c'. run r ts c')
