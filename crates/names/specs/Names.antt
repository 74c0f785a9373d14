-- The names of a store: those of kinds 4 and 6, each with its record's number and its scope (a block's own tags, or one frame's). A scope's number is that of the
-- record that opens it. Records count from 0 over the whole store. Assumes nothing.
use Rattle.std.specs.Prelude.{ℕ, suc, Bool, cond, ◌&&◌, ◌||◌, List, [], ◌∷◌, eqb, Option, Some, None}
use Rattle.folding.specs.Folding.{same_name}
use Rattle.entries.specs.declared.Entry.{Entry}
use Rattle.kinds.specs.Kinds.{number_of}
use Rattle.entries.specs.Walk.{entries}
use Rattle.contents.specs.Contents.{content_bytes}

-- a name of a store: its record number, its scope (the number of its frame's record, or else of its block's) and its bytes
pub record Name : Type 0 where
  pub number : ℕ
  pub scope : ℕ
  pub bytes : List ℕ

-- the same name in the same scope
unfoldable pub same_both : Name → Name → Bool
same_both x y = eqb x.scope y.scope && same_name x.bytes y.bytes

-- the block behind a record of kind k, which has the number i
unfoldable pub block_after : ℕ → ℕ → ℕ → ℕ
block_after k i block = cond (eqb k 1) i block

-- the scope there: a block's or a frame's that opens, behind a frame its block's again
unfoldable pub scope_after : ℕ → ℕ → ℕ → ℕ → ℕ
scope_after k i block scope = cond (eqb k 1) i (cond (eqb k 2) i (cond (eqb k 3) block scope))

-- kinds 4 and 6 are names
unfoldable pub is_name_kind : ℕ → Bool
is_name_kind k = eqb k 4 || eqb k 6

-- the names of entries, the first of which has the number i and stands in this block and scope
unfoldable pub names_from : List (Option Entry) → List ℕ → ℕ → ℕ → ℕ → List Name
names_from [] ar i block scope = []
names_from (None ∷ es) ar i block scope = []
names_from (Some e ∷ es) ar i block scope =
    let more = names_from es ar (suc i) (block_after (number_of e.kind) i block) (scope_after (number_of e.kind) i block scope) in
    let mine : Name = record { number = i; scope = scope; bytes = content_bytes ar e.kind e.fields } in
    cond (eqb (number_of e.kind) 4 || eqb (number_of e.kind) 6) (mine ∷ more) more

unfoldable pub names : List ℕ → List ℕ → List Name
names st ar = names_from (entries st) ar 0 0 0
