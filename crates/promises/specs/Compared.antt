-- What C and Rust meet of a comparison: the bytes that chuntarek_compare's answer counts, and what it says of stores where nothing changed, and of two stores the other
-- way round. n is the number that a call names its reading by. Assumes nothing.
use Rattle.std.specs.Prelude.{ℕ, ◌≡◌, List, [], take}
use Rattle.places.specs.Reports.{success}
use Rattle.changes.specs.declared.Change.{Change}
use Rattle.changes.specs.Changes.{changes, changes_bytes}
use Rattle.exports.specs.Exports.{exported}
use Rattle.answers.specs.Answers.{compare_gives, list_left}
use Rattle.soles.specs.Members.{In}
use Rattle.compared.specs.Turned.{turned}

-- a store with its area may be compared: with itself, and without any room, it is not refused
unfoldable pub Comparable : (n : ℕ) (st ar : List ℕ) → Type 0
Comparable n st ar = (compare_gives n st ar st ar []).number ≡ 0

-- the list of two stores
unfoldable pub list_given : (n : ℕ) (st ar st' ar' list : List ℕ) → List ℕ
list_given n st ar st' ar' list = take (compare_gives n st ar st' ar' list).first (list_left n st ar st' ar' list)

-- nothing changed: the answer is done with an empty list, and the lent one stays
pub record Unchanged (n : ℕ) (st ar st' ar' list : List ℕ) : Type 0 where
  pub answers : compare_gives n st ar st' ar' list ≡ exported (success 0 0)
  pub lists : list_left n st ar st' ar' list ≡ list

-- two stores, and the same the other way round: each entry of the one list stands turned in the other
pub record Swaps (n : ℕ) (st ar st' ar' list list' : List ℕ) : Type 0 where
  pub lists : list_given n st ar st' ar' list ≡ changes_bytes (changes st ar st' ar')
  pub back : list_given n st' ar' st ar list' ≡ changes_bytes (changes st' ar' st ar)
  pub turns : (c : Change) → In c (changes st ar st' ar') → In (turned c) (changes st' ar' st ar)
