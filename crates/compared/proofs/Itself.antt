-- COMPARE KEEPS (document 02, Four): a store that may be compared, compared with itself, gives an empty list, whatever room is lent. Assumes nothing.
use Prim.Native.Nat.{ℕ}
use mathlib.Core.Path.{◌≡◌}
use mathlib.Core.List.{List, []}
use native.Mathlib.Omega.{arith}
use borrow.Author.Tests.{le-leb}
use lib.ListN.{length}
use Rattle.rules.specs.declared.Reading.{Reading}
use Rattle.records.specs.Put.{front}
use Rattle.changes.specs.Changes.{changes_bytes}
use Rattle.std.specs.Prelude.{Ok}
use Rattle.comparing.specs.Comparing.{bytes_of, judged, refusal_of, fitted, answered, comparing, list_after}
use Rattle.comparing.proofs.Answers.{judged-singular}
use Rattle.soles.specs.Members.{Sole}
use Rattle.soles.proofs.Columns.{singular-sole}
use Rattle.compared.proofs.Selves.{self-empty}

pub judged-sole : (r : Reading) (st ar : List ℕ) → judged r st ar ≡ Ok tt → Sole st ar
judged-sole r st ar e = singular-sole st ar (judged-singular r st ar e)

-- its list is empty
pub itself-empty : (r : Reading) (st ar : List ℕ) → judged r st ar ≡ Ok tt → bytes_of st ar st ar ≡ []
unfolding bytes_of changes_bytes
itself-empty r st ar e = rw (self-empty st ar (judged-sole r st ar e))

-- where the list of two stores that may be compared is empty, any room will do, and the lent list stays as it was
module _ (r : Reading) (st ar st' ar' : List ℕ) (e : judged r st ar ≡ Ok tt) (e' : judged r st' ar' ≡ Ok tt) (none : bytes_of st ar st' ar' ≡ []) where
  pub empty-compared : (room : ℕ) → comparing r st ar st' ar' room ≡ Ok 0
  unfolding comparing refusal_of answered fitted
  empty-compared room = rw (e, e', none, le-leb 0 room (omega arith))

  pub empty-kept : (l : List ℕ) → list_after (comparing r st ar st' ar' (length l)) (bytes_of st ar st' ar') l ≡ l
  unfolding list_after front
  empty-kept l = rw (empty-compared (length l), none)
