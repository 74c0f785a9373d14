-- A store as a list of entries, one after the other from its first byte on (document 01, 'Records': one byte of kind, then a body whose length the kind fixes).
-- An entry that cannot be read is `None`, and the last. Assumes nothing.
use Rattle.std.specs.Prelude.{ℕ, zero, suc, ◌-◌, List, [], ◌∷◌, Option, Some, None}
use Rattle.entries.specs.declared.Entry.{Entry}
use Rattle.entries.specs.Entries.{entry_at}

-- on behind an entry: all its bytes but the first still belong to it
unfoldable pub onward : Option Entry → (ℕ → List (Option Entry)) → List (Option Entry)
onward (Some e) rest = Some e ∷ rest (e.next - 1)
onward None rest = None ∷ []

-- the entries of bytes of which the first k belong to an entry read before
unfoldable pub entries_from : List ℕ → ℕ → List (Option Entry)
entries_from [] k = []
entries_from (b ∷ s) zero = onward (entry_at (b ∷ s) 0) (λ k. entries_from s k)
entries_from (b ∷ s) (suc k) = entries_from s k

unfoldable pub entries : List ℕ → List (Option Entry)
entries st = entries_from st 0
