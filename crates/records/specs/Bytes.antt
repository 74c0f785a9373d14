-- Little-endian numbers. Assumes nothing.
use Rattle.std.specs.Prelude.{ℕ, ◌-◌, ◌%◌, ◌/◌, Bool, cond, List, [], ◌∷◌, ◌++◌}

-- four bytes, the lowest first
unfoldable pub le32 : ℕ → List ℕ
le32 v = v % 256 ∷ v / 256 % 256 ∷ v / 65536 % 256 ∷ v / 16777216 % 256 ∷ []

-- eight bytes, the lowest first
unfoldable pub le64 : ℕ → List ℕ
le64 v = le32 (v % 4294967296) ++ le32 (v / 4294967296)

-- a signed number of four bytes, by its sign and size
unfoldable pub signed32 : Bool → ℕ → List ℕ
signed32 minus v = le32 (cond minus (4294967296 - v) v)

-- a flag as a byte
unfoldable pub flag : Bool → ℕ
flag b = cond b 1 0
