-- Bytes that are one value and nothing else. Assumes nothing.
use Rattle.std.specs.Prelude.{ℕ, Bool, false, ◌&&◌, List, eqb, length}
use Rattle.rules.specs.declared.Reading.{Reading}
use Rattle.values.specs.Values.{Class, block, loop, save, tag, value, over_limit, nothing, lex_as_value}

-- a class is a value of kind k
unfoldable pub is_kind : ℕ → Class → Bool
is_kind k (value j) = eqb j k
is_kind k block = false
is_kind k loop = false
is_kind k save = false
is_kind k tag = false
is_kind k over_limit = false
is_kind k (nothing w) = false

-- w alone, behind the byte p, is a value of kind k, and nothing stands behind it
unfoldable pub is_alone : Reading → ℕ → ℕ → List ℕ → Bool
is_alone r p k w = is_kind k (lex_as_value r p w).class && eqb (lex_as_value r p w).size (length w)
