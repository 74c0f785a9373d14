-- A number made of a name's scope and folded bytes: names that are the same have the same number. Assumes nothing.
use Rattle.std.specs.Prelude.{ℕ, ◌+◌, ◌*◌, ◌/◌, ◌%◌, List, [], ◌∷◌}
use Rattle.folding.specs.Folding.{folded}
use Rattle.names.specs.Names.{Name}

-- one byte more; below 2 to the power of 62
unfoldable pub mix : ℕ → ℕ → ℕ
mix h b = h % 4294967296 * 698769069 + (h / 4294967296 + b)

unfoldable pub mix_all : ℕ → List ℕ → ℕ
mix_all h [] = h
mix_all h (b ∷ s) = mix_all (mix h b) s

-- a name's number: two more steps spread names that differ in their last byte alone
unfoldable pub hash_of : Name → ℕ
hash_of x = mix (mix (mix_all x.scope (folded x.bytes)) 0) 0
