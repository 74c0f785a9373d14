-- Limit 1 of document 01. Assumes nothing.
use Rattle.std.specs.Prelude.{ℕ}

-- the largest text, and the largest rendering
unfoldable pub limit : ℕ
limit = 16777216
