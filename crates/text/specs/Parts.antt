-- A part of a text, or of an area. Assumes nothing.
use Rattle.std.specs.Prelude.{ℕ, List, take, drop}

-- so many bytes from an offset on
unfoldable pub part : List ℕ → ℕ → ℕ → List ℕ
part s from size = take size (drop from s)
