-- What a search for a closing mark answers: the offset behind it, or that there is none. Assumes nothing.
use Rattle.std.specs.Prelude.{ℕ, ◌+◌, List, drop}
use Rattle.std.proofs.Math.Option.{Option, none, some}
use Rattle.std.specs.Prelude.{Option as Maybe, Some, None}
use Rattle.rules.specs.declared.Reading.{Reading}
use Rattle.quotes.specs.Quotes.{quoted, quoted_by, field}

-- a length from offset o on, as an offset
unfoldable pub closing : ℕ → Option ℕ → Maybe ℕ
closing o none = None
closing o (some n) = Some (o + n)

-- behind the next mark on the line, from offset o on
unfoldable pub mark_end : ℕ → List ℕ → ℕ → Maybe ℕ
mark_end m s o = closing o (quoted m (drop o s))

-- behind the mark that closes a quote whose content starts at offset o
unfoldable pub quote_end : Reading → ℕ → List ℕ → ℕ → Maybe ℕ
quote_end r m s o = closing o (quoted_by r m (drop o s))

-- behind the `;` that closes a text field whose content starts at offset o
unfoldable pub field_end : List ℕ → ℕ → Maybe ℕ
field_end s o = closing o (field (drop o s))
