-- What stands between marks: a quoted value or a text field, at an offset. Assumes nothing.
use Rattle.std.specs.Prelude.{ℕ, ◌+◌, suc, ◌-◌, cond, List, drop}
use Rattle.rules.specs.declared.Reading.{Reading}
use Rattle.columns.specs.Before.{byte_before}
use Rattle.found.specs.declared.Why.{Why}
use Rattle.found.specs.declared.Why.TheVariants.{OpenQuote, OpenField}
use Rattle.found.specs.declared.Found.{Found}
use Rattle.found.specs.declared.Found.TheVariants.{Value, Missing}
use Rattle.std.proofs.Math.Option.{Option, none, some}
use Rattle.rules.specs.declared.Reading.TheVariants.{First, Strict}
use Rattle.text.specs.Bytes.{is_eol}
use Rattle.words.specs.Words.{end_of_word}
use Rattle.quotes.specs.Quotes.{quoted_by, field}

-- the kind of a quoted value: by its mark, or one for both
abbrev pub quote_kind : Reading → ℕ → ℕ
quote_kind First kind = kind
quote_kind Strict kind = 21

-- what stands behind an opening mark, both marks counted
unfoldable pub between : ℕ → Why → Option ℕ → Found
between kind why none = Missing why
between kind why (some n) = Value kind (suc n)

unfoldable pub quote_at : Reading → ℕ → ℕ → List ℕ → ℕ → Found
quote_at r mark kind s o = between (quote_kind r kind) OpenQuote (quoted_by r mark (drop (o + 1) s))

unfoldable pub field_at : List ℕ → ℕ → Found
field_at s o = between 13 OpenField (field (drop (o + 1) s))

-- `;`: in the strict reading a text field in column 1 alone
abbrev pub semicolon_at : Reading → List ℕ → ℕ → Found
semicolon_at First s o = field_at s o
semicolon_at Strict s o = cond (is_eol (byte_before s o)) (field_at s o) (Value 10 (end_of_word s o - o))
