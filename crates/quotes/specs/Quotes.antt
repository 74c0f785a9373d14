-- Quoted values and text fields: a quote runs to the next same mark, failing at a line end or the end (document 01); in
-- the strict reading only to one that space, a line end or the text's end follows (document 02, Three). A text field runs
-- to the first `;` directly after a line end. Assumes nothing.
use Rattle.std.specs.Prelude.{ℕ, suc, Bool, true, false, cond, ◌&&◌, List, [], ◌∷◌}
use Rattle.std.proofs.Math.Option.{Option, none, some}
use Rattle.rules.specs.declared.Reading.{Reading}
use Rattle.rules.specs.declared.Reading.TheVariants.{First, Strict}
use Rattle.text.specs.Bytes.{is, is_eol, is_space, semicolon}

-- one byte more
unfoldable pub more : Option ℕ → Option ℕ
more none = none
more (some n) = some (suc n)

-- behind an opening mark m: the length up to and with the next m, which stands on the same line
unfoldable pub quoted : ℕ → List ℕ → Option ℕ
quoted m [] = none
quoted m (b ∷ s) = let r = more (quoted m s) in cond (is m b) (some 1) (cond (is_eol b) none r)

-- space, tab, a line end or the text's end stands here
unfoldable pub ends_here : List ℕ → Bool
ends_here [] = true
ends_here (b ∷ s) = is_space b

-- the same with the next m that stands before space, tab, a line end or the text's end: `'a'b'` is one quote
unfoldable pub strict_quoted : ℕ → List ℕ → Option ℕ
strict_quoted m [] = none
strict_quoted m (b ∷ s) =
    let r = more (strict_quoted m s) in cond (is m b && ends_here s) (some 1) (cond (is_eol b) none r)

-- a mark closes, where s stands behind it: any does, or in the strict reading one before space
abbrev pub closes : Reading → List ℕ → Bool
closes First s = true
closes Strict s = ends_here s

-- by the reading
abbrev pub quoted_by : Reading → ℕ → List ℕ → Option ℕ
quoted_by First m s = quoted m s
quoted_by Strict m s = strict_quoted m s

-- behind an opening `;`: the length up to and with the first `;` directly after a line end. The flag: a byte of a line
-- end stands before
unfoldable pub field_in : Bool → List ℕ → Option ℕ
field_in e [] = none
field_in e (b ∷ s) = let r = more (field_in (is_eol b) s) in cond (e && is semicolon b) (some 1) r

unfoldable pub field : List ℕ → Option ℕ
field s = field_in false s
