-- How long a name may be (document 02, Three): in the strict reading no name is empty, a tag has at most 75 bytes with its `_`, and the names of blocks and frames
-- have at most 75. Document 01 asks for neither. Assumes nothing.
use Rattle.std.specs.Prelude.{ℕ, Bool, true, ◌&&◌, leb, ltb}
use Rattle.rules.specs.declared.Reading.{Reading}
use Rattle.rules.specs.declared.Reading.TheVariants.{First, Strict}

-- the longest tokens with a name: a tag with its mark, a heading with the five bytes of its keyword
abbrev pub tag_most : ℕ
tag_most = 75

abbrev pub heading_most : ℕ
heading_most = 80

-- a token of n bytes, the first of which are its mark, has a name that may stand
abbrev pub name_fits : Reading → (mark most n : ℕ) → Bool
name_fits First mark most n = true
name_fits Strict mark most n = ltb mark n && leb n most

-- of a tag; of a heading
abbrev pub fits_tag : Reading → ℕ → Bool
fits_tag r n = name_fits r 1 tag_most n

abbrev pub heading_fits : Reading → ℕ → Bool
heading_fits r n = name_fits r 5 heading_most n
