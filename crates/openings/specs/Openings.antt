-- Where a tag that may stand ends: document 01's word, in the strict reading of at most 75 bytes and with a name (document 02, Three). Assumes nothing.
use Rattle.std.specs.Prelude.{ℕ, ◌-◌, cond, ◌&&◌, List}
use Rattle.rules.specs.declared.Reading.{Reading}
use Rattle.words.specs.Words.{end_of_word}
use Rattle.words.specs.Names.{fits_tag}
use Rattle.grammar.specs.Tokens.{tag_at}

-- the end of the tag at an offset; where none may stand, the offset itself
unfoldable pub name_end : Reading → List ℕ → ℕ → ℕ
name_end r s o = cond (tag_at r s o && fits_tag r (end_of_word s o - o)) (end_of_word s o) o
