-- A content could be read as its kind (document 01, 'sound'; document 02, Three, for the strict reading): it is a name, or its token, where rendering puts it, is read
-- whole as a value of its kind; only ASCII is read, and in the strict reading only lines that are short and hold no control byte. Assumes nothing.
use Rattle.std.specs.Prelude.{ℕ, Bool, true, false, ◌&&◌, List, ◌++◌, eqb, length}
use Rattle.rules.specs.declared.Reading.{Reading}
use Rattle.rules.specs.declared.Reading.TheVariants.{First, Strict}
use Rattle.text.specs.Bytes.{is_ascii}
use Rattle.text.specs.Runs.{span}
use Rattle.words.specs.Words.{word}
use Rattle.words.specs.Names.{fits_tag, heading_fits}
use Rattle.lines.specs.Lines.{screened, is_fine}
use Rattle.values.specs.Alone.{is_alone}
use Rattle.kinds.specs.declared.Kind.{Kind}
use Rattle.kinds.specs.declared.Kind.TheVariants.{NoKind, Block, FrameOpen, FrameClose, Tag, Loop, LoopTag, LoopEnd}
use Rattle.kinds.specs.declared.Kind.TheVariants.{Inapplicable, Unknown, Bare, SingleQuoted, DoubleQuoted, Multiline, Number, Uncertain, Quoted}
use Rattle.kinds.specs.Kinds.{number_of}
use Rattle.readable.specs.Tokens.{marked, lead, stands}

-- a name is one word, perhaps an empty one
unfoldable pub is_name : List ℕ → Bool
is_name c = eqb (word c) (length c)

-- of a block or frame, of a tag; how long it may be is the reading's to say
abbrev pub is_heading : Reading → Kind → List ℕ → Bool
is_heading r k c = heading_fits r (length (marked k c)) && is_name c

abbrev pub is_tag : Reading → Kind → List ℕ → Bool
is_tag r k c = fits_tag r (length (marked k c)) && is_name c

-- its token, where rendering puts it, is a value of its kind, and nothing stands behind it
abbrev pub is_value : Reading → Kind → List ℕ → Bool
is_value r k c = is_alone r (stands r k c) (number_of k) (marked k c)

-- as a name or as a value: in the first reading no value is of kind 21, in the strict one none of kinds 11 and 12
unfoldable pub readable_by : Reading → Kind → List ℕ → Bool
readable_by r NoKind c = false
readable_by r Block c = is_heading r Block c
readable_by r FrameOpen c = is_heading r FrameOpen c
readable_by r FrameClose c = false
readable_by r Tag c = is_tag r Tag c
readable_by r Loop c = false
readable_by r LoopTag c = is_tag r LoopTag c
readable_by r LoopEnd c = false
readable_by r Inapplicable c = false
readable_by r Unknown c = false
readable_by r Bare c = is_value r Bare c
readable_by r SingleQuoted c = is_value r SingleQuoted c
readable_by r DoubleQuoted c = is_value r DoubleQuoted c
readable_by r Multiline c = is_value r Multiline c
readable_by r Number c = false
readable_by r Uncertain c = false
readable_by r Quoted c = is_value r Quoted c

-- in the strict reading a line has at most 2,048 bytes, and no control byte but tab
abbrev pub keeps_lines : Reading → List ℕ → Bool
keeps_lines First s = true
keeps_lines Strict s = is_fine (screened s)

-- where rendering puts it, its lines are fine and it is read as its kind
abbrev pub is_kept : Reading → Kind → List ℕ → Bool
is_kept r k c = keeps_lines r (lead r k c ++ marked k c) && readable_by r k c

-- only ASCII is read
unfoldable pub readable : Reading → Kind → List ℕ → Bool
readable r k c = eqb (span is_ascii c) (length c) && is_kept r k c
