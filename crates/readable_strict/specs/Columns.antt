-- Where a content stands on its line in the strict reading. Assumes nothing.
use Rattle.std.specs.Prelude.{ℕ, cond, List}
use Rattle.kinds.specs.declared.Kind.{Kind}
use Rattle.kinds.specs.declared.Kind.TheVariants.{NoKind, Block, FrameOpen, FrameClose, Tag, Loop, LoopTag, LoopEnd}
use Rattle.kinds.specs.declared.Kind.TheVariants.{Inapplicable, Unknown, Bare, SingleQuoted, DoubleQuoted, Multiline, Number, Uncertain, Quoted}
use Rattle.readable.specs.Tokens.{is_bare_field}

-- the bytes before it: a keyword, a mark, a space. The mark that closes a quoted value stands behind it on the same line, and is counted here
abbrev pub column_of : Kind → List ℕ → ℕ
column_of NoKind c = 0
column_of Block c = 5
column_of FrameOpen c = 5
column_of FrameClose c = 0
column_of Tag c = 1
column_of Loop c = 0
column_of LoopTag c = 1
column_of LoopEnd c = 0
column_of Inapplicable c = 0
column_of Unknown c = 0
column_of Bare c = cond (is_bare_field Bare c) 1 0
column_of SingleQuoted c = 0
column_of DoubleQuoted c = 0
column_of Multiline c = 1
column_of Number c = 0
column_of Uncertain c = 0
column_of Quoted c = 1
