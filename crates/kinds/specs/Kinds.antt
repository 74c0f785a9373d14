-- The kinds of records (document 01, 'Records'; 21 is document 02's, Three): their numbers, the shapes of their bodies, the lengths of those, and
-- the marks that a token has and its content has not. Assumes nothing.
use Rattle.std.specs.Prelude.{ℕ, Bool, true, false, cond, ◌&&◌, ◌||◌, eqb, leb}
use Rattle.kinds.specs.declared.Kind.{Kind}
use Rattle.kinds.specs.declared.Kind.TheVariants.{NoKind, Block, FrameOpen, FrameClose, Tag, Loop, LoopTag}
use Rattle.kinds.specs.declared.Kind.TheVariants.{LoopEnd, Inapplicable, Unknown, Bare, SingleQuoted}
use Rattle.kinds.specs.declared.Kind.TheVariants.{DoubleQuoted, Multiline, Number, Uncertain, Quoted}
use Rattle.kinds.specs.declared.Shape.{Shape}
use Rattle.kinds.specs.declared.Shape.TheVariants.{Empty, Place, Content, Count, Parts, PartsUncertain}

abbrev pub number_of : Kind → ℕ
number_of NoKind = 0
number_of Block = 1
number_of FrameOpen = 2
number_of FrameClose = 3
number_of Tag = 4
number_of Loop = 5
number_of LoopTag = 6
number_of LoopEnd = 7
number_of Inapplicable = 8
number_of Unknown = 9
number_of Bare = 10
number_of SingleQuoted = 11
number_of DoubleQuoted = 12
number_of Multiline = 13
number_of Number = 14
number_of Uncertain = 15
number_of Quoted = 21

-- the kind of a number
unfoldable pub kind_of : ℕ → Kind
kind_of k =
    cond (eqb k 1) Block
    (cond (eqb k 2) FrameOpen
    (cond (eqb k 3) FrameClose
    (cond (eqb k 4) Tag
    (cond (eqb k 5) Loop
    (cond (eqb k 6) LoopTag
    (cond (eqb k 7) LoopEnd
    (cond (eqb k 8) Inapplicable
    (cond (eqb k 9) Unknown
    (cond (eqb k 10) Bare
    (cond (eqb k 11) SingleQuoted
    (cond (eqb k 12) DoubleQuoted
    (cond (eqb k 13) Multiline
    (cond (eqb k 14) Number
    (cond (eqb k 15) Uncertain
    (cond (eqb k 21) Quoted NoKind)))))))))))))))

unfoldable pub shape_of : Kind → Shape
shape_of NoKind = Empty
shape_of Block = Content
shape_of FrameOpen = Content
shape_of FrameClose = Place
shape_of Tag = Content
shape_of Loop = Count
shape_of LoopTag = Content
shape_of LoopEnd = Empty
shape_of Inapplicable = Place
shape_of Unknown = Place
shape_of Bare = Content
shape_of SingleQuoted = Content
shape_of DoubleQuoted = Content
shape_of Multiline = Content
shape_of Number = Parts
shape_of Uncertain = PartsUncertain
shape_of Quoted = Content

-- the bytes of a body
unfoldable pub shape_length : Shape → ℕ
shape_length Empty = 0
shape_length Place = 16
shape_length Content = 20
shape_length Count = 20
shape_length Parts = 34
shape_length PartsUncertain = 38

-- in the outline every body is P, except kind 7 with none
unfoldable pub outline_shape : Shape → Shape
outline_shape Empty = Empty
outline_shape Place = Place
outline_shape Content = Place
outline_shape Count = Place
outline_shape Parts = Place
outline_shape PartsUncertain = Place

-- the bytes of a token that are no content: `data_` and `save_`, `_`, two marks; a quoted value of the strict reading keeps the mark that opens it
unfoldable pub marks_of : Kind → ℕ
marks_of NoKind = 0
marks_of Block = 5
marks_of FrameOpen = 5
marks_of FrameClose = 0
marks_of Tag = 1
marks_of Loop = 0
marks_of LoopTag = 1
marks_of LoopEnd = 0
marks_of Inapplicable = 0
marks_of Unknown = 0
marks_of Bare = 0
marks_of SingleQuoted = 2
marks_of DoubleQuoted = 2
marks_of Multiline = 2
marks_of Number = 0
marks_of Uncertain = 0
marks_of Quoted = 1

-- how many of them stand before the content
unfoldable pub opening : Kind → ℕ
opening NoKind = 0
opening Block = 5
opening FrameOpen = 5
opening FrameClose = 0
opening Tag = 1
opening Loop = 0
opening LoopTag = 1
opening LoopEnd = 0
opening Inapplicable = 0
opening Unknown = 0
opening Bare = 0
opening SingleQuoted = 1
opening DoubleQuoted = 1
opening Multiline = 1
opening Number = 0
opening Uncertain = 0
opening Quoted = 0

-- a body with an area offset has content
unfoldable pub is_content : Shape → Bool
is_content Empty = false
is_content Place = false
is_content Content = true
is_content Count = false
is_content Parts = false
is_content PartsUncertain = false

-- by the kind's number
unfoldable pub body_length : ℕ → ℕ
body_length k = shape_length (shape_of (kind_of k))

unfoldable pub outline_length : ℕ → ℕ
outline_length k = shape_length (outline_shape (shape_of (kind_of k)))

unfoldable pub has_content : ℕ → Bool
has_content k = is_content (shape_of (kind_of k))

-- the kinds of values: 8 to 15, and 21 of the strict reading
unfoldable pub is_value_kind : ℕ → Bool
is_value_kind k = (leb 8 k && leb k 15) || eqb k 21
