-- How a record's line is written: what opens its token, stands in it and closes it, and its length. Assumes nothing.
use Rattle.std.specs.Prelude.{ℕ, ◌+◌, Bool, true, false, cond, ◌&&◌, List, [], ◌∷◌, ◌++◌, length}
use Rattle.rules.specs.declared.Reading.{Reading}
use Rattle.keywords.specs.Keywords.{key_data, key_loop, key_save}
use Rattle.numbers.specs.Spelling.{render_number}
use Rattle.kinds.specs.declared.Kind.{Kind}
use Rattle.kinds.specs.declared.Kind.TheVariants.{NoKind, Block, FrameOpen, FrameClose, Tag, Loop, LoopTag, LoopEnd, Inapplicable, Unknown, Bare, SingleQuoted, DoubleQuoted, Multiline, Number, Uncertain, Quoted}
use Rattle.kinds.specs.declared.Shape.{Shape}
use Rattle.kinds.specs.declared.Shape.TheVariants.{Empty, Place, Content, Count, Parts as PartsShape, PartsUncertain}
use Rattle.entries.specs.declared.Parts.{Parts}
use Rattle.entries.specs.declared.Fields.{Fields}
use Rattle.kinds.specs.Kinds.{shape_of, is_content}
use Rattle.readable.specs.Tokens.{mark, is_led}
use Rattle.contents.specs.Contents.{content_bytes, parts_kept, is_inside}
use Rattle.record_lines.specs.Lines.{decimal_of}

-- the one byte that opens a token; 0 where none does
unfoldable pub mark_of : Kind → ℕ
mark_of NoKind = 0
mark_of Block = 0
mark_of FrameOpen = 0
mark_of FrameClose = 0
mark_of Tag = 95
mark_of Loop = 0
mark_of LoopTag = 95
mark_of LoopEnd = 0
mark_of Inapplicable = 46
mark_of Unknown = 63
mark_of Bare = 0
mark_of SingleQuoted = 39
mark_of DoubleQuoted = 34
mark_of Multiline = 59
mark_of Number = 0
mark_of Uncertain = 0
mark_of Quoted = 0

-- what opens a token
unfoldable pub opening_text : Kind → List ℕ
opening_text NoKind = []
opening_text Block = key_data
opening_text FrameOpen = key_save
opening_text FrameClose = key_save
opening_text Tag = 95 ∷ []
opening_text Loop = key_loop
opening_text LoopTag = 95 ∷ []
opening_text LoopEnd = []
opening_text Inapplicable = 46 ∷ []
opening_text Unknown = 63 ∷ []
opening_text Bare = []
opening_text SingleQuoted = 39 ∷ []
opening_text DoubleQuoted = 34 ∷ []
opening_text Multiline = 59 ∷ []
opening_text Number = []
opening_text Uncertain = []
opening_text Quoted = []

-- what stands in it: its content or its number
unfoldable pub body_by : Shape → List ℕ → Parts → List ℕ
body_by Empty c p = []
body_by Place c p = []
body_by Content c p = c
body_by Count c p = []
body_by PartsShape c p = render_number (decimal_of false p)
body_by PartsUncertain c p = render_number (decimal_of true p)

unfoldable pub body_text : List ℕ → Kind → Fields → List ℕ
body_text ar k f = body_by (shape_of k) (content_bytes ar k f) f.parts

-- what closes a token with the content c, and the line's end
unfoldable pub closing_text : Kind → List ℕ → List ℕ
closing_text NoKind c = 10 ∷ []
closing_text Block c = 10 ∷ []
closing_text FrameOpen c = 10 ∷ []
closing_text FrameClose c = 10 ∷ []
closing_text Tag c = 10 ∷ []
closing_text Loop c = 10 ∷ []
closing_text LoopTag c = 10 ∷ []
closing_text LoopEnd c = 10 ∷ []
closing_text Inapplicable c = 10 ∷ []
closing_text Unknown c = 10 ∷ []
closing_text Bare c = 10 ∷ []
closing_text SingleQuoted c = 39 ∷ 10 ∷ []
closing_text DoubleQuoted c = 34 ∷ 10 ∷ []
closing_text Multiline c = 59 ∷ 10 ∷ []
closing_text Number c = 10 ∷ []
closing_text Uncertain c = 10 ∷ []
closing_text Quoted c = mark c ++ (10 ∷ [])

-- a number has no more digits than can be written
unfoldable pub keeps_digits : Kind → Fields → Bool
keeps_digits k f = cond (is_content (shape_of k)) true (parts_kept f.parts)

-- what writing its token asks of a record: its content lies inside the area, and its number is short enough
unfoldable pub is_writable : List ℕ → Kind → Fields → Bool
is_writable ar k f = is_inside (length ar) k f && keeps_digits k f

-- the length of a token and its LF: P's length is that of a token with content
unfoldable pub plain_length : Kind → Fields → ℕ
plain_length NoKind f = 0
plain_length Block f = 1 + f.token.length
plain_length FrameOpen f = 1 + f.token.length
plain_length FrameClose f = 6
plain_length Tag f = 1 + f.token.length
plain_length Loop f = 6
plain_length LoopTag f = 1 + f.token.length
plain_length LoopEnd f = 0
plain_length Inapplicable f = 2
plain_length Unknown f = 2
plain_length Bare f = 1 + f.token.length
plain_length SingleQuoted f = 1 + f.token.length
plain_length DoubleQuoted f = 1 + f.token.length
plain_length Multiline f = 1 + f.token.length
plain_length Number f = 1 + length (render_number (decimal_of false f.parts))
plain_length Uncertain f = 1 + length (render_number (decimal_of true f.parts))
plain_length Quoted f = 1 + f.token.length

-- and of the line, with what stands before the token
unfoldable pub line_length : Reading → List ℕ → Kind → Fields → ℕ
line_length r ar k f = cond (is_led r k (content_bytes ar k f)) (1 + plain_length k f) (plain_length k f)
