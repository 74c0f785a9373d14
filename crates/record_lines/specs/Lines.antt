-- A record's line (document 01): each record but kind 7 is its token and one LF; in the strict reading a space stands before a bare value that starts with `;` (document
-- 02, Three). Assumes nothing.
use Rattle.std.specs.Prelude.{ℕ, ◌-◌, Bool, true, false, cond, List, [], ◌∷◌, ◌++◌, eqb, leb, Option, Some, None}
use Rattle.rules.specs.declared.Reading.{Reading}
use Rattle.keywords.specs.Keywords.{key_loop, key_save}
use Rattle.numbers.specs.declared.Decimal.{Decimal}
use Rattle.numbers.specs.Spelling.{render_number}
use Rattle.entries.specs.declared.Entry.{Entry}
use Rattle.kinds.specs.declared.Kind.{Kind}
use Rattle.kinds.specs.declared.Kind.TheVariants.{NoKind, Block, FrameOpen, FrameClose, Tag, Loop, LoopTag, LoopEnd, Inapplicable, Unknown, Bare, SingleQuoted, DoubleQuoted, Multiline, Number, Uncertain, Quoted}
use Rattle.entries.specs.declared.Parts.{Parts}
use Rattle.entries.specs.declared.Fields.{Fields}
use Rattle.readable.specs.Tokens.{marked, lead}
use Rattle.contents.specs.Contents.{content_bytes}

-- the decimal that stored parts stand for: the exponent is kept in two's complement
unfoldable pub decimal_of : Bool → Parts → Decimal
decimal_of uncertain p =
    record {
      minus = eqb p.sign 1;
      integer = p.integer;
      fraction = p.fraction;
      places = p.places;
      lowers = leb 2147483648 p.exponent;
      exponent = cond (leb 2147483648 p.exponent) (4294967296 - p.exponent) p.exponent;
      uncertain = uncertain;
      uncertainty = p.uncertainty;
    }

-- a record's token, from its content c or its parts
unfoldable pub token_text : Kind → List ℕ → Parts → List ℕ
token_text NoKind c p = []
token_text Block c p = marked Block c
token_text FrameOpen c p = marked FrameOpen c
token_text FrameClose c p = key_save
token_text Tag c p = marked Tag c
token_text Loop c p = key_loop
token_text LoopTag c p = marked LoopTag c
token_text LoopEnd c p = []
token_text Inapplicable c p = 46 ∷ []
token_text Unknown c p = 63 ∷ []
token_text Bare c p = marked Bare c
token_text SingleQuoted c p = marked SingleQuoted c
token_text DoubleQuoted c p = marked DoubleQuoted c
token_text Multiline c p = marked Multiline c
token_text Number c p = render_number (decimal_of false p)
token_text Uncertain c p = render_number (decimal_of true p)
token_text Quoted c p = marked Quoted c

-- a token and one LF, but nothing of a loop's end
unfoldable pub is_end : Kind → Bool
is_end NoKind = true
is_end Block = false
is_end FrameOpen = false
is_end FrameClose = false
is_end Tag = false
is_end Loop = false
is_end LoopTag = false
is_end LoopEnd = true
is_end Inapplicable = false
is_end Unknown = false
is_end Bare = false
is_end SingleQuoted = false
is_end DoubleQuoted = false
is_end Multiline = false
is_end Number = false
is_end Uncertain = false
is_end Quoted = false

abbrev pub plain_line : List ℕ → Kind → Fields → List ℕ
plain_line ar k f = cond (is_end k) [] (token_text k (content_bytes ar k f) f.parts ++ (10 ∷ []))

-- a record's line: before its token what the reading puts there
unfoldable pub line_of : Reading → List ℕ → Option Entry → List ℕ
line_of r ar None = []
line_of r ar (Some e) = lead r e.kind (content_bytes ar e.kind e.fields) ++ plain_line ar e.kind e.fields
