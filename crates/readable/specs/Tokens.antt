-- The token that a content is rendered as (document 01, 'Rendering'; document 02, Three): the content and the marks of its kind. In the strict reading a space stands
-- before a bare value that starts with `;`, which would else open a text field. Assumes nothing.
use Rattle.std.specs.Prelude.{ℕ, Bool, false, cond, ◌&&◌, List, [], ◌∷◌, ◌++◌, eqb}
use Rattle.rules.specs.declared.Reading.{Reading}
use Rattle.rules.specs.declared.Reading.TheVariants.{First, Strict}
use Rattle.text.specs.Bytes.{is, line_feed, space, double_quote, single_quote, semicolon, underscore}
use Rattle.keywords.specs.Keywords.{key_data, key_save}
use Rattle.kinds.specs.declared.Kind.{Kind}
use Rattle.kinds.specs.declared.Kind.TheVariants.{NoKind, Block, FrameOpen, FrameClose, Tag, Loop, LoopTag, LoopEnd}
use Rattle.kinds.specs.declared.Kind.TheVariants.{Inapplicable, Unknown, Bare, SingleQuoted, DoubleQuoted, Multiline, Number, Uncertain, Quoted}
use Rattle.kinds.specs.Kinds.{number_of}

-- the mark that closes a quoted value of the strict reading: the first byte of its content
unfoldable pub mark : List ℕ → List ℕ
mark [] = []
mark (b ∷ c) = b ∷ []

-- a content and the marks of its kind; what has no content has none
abbrev pub marked : Kind → List ℕ → List ℕ
marked NoKind c = []
marked Block c = key_data ++ c
marked FrameOpen c = key_save ++ c
marked FrameClose c = []
marked Tag c = underscore ∷ c
marked Loop c = []
marked LoopTag c = underscore ∷ c
marked LoopEnd c = []
marked Inapplicable c = []
marked Unknown c = []
marked Bare c = c
marked SingleQuoted c = single_quote ∷ (c ++ (single_quote ∷ []))
marked DoubleQuoted c = double_quote ∷ (c ++ (double_quote ∷ []))
marked Multiline c = semicolon ∷ (c ++ (semicolon ∷ []))
marked Number c = []
marked Uncertain c = []
marked Quoted c = c ++ mark c

-- it starts as a text field does
unfoldable pub starts_field : List ℕ → Bool
starts_field [] = false
starts_field (b ∷ c) = is semicolon b

-- a bare value that starts with `;`
unfoldable pub is_bare_field : Kind → List ℕ → Bool
is_bare_field k c = eqb (number_of k) (number_of Bare) && starts_field c

-- a space stands before it
abbrev pub is_led : Reading → Kind → List ℕ → Bool
is_led First k c = false
is_led Strict k c = is_bare_field k c

-- what rendering puts before a token on its line
abbrev pub lead : Reading → Kind → List ℕ → List ℕ
lead r k c = cond (is_led r k c) (space ∷ []) []

-- and the byte behind which the token so stands
abbrev pub stands : Reading → Kind → List ℕ → ℕ
stands r k c = cond (is_led r k c) space line_feed
