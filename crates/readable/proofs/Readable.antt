-- Laws of a content that could be read as its kind: kind 21 is the strict reading's alone, kinds 11 and 12 are the first's. Assumes nothing.
use Prim.Native.Nat.{ℕ}
use mathlib.Core.Path.{◌≡◌, refl, sym, ◌∙◌}
use mathlib.Core.Bool.{true, false, true≢false, false≢true}
use mathlib.Core.List.{List, [], ◌∷◌, ◌++◌}
use native.Mathlib.Omega.{arith}
use lib.Dec.{eqb}
use lib.ListN.{length, get_or}
use Rattle.rules.specs.declared.Reading.{Reading}
use Rattle.rules.specs.declared.Reading.TheVariants.{First, Strict}
use Rattle.kinds.specs.declared.Kind.{Kind}
use Rattle.kinds.specs.declared.Kind.TheVariants.{NoKind, Block, FrameOpen, FrameClose, Tag, Loop, LoopTag, LoopEnd}
use Rattle.kinds.specs.declared.Kind.TheVariants.{Inapplicable, Unknown, Bare, SingleQuoted, DoubleQuoted, Multiline, Number, Uncertain, Quoted}
use Rattle.text.specs.Bytes.{is_ascii}
use Rattle.text.specs.Runs.{span}
use Rattle.text.proofs.Bools.{and_r}
use Rattle.lines.specs.Lines.{screened, is_fine}
use Rattle.values.proofs.Alone.{alone-none, first-quoted, strict-by-mark}
use Rattle.readable.specs.Tokens.{mark, is_bare_field, is_led}
use Rattle.readable.specs.Readable.{readable_by, readable}

pub first-no-quoted : (c : List ℕ) → readable_by First Quoted c ≡ false
unfolding readable_by
first-no-quoted c = first-quoted 10 _

pub strict-no-single : (c : List ℕ) → readable_by Strict SingleQuoted c ≡ false
unfolding readable_by
strict-no-single c = strict-by-mark _ 11 (omega arith) (omega arith) _

pub strict-no-double : (c : List ℕ) → readable_by Strict DoubleQuoted c ≡ false
unfolding readable_by
strict-no-double c = strict-by-mark _ 12 (omega arith) (omega arith) _

-- no space stands before a token but a bare value that starts with `;`
pub led-other : (r : Reading) (k : Kind) (c : List ℕ) → is_bare_field k c ≡ false → is_led r k c ≡ false
led-other First k c e = refl
led-other Strict k c e = e

pub led-bare : (r : Reading) (k : Kind) (c : List ℕ) → is_led r k c ≡ true → k ≡ Bare
unfolding is_bare_field
led-bare First k c e = absurd (false≢true e)
led-bare Strict NoKind c e = absurd (false≢true e)
led-bare Strict Block c e = absurd (false≢true e)
led-bare Strict FrameOpen c e = absurd (false≢true e)
led-bare Strict FrameClose c e = absurd (false≢true e)
led-bare Strict Tag c e = absurd (false≢true e)
led-bare Strict Loop c e = absurd (false≢true e)
led-bare Strict LoopTag c e = absurd (false≢true e)
led-bare Strict LoopEnd c e = absurd (false≢true e)
led-bare Strict Inapplicable c e = absurd (false≢true e)
led-bare Strict Unknown c e = absurd (false≢true e)
led-bare Strict Bare c e = refl
led-bare Strict SingleQuoted c e = absurd (false≢true e)
led-bare Strict DoubleQuoted c e = absurd (false≢true e)
led-bare Strict Multiline c e = absurd (false≢true e)
led-bare Strict Number c e = absurd (false≢true e)
led-bare Strict Uncertain c e = absurd (false≢true e)
led-bare Strict Quoted c e = absurd (false≢true e)

-- what closes a quoted value of the strict reading: its first byte again
pub mark-none : (c : List ℕ) → length c ≡ 0 → mark c ≡ []
unfolding mark
mark-none [] h = refl
mark-none (b ∷ c) h = absurd (omega arith)

pub mark-some : (c : List ℕ) → (length c ≡ 0 → ⊥) → mark c ≡ get_or c 0 0 ∷ []
unfolding mark
mark-some [] h = absurd (h refl)
mark-some (b ∷ c) h = refl

-- such a value is not empty
pub quoted-some : (r : Reading) (c : List ℕ) → readable r Quoted c ≡ true → length c ≡ 0 → ⊥
unfolding readable readable_by is_bare_field mark
quoted-some First c h z = true≢false (sym (and_r (eqb (span is_ascii c) (length c)) _ h) ∙ first-quoted 10 (c ++ mark c))
quoted-some Strict [] h z = true≢false (sym (and_r (is_fine (screened [])) _ (and_r (eqb (span is_ascii []) 0) _ h)) ∙ empty)
  where
    empty : readable_by Strict Quoted [] ≡ false
    empty = alone-none Strict 10 21
quoted-some Strict (b ∷ c) h z = omega arith
